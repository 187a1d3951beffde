-- A path that is another or lies below it, name by name: what the tests `within` and `lies_below` say.
use Rattle.std.specs.Prelude.{◌≡◌, refl, true, false, not}
use Rattle.std.proofs.Common.{ap₂}
use Rattle.std.proofs.Math.Bool.{or-true}
use Rattle.std.proofs.lemmas.Bool.{not-true}
use Rattle.buffers.specs.Cases.{case, and_both, contra}
use Rattle.buffers.specs.Text.{same_text}
use Rattle.buffers.specs.TextLaws.{same_text_refl, same_text_sound}
use Rattle.syntax.specs.Path.{Name, Path, root, ◌▹◌, same_path, within, lies_below}

-- the paths that are p or lie below it
pub data Lies (p : Path) : Path → Type 0 where
  itself : Lies p p
  deeper : {q : Path} {n : Name} → Lies p q → Lies p (q ▹ n)

-- paths that are the same by the test are one path
pub same_path_sound : (p q : Path) → same_path p q ≡ true → p ≡ q
unfolding same_path
same_path_sound root root e = refl
same_path_sound root (q ▹ m) e = cc
same_path_sound (p ▹ n) root e = cc
same_path_sound (p ▹ n) (q ▹ m) e =
    let h = and_both (same_text n m) (same_path p q) e in
    ap₂ ◌▹◌ (same_path_sound p q h.1) (same_text_sound n m h.0)

-- and one path is the same
pub same_path_refl : (p : Path) → same_path p p ≡ true
unfolding same_path
same_path_refl root = refl
same_path_refl (p ▹ n) = rw (same_text_refl n) (same_path_refl p)

-- what the test finds within p lies there
pub lies : (p q : Path) → within p q ≡ true → Lies p q
unfolding within
lies p root e = rw (same_path_sound p root e) itself
lies p (q ▹ n) e = case (same_path p (q ▹ n))
    (λ t. rw (same_path_sound p (q ▹ n) t) itself)
    (λ t. deeper (lies p q (rw t at e)))

within_self : (p : Path) → within p p ≡ true
unfolding within
within_self root = same_path_refl root
within_self (p ▹ n) = rw (same_path_refl (p ▹ n))

-- and what lies there the test finds
pub lies_within : {p q : Path} → Lies p q → within p q ≡ true
unfolding within
lies_within {p} itself = within_self p
lies_within {p} (deeper {q = q} {n = n} l) = rw (lies_within l) (or-true (same_path p (q ▹ n)))

-- what the test finds outside p does not lie within it
pub lies_outside : {P : Type 0} {p q : Path} → within p q ≡ false → Lies p q → P
lies_outside e l = contra (lies_within l) e

-- every path lies below `/`
pub lies_top : (q : Path) → Lies root q
lies_top root = itself
lies_top (q ▹ n) = deeper (lies_top q)

-- what the test finds outside p is not p
pub outside_differs : (p q : Path) → within p q ≡ false → same_path p q ≡ false
unfolding within
outside_differs p root e = e
outside_differs p (q ▹ n) e = case (same_path p (q ▹ n)) (λ t. contra (rw t refl) e) (λ t. t)

-- of two paths that differ the second differs from the first
pub differ_back : (p q : Path) → same_path p q ≡ false → same_path q p ≡ false
differ_back p q e = case (same_path q p) (λ s. contra (rw (same_path_sound q p s) (same_path_refl p)) e) (λ s. s)

-- another path lies below one if it lies within it
pub apart_below : (p q : Path) → same_path p q ≡ false → lies_below p q ≡ within p q
unfolding lies_below
apart_below p q e = case (within p q) (λ i. rw (i, e)) (λ i. rw i)

-- `/` lies below no path
pub top_not_below : {P : Type 0} (p : Path) → lies_below p root ≡ true → P
unfolding lies_below within
top_not_below p b = let i = and_both (same_path p root) (not (same_path p root)) b in contra i.0 (not-true (same_path p root) i.1)

-- the parent of a path below p is p or lies below it
pub below_parent : (p q : Path) (n : Name) → lies_below p (q ▹ n) ≡ true → within p q ≡ true
unfolding lies_below within
below_parent p q n b =
    let i = and_both (within p (q ▹ n)) (not (same_path p (q ▹ n))) b in
    rw (not-true (same_path p (q ▹ n)) i.1) at i.0
