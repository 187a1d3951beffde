-- What the text of a path tells of the path: whether it is `/`, whether it is reserved, and whether it is another or lies within it.
use Rattle.std.specs.Prelude.{◌≡◌, ◌∷◌, ◌++◌, ◌⊎◌, ◌||◌, ℕ, suc, ◌≤◌, ◌<◌, eqb, leb, take, drop, get_or}
use Rattle.std.proofs.Math.Path.{refl}
use Rattle.std.proofs.Common.{sym, ap, ◌∙◌, inl, inr, arith, eq-eqb, eqb-true, length-append, length-take, take-append-drop, take_all, drop-cons}
use Rattle.std.proofs.Math.Option.{some}
use Rattle.std.proofs.Math.Bool.{true, false, or-true}
use Rattle.std.proofs.lemmas.Bool.{eqb-false}
use Rattle.std.proofs.Math.ListN.{length}
use Rattle.std.proofs.Math.Seq.{take-append_seam, get_or-append_seam}
use Rattle.buffers.specs.Cases.{case, and_both, contra}
use Rattle.buffers.specs.Text.{Text, same_text, every}
use Rattle.buffers.specs.TextLaws.{same_text_refl, same_text_sound}
use Rattle.syntax.specs.Pieces.{bytes}
use Rattle.syntax.proofs.FormLaws.{answered}
use Rattle.syntax.specs.Path.{Name, Path, root, ◌▹◌, last, depth, is_top, same_path, within, rep, reserved, name_byte, is_name, most_names, has_names, is_path, path, names_text, path_text}
use Rattle.syntax.specs.Parts.{text_goes_on_from}
use Rattle.syntax.proofs.WithinLaws.{Lies, itself, deeper, same_path_sound, same_path_refl, lies, lies_within}
use Rattle.syntax.proofs.PathLaws.{name_length, path_of_text, path_is_path, last_is_name, text_lies, lies_text}
use Rattle.syntax.proofs.ParentLaws.{text_of_path}

-- ---- `/`

top_length : length (path_text root) ≡ 1
unfolding path_text bytes
top_length = refl

below_length : (p : Path) (n : Name) → is_path (p ▹ n) ≡ true → 2 ≤ length (path_text (p ▹ n))
unfolding path_text names_text is_top last
below_length p n h = omega (arith, length-append (names_text p) (47 ∷ n), (name_length n (last_is_name (p ▹ n) h refl)).0)

module _ (s : Text) (p : Path) (reads : path s ≡ some p) where
  is : s ≡ path_text p
  is = text_of_path s p reads

  valid : is_path p ≡ true
  valid = path_is_path s p reads

  -- the text of `/` is one byte
  text_of_top : is_top p ≡ true → length s ≡ 1
  unfolding is_top
  text_of_top e = go p e is
    where
      go : (q : Path) → is_top q ≡ true → s ≡ path_text q → length s ≡ 1
      go root e i = rw i top_length
      go (q ▹ n) e i = contra e refl

  -- any other has two at least
  text_below_top : is_top p ≡ false → 2 ≤ length s
  unfolding is_top
  text_below_top e = go p e is valid
    where
      go : (q : Path) → is_top q ≡ false → s ≡ path_text q → is_path q ≡ true → 2 ≤ length s
      go root e i v = contra refl e
      go (q ▹ n) e i v = rw i (below_length q n v)

  -- so the length tells which it is
  pub top_by_length : length s ≡ 1 → is_top p ≡ true
  top_by_length l = case (is_top p) (λ e. e) (λ e. let z : ⊥ = omega (arith, text_below_top e) in absurd z)

  pub below_by_length : (length s ≡ 1 → ⊥) → is_top p ≡ false
  below_by_length l = case (is_top p) (λ e. absurd (l (text_of_top e))) (λ e. e)

  -- no text of a path is empty
  pub text_begins : 0 < length s
  text_begins = case (is_top p) (λ e. omega (arith, text_of_top e)) (λ e. omega (arith, text_below_top e))

  -- ---- `/` and `/rep`

  -- a text that is that of another path
  other_text : (q : Path) → is_path q ≡ true → same_text s (path_text q) ≡ true → p ≡ q
  other_text q v e = answered (sym (path_of_text q v) ∙ ap path (sym (same_text_sound s (path_text q) e)) ∙ reads)

  -- one that is not
  not_text : (q : Path) → same_text s (path_text q) ≡ false → p ≡ q → ⊥
  not_text q e i = contra (rw (is ∙ ap path_text i) (same_text_refl (path_text q))) e

-- the reserved paths are these two
reserved_top : reserved root ≡ true
unfolding reserved
reserved_top = refl

reserved_rep : reserved (root ▹ rep) ≡ true
unfolding reserved
reserved_rep = same_text_refl rep

reserved_alone : (p : Path) → (p ≡ root → ⊥) → (p ≡ root ▹ rep → ⊥) → reserved p ≡ false
unfolding reserved
reserved_alone root a b = absurd (a refl)
reserved_alone (root ▹ n) a b = case (same_text n rep) (λ e. absurd (b (ap (λ (m : Name). root ▹ m) (same_text_sound n rep e)))) (λ e. e)
reserved_alone (p ▹ m ▹ n) a b = refl

rep_is_path : is_path (root ▹ rep) ≡ true
unfolding is_path has_names is_name name_byte every rep bytes depth most_names
rep_is_path = refl

top_is_path : is_path root ≡ true
unfolding is_path has_names depth most_names
top_is_path = refl

-- a path is reserved if its text is `/` or `/rep`
pub reserved_by_text : (s : Text) (p : Path) → path s ≡ some p → reserved p ≡ (same_text s (bytes "/") || same_text s (bytes "/rep"))
unfolding path_text names_text bytes rep
reserved_by_text s p reads = case (same_text s (path_text root))
    (λ e. rw (e, other_text s p reads root top_is_path e) reserved_top)
    (λ e. case (same_text s (path_text (root ▹ rep)))
    (λ f. rw (e, f, other_text s p reads (root ▹ rep) rep_is_path f) reserved_rep)
    (λ f. rw (e, f) (reserved_alone p (not_text s p reads root e) (not_text s p reads (root ▹ rep) f))))

-- ---- a path within another

went_on : (s u : Text) → (u ≡ s) ⊎ ((t : Text) × (u ≡ s ++ (47 ∷ t))) → text_goes_on_from s u ≡ true
unfolding text_goes_on_from
went_on s u (inl e) = rw (e, take_all (length s) s (omega arith), same_text_refl s, eq-eqb (length s) (length s) refl)
went_on s u (inr e) =
    rw (e.1, take-append_seam s (47 ∷ e.0), same_text_refl s, get_or-append_seam s 47 e.0 0) (or-true (eqb (length (s ++ (47 ∷ e.0))) (length s)))

how_it_goes_on : (s u : Text) → text_goes_on_from s u ≡ true → (u ≡ s) ⊎ ((t : Text) × (u ≡ s ++ (47 ∷ t)))
unfolding text_goes_on_from
how_it_goes_on s u h =
    let n = length s in
    let i = and_both (same_text (take n u) s) _ h in
    let front : take n u ≡ s = same_text_sound (take n u) s i.0 in
    case (eqb (length u) n)
    (λ e. inl (sym (take_all n u (omega (arith, eqb-true (length u) n e))) ∙ front))
    (λ e.
    let byte : eqb (get_or u n 0) 47 ≡ true = rw e at i.1 in
    let longer : n < length u = omega (arith, ap length front, length-take n u, eqb-false (length u) n e) in
    inr (
      drop (suc n) u,
      sym (take-append-drop n u) ∙ ap (λ (l : Text). l ++ drop n u) front
          ∙ ap (λ (l : Text). s ++ l) (drop-cons u n 0 longer ∙ ap (λ (x : ℕ). x ∷ drop (suc n) u) (eqb-true (get_or u n 0) 47 byte)),
    ))

lies_below_top : {p q : Path} → Lies p q → is_top p ≡ false → is_top q ≡ false
unfolding is_top
lies_below_top itself h = h
lies_below_top (deeper l) h = refl

names_of_path : (p : Path) → is_path p ≡ true → has_names p ≡ true
unfolding is_path
names_of_path p h = (and_both (has_names p) (leb (depth p) most_names) h).0

text_of_names : (p : Path) → is_top p ≡ false → path_text p ≡ names_text p
unfolding path_text is_top
text_of_names root h = contra {b = true} refl h
text_of_names (p ▹ n) h = refl

module _ (s u : Text) (p q : Path) (reads : path s ≡ some p) (other : path u ≡ some q) (below : is_top p ≡ false) where
  lies_on : Lies p q → (u ≡ s) ⊎ ((t : Text) × (u ≡ s ++ (47 ∷ t)))
  lies_on l =
      let a : s ≡ names_text p = text_of_path s p reads ∙ text_of_names p below in
      let b : u ≡ names_text q = text_of_path u q other ∙ text_of_names q (lies_below_top l below) in
      elim (lies_text l) [
        | inl e ↦ inl (b ∙ e ∙ sym a)
        | inr e ↦ inr (e.0, b ∙ e.1 ∙ ap (λ (x : Text). x ++ (47 ∷ e.0)) (sym a))
      ]

  on_lies : (u ≡ s) ⊎ ((t : Text) × (u ≡ s ++ (47 ∷ t))) → Lies p q
  on_lies (inl e) = rw (answered (sym reads ∙ ap path (sym e) ∙ other)) itself
  on_lies (inr e) =
      let top : is_top q ≡ false = below_by_length u q other (λ l. omega (arith, ap length e.1, length-append s (47 ∷ e.0), text_below_top s p reads below)) in
      text_lies p q e.0 (names_of_path p (path_is_path s p reads)) (names_of_path q (path_is_path u q other))
      (sym (text_of_names q top) ∙ sym (text_of_path u q other) ∙ e.1 ∙ ap (λ (x : Text). x ++ (47 ∷ e.0)) (text_of_path s p reads ∙ text_of_names p below))

  -- a path lies within another if its text is the other's, or goes on behind it with a `/`
  pub within_by_text : within p q ≡ text_goes_on_from s u
  within_by_text = case (within p q)
      (λ i. i ∙ sym (went_on s u (lies_on (lies p q i))))
      (λ i. case (text_goes_on_from s u)
      (λ g. contra (lies_within (on_lies (how_it_goes_on s u g))) i)
      (λ g. i ∙ sym g))

-- ---- a path that is another

-- two paths are one if their texts are
pub same_by_text : (s u : Text) (p q : Path) → path s ≡ some p → path u ≡ some q → same_path p q ≡ same_text s u
same_by_text s u p q reads other = case (same_path p q)
    (λ i.
    let one : s ≡ u = text_of_path s p reads ∙ ap path_text (same_path_sound p q i) ∙ sym (text_of_path u q other) in
    i ∙ sym (ap (same_text s) (sym one) ∙ same_text_refl s))
    (λ i. case (same_text s u)
    (λ e. contra (rw (answered (sym reads ∙ ap path (same_text_sound s u e) ∙ other)) (same_path_refl p)) i)
    (λ e. i ∙ sym e))
