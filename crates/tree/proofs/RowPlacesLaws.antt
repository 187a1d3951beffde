-- The rows before and after those of a place stay as they are, whatever the place becomes. Siblings need not stand in order here.
use Rattle.std.specs.Prelude.{◌≡◌, true, length}
use Rattle.std.proofs.Math.Path.{refl, sym, ap}
use Rattle.std.proofs.Common.{◌∙◌, arith, length-append}
use mathlib.Core.List.{List, [], ◌∷◌, ◌++◌, append_assoc, append-nil}
use Rattle.std.proofs.Math.Option.{some}
use Prim.Native.Nat.{ℕ, suc, ◌+◌}
use borrow.Author.Tests.{leb-true, le-leb}
use Rattle.buffers.specs.Cases.{case}
use Rattle.buffers.specs.Text.{same_text}
use Rattle.buffers.specs.TextLaws.{same_text_sound}
use Rattle.syntax.specs.Path.{Name, Path, root, ◌▹◌, last, depth}
use Rattle.syntax.proofs.FormLaws.{no_answer, answered}
use Rattle.tree.specs.Forest.{Forest, nil, node, Place, get, at, under, update, place_at, size}
use Rattle.tree.proofs.ForestLaws.{found_first}
use Rattle.tree.proofs.UpdateLaws.{place_at_parent, update_same}
use Rattle.tree.specs.Rows.{Row, flatten, rows}
use Rattle.tree.proofs.RowLaws.{length_flatten}
use Rattle.tree.specs.RowPlaces.{place_rows, index_of, ends, ahead, Around, children_of, behind}

-- what stands around a stretch w, gathered on either side of it
pub regroup : {B : Type 0} (u : List B) (r : B) (v w x y : List B) → u ++ (r ∷ (v ++ (w ++ x)) ++ y) ≡ (u ++ r ∷ v) ++ (w ++ (x ++ y))
regroup u r v w x y = simp append_assoc

module _ {A : Type 0} where
  -- a tree's rows are those of the place of `/`
  rows_top : (t : Place A) → rows t ≡ place_rows 0 [] t
  unfolding rows place_rows
  rows_top t = refl

  -- a place has a row more than there are nodes below it
  pub length_place_rows : (k : ℕ) (n : Name) (d : Place A) → length (place_rows k n d) ≡ suc (size d.below)
  unfolding place_rows
  length_place_rows k n d = ap suc (length_flatten (suc k) d.below)

  -- the index of a child goes by that of its parent
  pub index_child : (t : Place A) (p : Path) (n : Name) (d : Place A) → place_at t p ≡ some d
      → index_of t (p ▹ n) ≡ suc (index_of t p + size (ahead n d.below))
  unfolding index_of children_of
  index_child t p n d e = rw e

  -- rows that begin no deeper than k begin no deeper than k + 1
  ends_suc : (k : ℕ) (B : List (Row A)) → ends k B ≡ true → ends (suc k) B ≡ true
  unfolding ends
  ends_suc k [] h = refl
  ends_suc k (r ∷ rs) h = let l = leb-true r.depth k h in le-leb r.depth (suc k) (omega arith)

  -- and so do they behind the rows of siblings at that depth
  pub ends_flatten : (k : ℕ) (F : Forest A) (B : List (Row A)) → ends k B ≡ true → ends (suc k) (flatten (suc k) F ++ B) ≡ true
  unfolding ends flatten
  ends_flatten k nil B h = ends_suc k B h
  ends_flatten k (node m x cs rest) B h = le-leb (suc k) (suc k) (omega arith)

  -- a child changed is one stretch of the siblings' rows
  flatten_at : (k : ℕ) (n : Name) (f : Place A → Place A) (F : Forest A) (d : Place A) → get n F ≡ some d
      → flatten k (at n f F) ≡ flatten k (ahead n F) ++ (place_rows k n (f d) ++ flatten k (behind n F))
  unfolding flatten at get ahead behind place_rows
  flatten_at k n f nil d e = no_answer e
  flatten_at k n f (node m x cs rest) d e = case (same_text n m)
      (λ t. rw t (rw (found_first n m x cs rest d t e, same_text_sound n m t)))
      (λ t. let i = flatten_at k n f rest d (rw t at e) in rw t (rw i (simp append_assoc)))

  -- a change of the child that is found is a replacement of it
  at_replaced : (n : Name) (f : Place A → Place A) (F : Forest A) (d : Place A) → get n F ≡ some d → at n f F ≡ at n (λ x. f d) F
  unfolding at get
  at_replaced n f nil d e = refl
  at_replaced n f (node m x cs rest) d e = case (same_text n m)
      (λ t. rw (t, found_first n m x cs rest d t e))
      (λ t. rw (t, at_replaced n f rest d (rw t at e)))

  -- and so is a change of the place at a path
  pub update_at : (t : Place A) (p : Path) (f : Place A → Place A) (d : Place A) → place_at t p ≡ some d → update p f t ≡ update p (λ x. f d) t
  unfolding update under place_at
  update_at t root f d e = ap f (sym (answered e))
  update_at t (p ▹ n) f d e =
      let i = place_at_parent t p n d e in
      update_at t p (under (at n f)) i.0 i.1
      ∙ ap (λ (F : Forest A). update p (λ x. record { here = i.0.here; below = F }) t) (at_replaced n f i.0.below d i.2)
      ∙ sym (update_at t p (under (at n (λ x. f d))) i.0 i.1)

  module _ {t : Place A} {p : Path} {c : Place A} (a : Around t p c) (n : Name) where
    -- the rows before those of the child of a name
    abbrev child_pre : List (Row A)
    child_pre = a.pre ++ (record { depth = depth p; name = last p; here = c.here } ∷ flatten (suc (depth p)) (ahead n c.below))

    -- and those after
    abbrev child_post : List (Row A)
    child_post = flatten (suc (depth p)) (behind n c.below) ++ a.post

    child_same : (f : Place A → Place A) (d : Place A) → get n c.below ≡ some d
        → rows (update (p ▹ n) f t) ≡ child_pre ++ (place_rows (suc (depth p)) n (f d) ++ child_post)
    unfolding update under place_rows
    child_same f d g =
        let k = suc (depth p) in
        let r : Row A = record { depth = depth p; name = last p; here = c.here } in
        ap rows (update_at t p (under (at n f)) c a.there)
        ∙ a.same (under (at n f) c)
        ∙ ap (λ (l : List (Row A)). a.pre ++ (r ∷ l ++ a.post)) (flatten_at k n f c.below d g)
        ∙ regroup a.pre r (flatten k (ahead n c.below)) (place_rows k n (f d)) (flatten k (behind n c.below)) a.post

    child_index : length child_pre ≡ suc (index_of t p + size (ahead n c.below))
    child_index = length-append a.pre _ ∙ omega (arith, a.index, length_flatten (suc (depth p)) (ahead n c.below))

  -- the place at a path stands so among the rows
  pub around : (t : Place A) (p : Path) (d : Place A) → place_at t p ≡ some d → Around t p d
  unfolding depth last update index_of ends place_at
  around t root d e =
      record {
        there = e;
        pre = [];
        post = [];
        same = λ x. rows_top x ∙ sym (append-nil (place_rows 0 [] x));
        was = rw (answered e) (rows_top t ∙ sym (append-nil (place_rows 0 [] t)));
        stops = refl;
        index = refl;
      }
  around t (p ▹ n) d e =
      let i = place_at_parent t p n d e in
      let a = around t p i.0 i.1 in
      record {
        there = e;
        pre = child_pre a n;
        post = child_post a n;
        same = λ x. child_same a n (λ y. x) d i.2;
        was = ap rows (sym (update_same t (p ▹ n) (λ x. d) d e refl)) ∙ child_same a n (λ x. d) d i.2;
        stops = ends_flatten (depth p) (behind n i.0.below) a.post a.stops;
        index = child_index a n ∙ sym (index_child t p n i.0 i.1);
      }

  -- a change of the place is a change of its stretch
  pub changed : {t : Place A} {p : Path} {d : Place A} (c : Around t p d) (f : Place A → Place A)
      → rows (update p f t) ≡ c.pre ++ (place_rows (depth p) (last p) (f d) ++ c.post)
  changed {t} {p} {d} c f = ap rows (update_at t p f d c.there) ∙ c.same (f d)
