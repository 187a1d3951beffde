-- The steps of a search among the rows of a tree are those of the children tried.
use Rattle.std.specs.Prelude.{◌≡◌, true, ℕ, suc, ◌<◌}
use Rattle.std.proofs.Math.Path.{refl}
use mathlib.Core.List.{List, [], ◌∷◌, ◌++◌, append_assoc}
use Rattle.std.proofs.Common.{arith, leb-true}
use Rattle.buffers.specs.Cases.{case}
use Rattle.buffers.specs.Text.{same_text, precedes}
use Rattle.syntax.specs.Path.{Name, Path, depth}
use Rattle.tree.specs.Forest.{Forest, nil, node, Place}
use Rattle.tree.specs.Rows.{Row, flatten, rows}
use Rattle.tree.specs.RowPlaces.{index_of, ends, Around}
use Rattle.tree.proofs.RowScanLaws.{order_below, order_above, sibling_before, sibling_same, sibling_after, rows_from_children, depth_of_place}
use Rattle.tree.specs.Search.{steps_among, steps_by, steps_from, steps_in}
use Rattle.tree.proofs.SearchLaws.{steps_aside, steps_beside}

module _ {A : Type 0} (k : ℕ) (n : Name) where
  -- what lies below siblings takes no step
  steps_below : (j : ℕ) (F : Forest A) (B : List (Row A)) → k < j → steps_from k n (flatten j F ++ B) ≡ steps_from k n B
  unfolding flatten steps_from steps_by
  steps_below j nil B h = refl
  steps_below j (node m x cs rest) B h =
      let r : Row A = record { depth = j; name = m; here = x } in
      rw (order_below k n r h, steps_aside k n r (λ e. omega arith), append_assoc (flatten (suc j) cs) (flatten j rest) B)
      (omega (arith, steps_below (suc j) cs (flatten j rest ++ B) (omega arith), steps_below j rest B h))

  -- siblings, up to the first that is not less
  steps_siblings : (F : Forest A) (B : List (Row A)) → steps_from k n B ≡ 0 → steps_from k n (flatten k F ++ B) ≡ steps_among n F
  unfolding flatten steps_from steps_by steps_among
  steps_siblings nil B h = h
  steps_siblings (node m x cs rest) B h =
      let s = steps_beside k n (record { depth = k; name = m; here = x }) refl in
      case (precedes m n)
      (λ t. rw (sibling_before k n m x t, s, t, append_assoc (flatten (suc k) cs) (flatten k rest) B)
      (omega (arith, steps_below (suc k) cs (flatten k rest ++ B) (omega arith), steps_siblings rest B h)))
      (λ t. case (same_text m n)
      (λ e. rw (sibling_same k n m x e, s, t) (omega arith))
      (λ e. rw (sibling_after k n m x e t, s, t) (omega arith)))

-- behind the children the search is over
steps_over : {A : Type 0} (k : ℕ) (n : Name) (B : List (Row A)) → ends k B ≡ true → steps_from (suc k) n B ≡ 0
unfolding ends steps_from steps_by
steps_over k n [] h = refl
steps_over k n (r ∷ rs) h =
    let l = leb-true r.depth k h in
    rw (order_above (suc k) n r (omega arith), steps_aside (suc k) n r (λ e. omega arith))

-- the steps of the search below a place are those of its children tried
pub steps_are : {A : Type 0} {t : Place A} {p : Path} {d : Place A} (c : Around t p d) (n : Name) → steps_in (rows t) (index_of t p) n ≡ steps_among n d.below
unfolding steps_in
steps_are {p = p} {d = d} c n =
    rw (depth_of_place c, rows_from_children c)
    (steps_siblings (suc (depth p)) n d.below c.post (steps_over (depth p) n c.post c.stops))
