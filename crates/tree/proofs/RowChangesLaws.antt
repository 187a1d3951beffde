-- What the changes of a tree are on its rows: a child put in or taken out is one stretch of rows at its place in the order,
-- and a payload altered is one row.
--
-- In order:
--   siblings in order, and those before and after a name: forest-sorted to not-lesser-none;
--   their rows: flatten-split to flatten-remove;
--   a tree's rows: alter-rows, length_before, spot-index, put-rows, drop-rows.
use Rattle.std.specs.Prelude.{◌≡◌, true, ℕ, suc, ◌+◌, length}
use Rattle.std.proofs.Math.Path.{refl, ap}
use Rattle.std.proofs.Common.{sym, ◌∙◌, arith}
use mathlib.Core.List.{List, [], ◌∷◌, ◌++◌, append_assoc}
use Rattle.std.proofs.Math.Option.{none, some}
use Rattle.std.proofs.Math.Bool.{false}
use Rattle.std.proofs.Math.ListN.{length-append}
use Rattle.buffers.specs.Cases.{case, and_both}
use Rattle.buffers.specs.Text.{same_text, precedes}
use Rattle.buffers.specs.TextLaws.{same_text_sound, precedes_irrefl, precedes_trans, precedes_asym, precedes_total, precedes_differ}
use Rattle.syntax.specs.Path.{Name, Path, ◌▹◌, last, depth}
use Rattle.syntax.proofs.FormLaws.{no_answer}
use Rattle.tree.specs.Forest.{Forest, nil, node, Place, get, insert, remove, under, update, place_at, alter, put, drop, size}
use Rattle.tree.proofs.ForestLaws.{differ_sym, found_first, found_none}
use Rattle.tree.specs.Node.{Node}
use Rattle.tree.specs.WellFormed.{leads, is_forest, is_tree}
use Rattle.tree.proofs.WellFormedLaws.{place_parts, forest_parts, tree_parts, place_below}
use Rattle.tree.specs.Rows.{Row, flatten, rows}
use Rattle.tree.proofs.RowLaws.{length_flatten}
use Rattle.tree.specs.RowPlaces.{place_rows, ahead, index_of, Around, sorted, not_lesser, lesser, rows_before, rows_after}
use Rattle.tree.proofs.RowPlacesLaws.{regroup, index_child, changed}

-- ---- siblings in order

-- the siblings of a well-formed forest stand in order
forest_sorted : (F : Forest Node) → is_forest F ≡ true → sorted F ≡ true
unfolding sorted
forest_sorted nil h = refl
forest_sorted (node n x cs rest) h = let v = forest_parts n (record { here = x; below = cs }) rest h in rw v.leading (forest_sorted rest v.others)

-- and so do those anywhere in a well-formed tree
pub tree_sorted : (t : Place Node) (p : Path) (d : Place Node) → is_tree t ≡ true → place_at t p ≡ some d → sorted d.below ≡ true
tree_sorted t p d h e = forest_sorted d.below (place_parts d (place_below t p d (tree_parts t h).whole e)).forest

module _ {A : Type 0} (n : Name) where
  -- a name that leads siblings in order precedes each of theirs
  leads_found : (m : Name) (F : Forest A) (e : Place A) → leads m F ≡ true → sorted F ≡ true → get n F ≡ some e → precedes m n ≡ true
  unfolding leads sorted get
  leads_found m nil e h s g = no_answer g
  leads_found m (node k y ds rest) e h s g = case (same_text n k)
      (λ t. rw (same_text_sound n k t) h)
      (λ t. let i = and_both (leads k rest) (sorted rest) s in precedes_trans m k n h (leads_found k rest e i.0 i.1 (rw t at g)))

  -- among siblings in order a child comes right after those of lesser names
  pub found_split : (F : Forest A) (e : Place A) → sorted F ≡ true → get n F ≡ some e
      → (lesser n F ≡ ahead n F) × (not_lesser n F ≡ node n e.here e.below (remove n (not_lesser n F)))
  unfolding sorted get lesser not_lesser ahead remove
  found_split nil e s g = no_answer g
  found_split (node m x cs rest) e s g = case (same_text n m)
      (λ t.
      let q = same_text_sound n m t in
      let f : precedes m n ≡ false = rw q (precedes_irrefl m) in
      rw f (rw t (refl, rw (q, found_first n m x cs rest e t g))))
      (λ t.
      let i = and_both (leads m rest) (sorted rest) s in
      let g' : get n rest ≡ some e = rw t at g in
      let j = found_split rest e i.1 g' in
      rw (leads_found m rest e i.0 i.1 g') (rw t (rw j.0, j.1)))

  -- nothing is taken out where there is no child of the name
  remove_none : (F : Forest A) → get n F ≡ none → remove n F ≡ F
  unfolding remove
  remove_none nil g = refl
  remove_none (node m x cs rest) g = let i = found_none n m x cs rest g in rw i.0 (ap (node m x cs) (remove_none rest i.1))

  not_lesser_none : (F : Forest A) → get n F ≡ none → remove n (not_lesser n F) ≡ not_lesser n F
  unfolding not_lesser
  not_lesser_none nil g = remove_none nil g
  not_lesser_none (node m x cs rest) g = case (precedes m n)
      (λ t. rw t (not_lesser_none rest (found_none n m x cs rest g).1))
      (λ t. rw t (remove_none (node m x cs rest) g))

-- ---- siblings' rows

module _ {A : Type 0} (k : ℕ) (n : Name) where
  -- the rows of the lesser siblings come first
  flatten_split : (F : Forest A) → flatten k F ≡ flatten k (lesser n F) ++ flatten k (not_lesser n F)
  unfolding flatten lesser not_lesser
  flatten_split nil = refl
  flatten_split (node m x cs rest) = case (precedes m n)
      (λ t. rw t (rw (flatten_split rest) (simp append_assoc)))
      (λ t. rw t)

  -- then those of a new child
  flatten_insert : (e : Place A) (F : Forest A) → get n F ≡ none
      → flatten k (insert n e F) ≡ flatten k (lesser n F) ++ (place_rows k n e ++ flatten k (not_lesser n F))
  unfolding flatten insert lesser not_lesser place_rows
  flatten_insert e nil g = refl
  flatten_insert e (node m x cs rest) g = case (precedes n m)
      (λ t. rw (t, precedes_asym n m t))
      (λ t.
      let i = found_none n m x cs rest g in
      let j = flatten_insert e rest i.1 in
      rw (t, precedes_total n m i.0 t) (rw j (simp append_assoc)))

  -- or those of the child that is there
  flatten_found : (e : Place A) (F : Forest A) → sorted F ≡ true → get n F ≡ some e
      → flatten k F ≡ flatten k (lesser n F) ++ (place_rows k n e ++ flatten k (remove n (not_lesser n F)))
  unfolding flatten place_rows
  flatten_found e F s g = flatten_split F ∙ ap (λ (G : Forest A). flatten k (lesser n F) ++ flatten k G) (found_split n F e s g).1

  -- which is taken out behind them
  flatten_remove : (F : Forest A) → flatten k (remove n F) ≡ flatten k (lesser n F) ++ flatten k (remove n (not_lesser n F))
  unfolding flatten remove lesser not_lesser
  flatten_remove nil = refl
  flatten_remove (node m x cs rest) = case (precedes m n)
      (λ t. rw (t, differ_sym m n (precedes_differ m n t)) (rw (flatten_remove rest) (simp append_assoc)))
      (λ t. rw t)

-- ---- a tree's rows

module _ {A : Type 0} {t : Place A} {p : Path} {d : Place A} (c : Around t p d) where
  -- a payload altered is one row altered
  pub alter_rows : (g : A → A)
      → (rows t ≡ c.pre ++ record { depth = depth p; name = last p; here = d.here } ∷ (flatten (suc (depth p)) d.below ++ c.post))
      × (rows (update p (alter g) t) ≡ c.pre ++ record { depth = depth p; name = last p; here = g d.here } ∷ (flatten (suc (depth p)) d.below ++ c.post))
  unfolding place_rows alter
  alter_rows g = (c.was, changed c (alter g))

  module _ (n : Name) where
    -- where that place is
    pub length_before : length (rows_before c n) ≡ suc (index_of t p + size (lesser n d.below))
    unfolding rows_before
    length_before = length-append c.pre _ ∙ omega (arith, c.index, length_flatten (suc (depth p)) (lesser n d.below))

    -- which is the index of the child if it is there
    pub spot_index : (e : Place A) → sorted d.below ≡ true → get n d.below ≡ some e
        → suc (index_of t p + size (lesser n d.below)) ≡ index_of t (p ▹ n)
    spot_index e s g = rw (found_split n d.below e s g).0 (sym (index_child t p n d c.there))

    -- the place's children with rows s at the name
    stretch : (F : Forest A) (s : List (Row A))
        → flatten (suc (depth p)) F ≡ flatten (suc (depth p)) (lesser n d.below) ++ (s ++ flatten (suc (depth p)) (remove n (not_lesser n d.below)))
        → c.pre ++ (place_rows (depth p) (last p) (record { here = d.here; below = F }) ++ c.post) ≡ rows_before c n ++ (s ++ rows_after c n)
    unfolding place_rows rows_before rows_after
    stretch F s q =
        ap (λ (l : List (Row A)). c.pre ++ (record { depth = depth p; name = last p; here = d.here } ∷ l ++ c.post)) q
        ∙ regroup c.pre _ (flatten (suc (depth p)) (lesser n d.below)) s (flatten (suc (depth p)) (remove n (not_lesser n d.below))) c.post

    -- a new child's rows come between
    pub put_rows : get n d.below ≡ none
        → (rows t ≡ rows_before c n ++ rows_after c n) × ((e : Place A) → rows (update p (put n e) t) ≡ rows_before c n ++ (place_rows (suc (depth p)) n e ++ rows_after c n))
    unfolding put under
    put_rows g = (
      c.was ∙ stretch d.below [] (rw (not_lesser_none n d.below g) (flatten_split (suc (depth p)) n d.below)),
      λ e. changed c (put n e)
          ∙ stretch (insert n e d.below) (place_rows (suc (depth p)) n e) (rw (not_lesser_none n d.below g) (flatten_insert (suc (depth p)) n e d.below g)),
    )

    -- and a child's rows go from between
    pub drop_rows : (e : Place A) → sorted d.below ≡ true → get n d.below ≡ some e
        → (rows t ≡ rows_before c n ++ (place_rows (suc (depth p)) n e ++ rows_after c n)) × (rows (update p (drop n) t) ≡ rows_before c n ++ rows_after c n)
    unfolding drop under
    drop_rows e s g = (
      c.was ∙ stretch d.below (place_rows (suc (depth p)) n e) (flatten_found (suc (depth p)) n e d.below s g),
      changed c (drop n) ∙ stretch (remove n d.below) [] (flatten_remove (suc (depth p)) n d.below),
    )
