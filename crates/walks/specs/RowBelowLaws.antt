-- What the rows below a row tell is what the tree has there, and what the loops of the code go by.
--
-- In order:
--   the rows below by index, the greatest depth among them and their names, row by row: below-go to name-elsewhere;
--   the three answers by index: children-by-next to child-text-from;
--   on siblings' rows, and those of a place: first-deeper to names-flatten;
--   at a place of a tree: at-has-children, at-height, at-child-text.
use Rattle.std.specs.Prelude.{◌≡◌, refl, List, [], ◌∷◌, ◌++◌, true, false, not, ℕ, suc, ◌+◌, ◌-◌, ◌≤◌, ◌<◌, eqb, ltb, leb, max}
use Rattle.std.proofs.Common.{sym, ◌∙◌, arith, add-one, take_at, lt-ltb, le-ltb, le-leb, leb-true, leb-false, eq-eqb, ne_eqb}
use Rattle.std.proofs.Math.Path.{ap}
use Rattle.std.proofs.Math.ListN.{drop}
use Rattle.std.proofs.Math.Seq.{drop-cons}
use Rattle.buffers.specs.Cases.{case}
use Rattle.buffers.specs.Text.{Text}
use Rattle.syntax.specs.Pieces.{comma, joined}
use Rattle.syntax.specs.Path.{Name, Path, depth}
use Rattle.tree.specs.Forest.{Forest, nil, node, Place, is_empty, larger, height, names}
use Rattle.tree.proofs.ForestLaws.{larger_bounds, larger_least}
use Rattle.tree.specs.Node.{Node}
use Rattle.tree.specs.Rows.{Row, flatten, rows}
use Rattle.tree.proofs.RowLaws.{length_flatten}
use Rattle.tree.specs.RowScan.{span, first_passes, is_deeper, depth_of}
use Rattle.tree.specs.RowPlaces.{ends, place_rows, index_of, Around}
use Rattle.tree.proofs.RowPlacesLaws.{around}
use Rattle.tree.proofs.RowScanLaws.{first_at, span_end, ends_deeper, rows_from_children, subtree_span, depth_of_place}
use Rattle.tree.specs.RowAt.{row_count, row_at, all_rows}
use Rattle.tree.specs.TreeBytes.{At}
use Rattle.tree.proofs.RowAtLaws.{length_all_rows, row_in_rows, depth_of_row, scan_stop, scan_end}
use Rattle.tree.proofs.TreeBytesLaws.{encoded_rows}
use Rattle.walks.specs.RowBelow.{front_below, rows_below, has_children_in, deepest_in, height_in, names_in, child_text_in}

-- ---- rows below, by index

module _ (b : List ℕ) (k i : ℕ) where
  -- a deeper row lies below
  below_go : i < row_count b → k < (row_at b i).depth → front_below k (drop i (all_rows b)) ≡ row_at b i ∷ front_below k (drop (suc i) (all_rows b))
  unfolding front_below span is_deeper
  below_go h l =
      let q = drop-cons (all_rows b) i (row_at b i) (omega (arith, length_all_rows b)) ∙ ap (λ (r : Row Node). r ∷ drop (suc i) (all_rows b)) (row_in_rows b i (row_at b i) h) in
      rw q (rw (lt-ltb k (row_at b i).depth l))

  -- one that is not ends them
  below_stop : i < row_count b → (row_at b i).depth ≤ k → front_below k (drop i (all_rows b)) ≡ []
  unfolding front_below is_deeper
  below_stop h l = rw (scan_stop b (is_deeper k) i h (le-ltb k (row_at b i).depth l))

  -- and so does the end
  below_end : row_count b ≤ i → front_below k (drop i (all_rows b)) ≡ []
  unfolding front_below
  below_end h = rw (scan_end b (is_deeper k) i h)

-- ---- the greatest depth, row by row

module _ (b : List ℕ) (k i m : ℕ) where
  -- a deeper row is compared
  pub deepest_go : i < row_count b → k < (row_at b i).depth
      → deepest_in m (front_below k (drop i (all_rows b))) ≡ deepest_in (larger m (row_at b i).depth) (front_below k (drop (i + 1) (all_rows b)))
  unfolding deepest_in
  deepest_go h l = rw (below_go b k i h l, add-one)

  -- one that is not leaves what there is
  pub deepest_stop : i < row_count b → (row_at b i).depth ≤ k → deepest_in m (front_below k (drop i (all_rows b))) ≡ m
  unfolding deepest_in
  deepest_stop h l = rw (below_stop b k i h l)

  -- and so does the end
  pub deepest_end : row_count b ≤ i → deepest_in m (front_below k (drop i (all_rows b))) ≡ m
  unfolding deepest_in
  deepest_end h = rw (below_end b k i h)

-- ---- names, row by row

-- the names of rows made of two parts
names_append : (k : ℕ) (xs ys : List (Row Node)) → names_in k (xs ++ ys) ≡ names_in k xs ++ names_in k ys
unfolding names_in
names_append k [] ys = refl
names_append k (x ∷ xs) ys = case (eqb x.depth k)
    (λ e. rw e (ap (λ (l : List Text). x.name ∷ l) (names_append k xs ys)))
    (λ e. rw e (names_append k xs ys))

module _ (b : List ℕ) (k i j : ℕ) where
  -- a deeper row's name comes first, if the row lies at the depth
  pub names_go : i < row_count b → k < (row_at b i).depth
      → names_in j (front_below k (drop i (all_rows b))) ≡ names_in j (row_at b i ∷ []) ++ names_in j (front_below k (drop (i + 1) (all_rows b)))
  names_go h l = rw (below_go b k i h l, add-one) (names_append j (row_at b i ∷ []) (front_below k (drop (suc i) (all_rows b))))

  -- one that is not leaves no names
  pub names_stop : i < row_count b → (row_at b i).depth ≤ k → names_in j (front_below k (drop i (all_rows b))) ≡ []
  unfolding names_in
  names_stop h l = rw (below_stop b k i h l)

  -- and so does the end
  pub names_end : row_count b ≤ i → names_in j (front_below k (drop i (all_rows b))) ≡ []
  unfolding names_in
  names_end h = rw (below_end b k i h)

-- a row at a depth is named
pub name_there : (k : ℕ) (r : Row Node) → r.depth ≡ k → names_in k (r ∷ []) ≡ r.name ∷ []
unfolding names_in
name_there k r e = rw (eq-eqb r.depth k e)

-- one elsewhere is not
pub name_elsewhere : (k : ℕ) (r : Row Node) → (r.depth ≡ k → ⊥) → names_in k (r ∷ []) ≡ []
unfolding names_in
name_elsewhere k r e = rw (ne_eqb r.depth k e)

-- ---- the three answers, by index

module _ (b : List ℕ) (at : ℕ) (h : at < row_count b) where
  -- a row has children if the next one is deeper
  pub children_by_next : at + 1 < row_count b → has_children_in (all_rows b) at ≡ ltb (row_at b at).depth (row_at b (at + 1)).depth
  unfolding has_children_in is_deeper
  children_by_next l =
      rw (depth_of_row b at h, add-one)
      (first_at (is_deeper (row_at b at).depth) (all_rows b) (suc at) (row_at b (suc at)) (omega (arith, length_all_rows b))
      ∙ ap (is_deeper (row_at b at).depth) (row_in_rows b (suc at) (row_at b (suc at)) (omega arith)))

  -- the last row has none
  pub no_next : row_count b ≤ at + 1 → has_children_in (all_rows b) at ≡ false
  unfolding has_children_in
  no_next l = (span_end (is_deeper (depth_of (all_rows b) at)) (all_rows b) (suc at) (omega (arith, length_all_rows b))).1

  module _ (k : ℕ) (e : k ≡ (row_at b at).depth) where
    -- the rows below are those in front of what follows
    below_from : rows_below (all_rows b) at ≡ front_below k (drop (at + 1) (all_rows b))
    unfolding rows_below
    below_from = rw (depth_of_row b at h, ← e, add-one)

    -- how far they go, from the greatest depth
    pub height_from : height_in (all_rows b) at ≡ deepest_in k (front_below k (drop (at + 1) (all_rows b))) - k
    unfolding height_in
    height_from = rw (below_from, depth_of_row b at h, ← e)

    -- the names of the children, from those at the next depth
    pub child_text_from : child_text_in (all_rows b) at ≡ joined comma (names_in (suc k) (front_below k (drop (at + 1) (all_rows b))))
    unfolding child_text_in
    child_text_from = rw (below_from, depth_of_row b at h, ← e)

-- ---- siblings' rows

-- the first row is deeper if there are siblings
first_deeper : {A : Type 0} (k : ℕ) (F : Forest A) (B : List (Row A)) → ends k B ≡ true
    → first_passes (is_deeper k) (flatten (suc k) F ++ B) ≡ not (is_empty F)
unfolding flatten is_empty first_passes is_deeper
first_deeper k nil B h = ends_deeper k B h
first_deeper k (node n x cs rest) B h = lt-ltb k (suc k) (omega arith)

-- the larger of two numbers in order
pub larger_second : (a b : ℕ) → a ≤ b → larger a b ≡ b
unfolding larger
larger_second a b h = rw (le-leb a b h)

pub larger_first : (a b : ℕ) → b ≤ a → larger a b ≡ a
larger_first a b h =
    let least = larger_least a b a (omega arith) h in
    let bound = larger_bounds a b in
    omega arith

-- it is what the library calls so
pub larger_is_max : (a b : ℕ) → max a b ≡ larger a b
larger_is_max a b = case (leb a b)
    (λ t. let h : a ≤ b = leb-true a b t in omega (arith, larger_second a b h))
    (λ t. let h : b < a = leb-false a b t in omega (arith, larger_first a b (omega arith)))

-- the greatest depth of rows made of two parts
deepest_append : (m : ℕ) (xs ys : List (Row Node)) → deepest_in m (xs ++ ys) ≡ deepest_in (deepest_in m xs) ys
unfolding deepest_in
deepest_append m [] ys = refl
deepest_append m (x ∷ xs) ys = deepest_append (larger m x.depth) xs ys

-- the larger of three, one after another
larger_steps : (m k c r : ℕ) → k ≤ m → larger (larger (larger m (suc k)) (suc k + c)) (k + r) ≡ larger m (k + larger (suc c) r)
larger_steps m k c r h =
    let a = larger m (suc k) in
    let b = larger a (suc k + c) in
    let z = larger b (k + r) in
    let u = larger (suc c) r in
    let y = larger m (k + u) in
    let bu = larger_bounds (suc c) r in
    let by = larger_bounds m (k + u) in
    let ba = larger_bounds m (suc k) in
    let bb = larger_bounds a (suc k + c) in
    let bz = larger_bounds b (k + r) in
    let la : a ≤ y = larger_least m (suc k) y (omega arith) (omega arith) in
    let lb : b ≤ y = larger_least a (suc k + c) y la (omega arith) in
    let lz : z ≤ y = larger_least b (k + r) y lb (omega arith) in
    let lu : u ≤ z - k = larger_least (suc c) r (z - k) (omega arith) (omega arith) in
    let ly : y ≤ z = larger_least m (k + u) z (omega arith) (omega arith) in
    omega arith

-- siblings' rows go as far down as the forest is high
deepest_flatten : (m k : ℕ) (F : Forest Node) → k ≤ m → deepest_in m (flatten (suc k) F) ≡ larger m (k + height F)
unfolding deepest_in flatten height
deepest_flatten m k nil h = sym (larger_first m (k + 0) (omega arith))
deepest_flatten m k (node n x cs rest) h =
    let a = larger m (suc k) in
    let b = larger a (suc k + height cs) in
    let ba = larger_bounds m (suc k) in
    let bb = larger_bounds a (suc k + height cs) in
    deepest_append a (flatten (suc (suc k)) cs) (flatten (suc k) rest)
    ∙ ap (λ (j : ℕ). deepest_in j (flatten (suc k) rest)) (deepest_flatten a (suc k) cs (omega arith))
    ∙ deepest_flatten b k rest (omega arith)
    ∙ larger_steps m k (height cs) (height rest) h

-- and so do those of a place
pub deepest_place : (k : ℕ) (n : Name) (d : Place Node) → deepest_in 0 (place_rows k n d) ≡ k + height d.below
unfolding deepest_in place_rows
deepest_place k n d =
    ap (λ (m : ℕ). deepest_in m (flatten (suc k) d.below)) (larger_second 0 k (omega arith))
    ∙ deepest_flatten k k d.below (omega arith)
    ∙ larger_second k (k + height d.below) (omega arith)

-- no row of siblings further down lies at a depth
names_deeper : (k j : ℕ) (F : Forest Node) → k < j → names_in k (flatten j F) ≡ []
unfolding names_in flatten
names_deeper k j nil h = refl
names_deeper k j (node n x cs rest) h =
    rw (ne_eqb j k (λ e. omega arith), names_append k (flatten (suc j) cs) (flatten j rest), names_deeper k (suc j) cs (omega arith)) (names_deeper k j rest h)

-- the rows at the depth of siblings have their names
names_flatten : (k : ℕ) (F : Forest Node) → names_in k (flatten k F) ≡ names F
unfolding names_in flatten names
names_flatten k nil = refl
names_flatten k (node n x cs rest) =
    rw (eq-eqb k k refl, names_append k (flatten (suc k) cs) (flatten k rest), names_deeper k (suc k) cs (omega arith))
    (ap (λ (l : List Text). n ∷ l) (names_flatten k rest))

-- ---- the rows below a place of a tree

module _ {t : Place Node} {p : Path} {d : Place Node} (c : Around t p d) where
  -- the rows below are those of its children
  rows_below_place : rows_below (rows t) (index_of t p) ≡ flatten (suc (depth p)) d.below
  unfolding rows_below front_below
  rows_below_place =
      rw (depth_of_place c, subtree_span c, rows_from_children c)
      (take_at (flatten (suc (depth p)) d.below) c.post _ (length_flatten (suc (depth p)) d.below))

  -- a place has children if its forest is not empty
  place_has_children : has_children_in (rows t) (index_of t p) ≡ not (is_empty d.below)
  unfolding has_children_in
  place_has_children = rw (depth_of_place c, rows_from_children c) (first_deeper (depth p) d.below c.post c.stops)

  -- they go as far down as the forest is high
  height_of_place : height_in (rows t) (index_of t p) ≡ height d.below
  unfolding height_in
  height_of_place =
      rw (depth_of_place c, rows_below_place)
      (let q = deepest_flatten (depth p) (depth p) d.below (omega arith) in
      let w = larger_second (depth p) (depth p + height d.below) (omega arith) in
      omega arith)

  -- those one level down have the children's names
  child_text_of_place : child_text_in (rows t) (index_of t p) ≡ joined comma (names d.below)
  unfolding child_text_in
  child_text_of_place = rw (depth_of_place c, rows_below_place, names_flatten (suc (depth p)) d.below)

module _ {b : List ℕ} {t : Place Node} {p : Path} {i : ℕ} {d : Place Node} (a : At b t p i d) where
  -- a row has children if the place has
  pub at_has_children : has_children_in (all_rows b) i ≡ not (is_empty d.below)
  at_has_children = rw (encoded_rows a.tree, a.row) (place_has_children (around t p d a.there))

  -- the rows below go as far down as the place's forest is high
  pub at_height : height_in (all_rows b) i ≡ height d.below
  at_height = rw (encoded_rows a.tree, a.row) (height_of_place (around t p d a.there))

  -- the names are those of the place's children
  pub at_child_text : child_text_in (all_rows b) i ≡ joined comma (names d.below)
  at_child_text = rw (encoded_rows a.tree, a.row) (child_text_of_place (around t p d a.there))
