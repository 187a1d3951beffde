-- Which change of a well-formed tree each change of its bytes is.
--
-- In order: a place put in (spot-bound, rows-law, put-law, child-law) and taken out (take-law), its rows read (place-fits, place-law).
use Rattle.std.specs.Prelude.{◌≡◌, true, ℕ, suc, ◌+◌, ◌*◌, ◌≤◌, ◌<◌, take}
use Rattle.std.proofs.Math.Path.{sym, ap}
use Rattle.std.proofs.Common.{◌∙◌, arith, length-append}
use mathlib.Core.List.{List, [], ◌++◌, append-nil}
use Rattle.std.proofs.Math.Option.{none, some}
use Rattle.std.proofs.Math.ListN.{length}
use Rattle.std.proofs.Math.ListN as L
use Rattle.buffers.specs.Cases.{and_both}
use Rattle.buffers.specs.Text.{every}
use Rattle.buffers.specs.TextLaws.{every_append}
use Rattle.buffers.specs.Fields.{all_bytes}
use Rattle.buffers.specs.TableLaws.{length_all_bytes}
use Rattle.syntax.specs.Path.{Name, Path, ◌▹◌, last, depth, is_name}
use Rattle.syntax.proofs.PathLaws.{name_fits}
use Rattle.tree.specs.Layout.{row_width, row_start, most_rows}
use Rattle.tree.specs.Forest.{Place, get, update, place_at, put, drop, leaf, size}
use Rattle.tree.specs.Node.{Node}
use Rattle.tree.proofs.UpdateLaws.{place_at_child}
use Rattle.tree.specs.Rows.{Row, flatten, rows}
use Rattle.tree.proofs.RowLaws.{length_rows}
use Rattle.tree.specs.WellFormed.{most_nodes, nodes, is_place, is_tree}
use Rattle.tree.proofs.WellFormedLaws.{place_parts}
use Rattle.tree.specs.RowPlaces.{place_rows, index_of, lesser, rows_before, rows_after}
use Rattle.tree.proofs.RowPlacesLaws.{length_place_rows, around}
use Rattle.tree.proofs.RowChangesLaws.{tree_sorted, length_before, spot_index, put_rows, drop_rows}
use Rattle.tree.specs.Encoding.{row_bytes, encode_rows, encode_tree}
use Rattle.tree.proofs.EncodingLaws.{fits, fits_of, forest_fits, tree_fits, length_fitting}
use Rattle.edits.specs.declared.Fresh.{Fresh}
use Rattle.tree.specs.RowAt.{row_count}
use Rattle.tree.specs.TreeBytes.{At}
use Rattle.tree.proofs.TreeBytesLaws.{encoded_count}
use Rattle.edits.specs.Changes.{rows_put, rows_taken, fresh_node, fresh_row}
use Rattle.edits.specs.WrittenLaws.{length_fresh}
use Rattle.edits.specs.EncodedRowsLaws.{RowsWide, encode_tree_rows, table_put, table_part, table_taken}

-- ---- rows that take their widths

pub fitting_wide : (rs : List (Row Node)) → every fits rs ≡ true → RowsWide rs
fitting_wide rs h = length_all_bytes row_width fits row_bytes length_fitting rs h

-- the rows of a well-formed place
place_wide : (k : ℕ) (n : Name) (d : Place Node) → is_name n ≡ true → is_place d ≡ true → RowsWide (place_rows k n d)
unfolding place_rows every
place_wide k n d a w =
    let v = place_parts d w in
    fitting_wide (place_rows k n d) (rw (fits_of k n d.here v.own (name_fits n a), forest_fits (suc k) d.below v.forest))

module _ (t : Place Node) (h : is_tree t ≡ true) where
  -- where a tree's rows are cut, both parts fit
  pub cut_fits : (xs ys : List (Row Node)) → rows t ≡ xs ++ ys → (every fits xs ≡ true) × (every fits ys ≡ true)
  cut_fits xs ys e =
      and_both (every fits xs) (every fits ys) (sym (every_append fits xs ys) ∙ ap (every fits) (sym e) ∙ (tree_fits t h).0)

  -- and there are at most 256
  few_rows : length (rows t) ≤ 256
  unfolding most_nodes
  few_rows = (tree_fits t h).1

module _ (t : Place Node) (p : Path) (d : Place Node) (n : Name) (h : is_tree t ≡ true) (there : place_at t p ≡ some d) where
  -- ---- a place put in

  -- a new child's place is before a row, or behind the last
  spot_bounded : get n d.below ≡ none → suc (index_of t p + size (lesser n d.below)) ≤ nodes t
  spot_bounded g =
      let c = around t p d there in
      let lt = sym (length-append (rows_before c n) (rows_after c n)) ∙ ap length (sym (put_rows c n g).0) ∙ length_rows t in
      omega (arith, lt, length_before c n)

  -- rows of the width of rows, put where the child belongs
  put_wide : (e : Place Node) (Q : List ℕ) → get n d.below ≡ none → RowsWide (place_rows (suc (depth p)) n e) → nodes t + suc (size e.below) ≤ 256
      → rows_put (encode_tree t) (suc (index_of t p + size (lesser n d.below))) (suc (size e.below)) (all_bytes row_bytes (place_rows (suc (depth p)) n e) ++ Q)
      ≡ encode_tree (update p (put n e) t)
  put_wide e Q g w few =
      let c = around t p d there in
      let xs = rows_before c n in
      let ys = rows_after c n in
      let ns = place_rows (suc (depth p)) n e in
      let r = put_rows c n g in
      let f = cut_fits t h xs ys r.0 in
      let lx : length xs ≡ suc (index_of t p + size (lesser n d.below)) = length_before c n in
      let ln : length ns ≡ suc (size e.below) = length_place_rows (suc (depth p)) n e in
      let lt : length xs + length ys ≡ nodes t = sym (length-append xs ys) ∙ ap length (sym r.0) ∙ length_rows t in
      let S = all_bytes row_bytes ns ++ Q in
      ap (λ (b : List ℕ). rows_put b (suc (index_of t p + size (lesser n d.below))) (suc (size e.below)) S) (encode_tree_rows t ∙ ap encode_rows r.0)
      ∙ ap (λ (i : ℕ). rows_put (encode_rows (xs ++ ys)) i (suc (size e.below)) S) (sym lx)
      ∙ ap (λ (k : ℕ). rows_put (encode_rows (xs ++ ys)) (length xs) k S) (sym ln)
      ∙ table_put xs ns ys Q (fitting_wide xs f.0) w (fitting_wide ys f.1) (omega arith)
      ∙ sym (encode_tree_rows (update p (put n e) t) ∙ ap encode_rows (r.1 e))

  -- a new node
  child_changed : (f : Fresh) → get n d.below ≡ none → is_name n ≡ true → nodes t < 256
      → rows_put (encode_tree t) (suc (index_of t p + size (lesser n d.below))) 1 (row_bytes (record { depth = suc (depth p); name = n; here = fresh_node f }))
      ≡ encode_tree (update p (put n (leaf (fresh_node f))) t)
  unfolding leaf size place_rows flatten all_bytes
  child_changed f g a few =
      let r = row_bytes (fresh_row (suc (depth p)) n f) in
      let l : length r ≡ row_width = length_fresh (suc (depth p)) n f (name_fits n a).0 in
      let s : r ≡ (r ++ []) ++ [] = sym (append-nil (r ++ []) ∙ append-nil r) in
      ap (rows_put (encode_tree t) (suc (index_of t p + size (lesser n d.below))) 1) s
      ∙ put_wide (leaf (fresh_node f)) [] g (ap length (append-nil r) ∙ l) (omega arith)

  -- ---- a place taken out

  take_changed : (e : Place Node) → get n d.below ≡ some e
      → rows_taken (encode_tree t) (index_of t (p ▹ n)) (suc (size e.below)) ≡ encode_tree (update p (drop n) t)
  take_changed e g =
      let c = around t p d there in
      let s = tree_sorted t p d h there in
      let xs = rows_before c n in
      let ys = rows_after c n in
      let ms = place_rows (suc (depth p)) n e in
      let r = drop_rows c n e s g in
      let f = cut_fits t h xs (ms ++ ys) r.0 in
      let k = and_both (every fits ms) (every fits ys) (sym (every_append fits ms ys) ∙ f.1) in
      let lx : length xs ≡ index_of t (p ▹ n) = length_before c n ∙ spot_index c n e s g in
      let lm : length ms ≡ suc (size e.below) = length_place_rows (suc (depth p)) n e in
      let lt : length xs + length (ms ++ ys) ≡ length (rows t) = sym (length-append xs (ms ++ ys)) ∙ ap length (sym r.0) in
      ap (λ (b : List ℕ). rows_taken b (index_of t (p ▹ n)) (suc (size e.below))) (encode_tree_rows t ∙ ap encode_rows r.0)
      ∙ ap (λ (i : ℕ). rows_taken (encode_rows (xs ++ (ms ++ ys))) i (suc (size e.below))) (sym lx)
      ∙ ap (λ (j : ℕ). rows_taken (encode_rows (xs ++ (ms ++ ys))) (length xs) j) (sym lm)
      ∙ table_taken xs ms ys (fitting_wide xs f.0) (fitting_wide ms k.0) (fitting_wide ys k.1) (omega (arith, few_rows t h, length-append ms ys))
      ∙ sym (encode_tree_rows (update p (drop n) t) ∙ ap encode_rows r.1)

-- ---- a place read

module _ (t : Place Node) (p : Path) (d : Place Node) (h : is_tree t ≡ true) (there : place_at t p ≡ some d) where
  -- its rows fit
  rows_fit : every fits (place_rows (depth p) (last p) d) ≡ true
  rows_fit =
      let c = around t p d there in
      let ms = place_rows (depth p) (last p) d in
      let f = cut_fits t h c.pre (ms ++ c.post) c.was in
      (and_both (every fits ms) (every fits c.post) (sym (every_append fits ms c.post) ∙ f.1)).0

  -- and their bytes stand from its index on
  rows_read : take (row_width * suc (size d.below)) (L.drop (row_start (index_of t p)) (encode_tree t)) ≡ all_bytes row_bytes (place_rows (depth p) (last p) d)
  rows_read =
      let c = around t p d there in
      let ms = place_rows (depth p) (last p) d in
      let f = cut_fits t h c.pre (ms ++ c.post) c.was in
      ap (λ (b : List ℕ). take (row_width * suc (size d.below)) (L.drop (row_start (index_of t p)) b)) (encode_tree_rows t ∙ ap encode_rows c.was)
      ∙ ap (λ (i : ℕ). take (row_width * suc (size d.below)) (L.drop (row_start i) (encode_rows (c.pre ++ (ms ++ c.post))))) (sym c.index)
      ∙ ap (λ (k : ℕ). take (row_width * k) (L.drop (row_start (length c.pre)) (encode_rows (c.pre ++ (ms ++ c.post))))) (sym (length_place_rows (depth p) (last p) d))
      ∙ table_part c.pre ms c.post (fitting_wide c.pre f.0) (fitting_wide ms rows_fit)

-- ---- at the row of a place

module _ {b : List ℕ} {t : Place Node} {p : Path} {i : ℕ} {d : Place Node} (a : At b t p i d) where
  -- its rows fit
  pub place_fits : every fits (place_rows (depth p) (last p) d) ≡ true
  place_fits = rows_fit t p d a.tree.whole a.there

  -- and their bytes stand from its row on
  pub place_law : take (row_width * suc (size d.below)) (L.drop (row_start i) b) ≡ all_bytes row_bytes (place_rows (depth p) (last p) d)
  place_law = rw (a.row, a.tree.bytes) (rows_read t p d a.tree.whole a.there)

  module _ (n : Name) where
    -- a new child's place is before a row, or behind the last
    pub spot_bound : get n d.below ≡ none → suc (i + size (lesser n d.below)) ≤ row_count b
    spot_bound g = omega (arith, a.row, spot_bounded t p d n a.tree.whole a.there g, encoded_count a.tree)

    -- a place put in whose rows take their widths
    pub rows_law : (e : Place Node) → get n d.below ≡ none → RowsWide (place_rows (suc (depth p)) n e) → nodes t + suc (size e.below) ≤ most_rows → (Q : List ℕ)
        → rows_put b (suc (i + size (lesser n d.below))) (suc (size e.below)) (all_bytes row_bytes (place_rows (suc (depth p)) n e) ++ Q)
        ≡ encode_tree (update p (put n e) t)
    rows_law e g w few Q = rw (a.row, a.tree.bytes) (put_wide t p d n a.tree.whole a.there e Q g w few)

    -- a well-formed place put in
    pub put_law : (e : Place Node) → get n d.below ≡ none → is_name n ≡ true → is_place e ≡ true → nodes t + suc (size e.below) ≤ most_rows → (Q : List ℕ)
        → rows_put b (suc (i + size (lesser n d.below))) (suc (size e.below)) (all_bytes row_bytes (place_rows (suc (depth p)) n e) ++ Q)
        ≡ encode_tree (update p (put n e) t)
    put_law e g h w few Q = rows_law e g (place_wide (suc (depth p)) n e h w) few Q

    -- a new node put in
    pub child_law : (f : Fresh) → get n d.below ≡ none → is_name n ≡ true → nodes t < most_rows
        → rows_put b (suc (i + size (lesser n d.below))) 1 (row_bytes (fresh_row (suc (depth p)) n f)) ≡ encode_tree (update p (put n (leaf (fresh_node f))) t)
    child_law f g h few = rw (a.row, a.tree.bytes) (child_changed t p d n a.tree.whole a.there f g h few)

    -- a child taken out
    pub take_law : {j : ℕ} {e : Place Node} → At b t (p ▹ n) j e → rows_taken b j (suc (size e.below)) ≡ encode_tree (update p (drop n) t)
    take_law {j} {e} c =
        rw (c.row, c.tree.bytes)
        (take_changed t p d n a.tree.whole a.there e (sym (place_at_child t p n d a.there) ∙ c.there))
