-- The bytes of a tree: a well-formed tree is read back from its bytes, bytes that are read are those of the tree read, and
-- there are always as many.
use Rattle.std.specs.Prelude.{◌≡◌, refl, List, [], ◌++◌, Bool, true, ◌&&◌, ◌||◌, ℕ, suc, ◌-◌, ◌*◌, ◌≤◌, leb, length, drop, replicate}
use Rattle.std.proofs.Common.{◌∙◌, ap, arith, leb-true, le-leb}
use Rattle.std.proofs.Math.Option.{some}
use Rattle.buffers.specs.Cases.{and_both}
use Rattle.buffers.specs.Text.{every, same_text, lacks}
use Rattle.buffers.specs.TextLaws.{same_text_refl, same_text_sound, every_append}
use Rattle.buffers.specs.Fields.{two_bytes, number_at, all_bytes, all_from}
use Rattle.buffers.specs.FieldsLaws.{number_at_bytes}
use Rattle.buffers.specs.TableLaws.{length_filled, all_from_bytes}
use Rattle.syntax.specs.Form.{◌>>=◌, ◌>>◌, check}
use Rattle.syntax.proofs.FormLaws.{both_read, checked, answered}
use Rattle.syntax.specs.Path.{Name, is_name, most_names}
use Rattle.syntax.proofs.PathLaws.{name_fits}
use Rattle.tree.specs.Layout.{row_width, tree_width}
use Rattle.tree.specs.Forest.{Forest, nil, node, Place, is_empty, height}
use Rattle.tree.specs.Node.{is_directory, Node}
use Rattle.tree.specs.Rows.{Row, flatten, rows, tree_of}
use Rattle.tree.proofs.RowLaws.{tree_of_rows, length_rows}
use Rattle.tree.specs.WellFormed.{most_nodes, nodes, is_node, leads, is_forest, is_tree}
use Rattle.tree.specs.Encoding.{row_bytes, read_row, encode_rows, encode_tree, decode_tree}
use Rattle.tree.proofs.RowBytesLaws.{length_row_bytes, row_of_bytes}

-- whether a row's node is in range and its name fits its bytes
pub fits : Row Node → Bool
fits r = is_node r.here && (leb (length r.name) 8 && lacks 0 r.name)

pub fits_parts : (r : Row Node) → fits r ≡ true → (is_node r.here ≡ true) × ((length r.name ≤ 8) × (lacks 0 r.name ≡ true))
unfolding fits
fits_parts r h =
    let i = and_both (is_node r.here) (leb (length r.name) 8 && lacks 0 r.name) h in
    let j = and_both (leb (length r.name) 8) (lacks 0 r.name) i.1 in
    (i.0, (leb-true (length r.name) 8 j.0, j.1))

pub fits_of : (k : ℕ) (n : Name) (x : Node) → is_node x ≡ true → (length n ≤ 8) × (lacks 0 n ≡ true) → fits (record { depth = k; name = n; here = x }) ≡ true
unfolding fits
fits_of k n x h w = rw (h, le-leb (length n) 8 w.0, w.1)

pub forest_fits : (k : ℕ) (F : Forest Node) → is_forest F ≡ true → every fits (flatten k F) ≡ true
unfolding is_forest flatten every
forest_fits k nil h = refl
forest_fits k (node n x cs rest) h =
    let own = (is_name n && is_node x) && (is_directory x.kind || is_empty cs) in
    let i = and_both own (is_forest cs && (leads n rest && is_forest rest)) h in
    let j = and_both (is_name n && is_node x) (is_directory x.kind || is_empty cs) i.0 in
    let a = and_both (is_name n) (is_node x) j.0 in
    let l = and_both (is_forest cs) (leads n rest && is_forest rest) i.1 in
    let m = and_both (leads n rest) (is_forest rest) l.1 in
    rw (
      fits_of k n x a.1 (name_fits n a.0),
      every_append fits (flatten (suc k) cs) (flatten k rest),
      forest_fits (suc k) cs l.0,
      forest_fits k rest m.1,
    )

-- what a well-formed tree's rows are
pub tree_fits : (t : Place Node) → is_tree t ≡ true → (every fits (rows t) ≡ true) × (length (rows t) ≤ most_nodes)
unfolding is_tree rows every lacks
tree_fits t h =
    let own = is_directory t.here.kind && (is_node t.here && is_forest t.below) in
    let i = and_both own (leb (height t.below) most_names && leb (nodes t) most_nodes) h in
    let j = and_both (is_directory t.here.kind) (is_node t.here && is_forest t.below) i.0 in
    let a = and_both (is_node t.here) (is_forest t.below) j.1 in
    let l = and_both (leb (height t.below) most_names) (leb (nodes t) most_nodes) i.1 in
    (rw (fits_of 0 [] t.here a.0 (omega arith, refl)) (forest_fits 1 t.below a.1), rw (length_rows t) (leb-true (nodes t) most_nodes l.1))

-- a row that fits takes its width
pub length_fitting : (r : Row Node) → fits r ≡ true → length (row_bytes r) ≡ row_width
length_fitting r h = let w = fits_parts r h in length_row_bytes r w.0 w.1

-- and is read back from its bytes
pub fitting_back : (r : Row Node) → fits r ≡ true → read_row (row_bytes r) ≡ r
fitting_back r h = let w = fits_parts r h in row_of_bytes r w.0 w.1

-- ---- trees

-- the encoding of a well-formed tree has the width of all trees
pub length_encode_tree : (t : Place Node) → is_tree t ≡ true → length (encode_tree t) ≡ tree_width
unfolding encode_tree encode_rows two_bytes most_nodes
length_encode_tree t h =
    let w = tree_fits t h in
    ap (λ (n : ℕ). suc (suc n)) (length_filled row_width fits row_bytes length_fitting most_nodes (rows t) w.0 w.1)

-- the rows of a well-formed tree are read from its encoding
pub rows_of_encoded : (t : Place Node) → is_tree t ≡ true → all_from row_width read_row (number_at 0 (encode_tree t)) (drop 2 (encode_tree t)) ≡ rows t
unfolding encode_tree encode_rows two_bytes
rows_of_encoded t h =
    let rs = rows t in
    let Z : List ℕ = replicate ((most_nodes - length rs) * row_width) 0 in
    ap (λ n. all_from row_width read_row n (all_bytes row_bytes rs ++ Z)) (number_at_bytes [] (all_bytes row_bytes rs ++ Z) 0 (length rs) refl)
    ∙ all_from_bytes row_width fits row_bytes length_fitting read_row fitting_back rs Z (tree_fits t h).0

-- a well-formed tree is read back from its encoding
pub decode_encode_tree : (t : Place Node) → is_tree t ≡ true → decode_tree (encode_tree t) ≡ some t
unfolding decode_tree ◌>>=◌ ◌>>◌ check
decode_encode_tree t h = rw (rows_of_encoded t h, tree_of_rows t) (rw (h, same_text_refl (encode_tree t)))

-- bytes that are read as a tree are its encoding, and it is well-formed
pub encode_decode_tree : (b : List ℕ) (t : Place Node) → decode_tree b ≡ some t → (encode_tree t ≡ b) × (is_tree t ≡ true)
unfolding decode_tree
encode_decode_tree b t e =
    let i = both_read (tree_of (all_from row_width read_row (number_at 0 b) (drop 2 b))) (λ t. check (is_tree t && same_text (encode_tree t) b) >> some t) t e in
    let j = checked (is_tree i.0 && same_text (encode_tree i.0) b) (some i.0) t i.2 in
    let k = and_both (is_tree i.0) (same_text (encode_tree i.0) b) j.0 in
    let q : t ≡ i.0 = answered j.1 in
    rw q (same_text_sound (encode_tree i.0) b k.1, k.0)
