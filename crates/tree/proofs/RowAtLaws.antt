-- The rows of a tree's bytes by their index: where the fields of a row stand among all bytes, which row of the tree it is, and what
-- the loops of the code go by.
--
-- In order:
--   a field of a row: byte-in-row, number-in-row, text_in-row; its depth and kind;
--   all rows by index, scans over them, and those of a tree's encoding: length-all-rows to row-count-of-tree;
--   where a subtree ends: end-at.
use Rattle.std.specs.Prelude.{◌≡◌, Bool, true, false, length, take, drop}
use Rattle.std.proofs.Common.{sym, ◌∙◌, drop_of_length-le, drop-cons, drop-drop, eq-eqb, ne_eqb}
use Rattle.std.proofs.Math.Path.{ap}
use mathlib.Core.List.{List, [], ◌∷◌}
use Prim.Native.Nat.{ℕ, suc, ◌+◌, ◌*◌, ◌≤◌, ◌<◌}
use native.Mathlib.Omega.{arith}
use Rattle.std.proofs.Math.Numerals.{add-one}
use Rattle.std.proofs.Math.ListN.{get_or}
use Rattle.std.proofs.Math.Seq.{get_or-take, get_or-drop}
use Rattle.buffers.specs.Fields.{number_at, unpadded, text_at}
use Rattle.buffers.specs.FieldsLaws.{part_of_take, field_text_fits}
use Rattle.buffers.specs.TableLaws.{length_all_from, all_from_at}
use Rattle.tree.specs.declared.Kind.TheVariants.{File, Directory}
use Rattle.tree.specs.Layout.{row_width, row_start, kind_offset, name_offset, name_width, tag_offset, tag_width, content_offset, content_width}
use Rattle.tree.specs.Forest.{Place}
use Rattle.tree.specs.Node.{Node}
use Rattle.tree.specs.Rows.{Row, rows}
use Rattle.tree.specs.WellFormed.{is_tree}
use Rattle.tree.specs.RowScan.{span, is_deeper, first_depth, depth_of, end_of_subtree}
use Rattle.tree.proofs.RowScanLaws.{span_go, span_stop, span_end}
use Rattle.tree.specs.Encoding.{kind_byte, kind_of, read_row, encode_tree}
use Rattle.tree.proofs.EncodingLaws.{rows_of_encoded}
use Rattle.tree.specs.RowAt.{row_count, row_bytes_at, row_at, all_rows, tag_text_at}

-- ---- a field of a row

module _ (b : List ℕ) (i : ℕ) where
  -- a byte of a row
  pub byte_in_row : (k : ℕ) → k < row_width → get_or (row_bytes_at b i) k 0 ≡ get_or b (row_start i + k) 0
  unfolding row_bytes_at
  byte_in_row k h = get_or-take row_width (drop (row_start i) b) k 0 h ∙ get_or-drop (row_start i) b k 0

  -- a number of a row
  pub number_in_row : (k : ℕ) → k + 1 < row_width → number_at k (row_bytes_at b i) ≡ number_at (row_start i + k) b
  unfolding number_at
  number_in_row k h =
      let q : row_start i + suc k ≡ suc (row_start i + k) = omega arith in
      let low : _ = byte_in_row k (omega arith) in
      let high : _ = byte_in_row (suc k) (omega arith) ∙ ap (λ (j : ℕ). get_or b j 0) q in
      omega arith

  -- a text of a row
  pub text_in_row : (k w : ℕ) → k + w ≤ row_width → text_at k w (row_bytes_at b i) ≡ text_at (row_start i + k) w b
  unfolding text_at row_bytes_at
  text_in_row k w h = ap unpadded (part_of_take k w row_width (drop (row_start i) b) h ∙ ap (take w) (drop-drop k (row_start i) b))

  -- the depth is the first byte
  pub depth_in_row : (row_at b i).depth ≡ get_or b (row_start i) 0
  unfolding row_at read_row
  depth_in_row =
      let q : row_start i + 0 ≡ row_start i = omega arith in
      byte_in_row 0 (omega arith) ∙ ap (λ (j : ℕ). get_or b j 0) q

  -- the kind is the second: `d` for a directory
  pub directory_in_row : get_or b (row_start i + kind_offset) 0 ≡ 100 → (row_at b i).here.kind ≡ Directory
  unfolding row_at read_row kind_of kind_byte
  directory_in_row e = rw (eq-eqb (get_or (row_bytes_at b i) 1 0) 100 (byte_in_row 1 (omega arith) ∙ e))

  -- and anything else for a file
  pub file_in_row : (get_or b (row_start i + kind_offset) 0 ≡ 100 → ⊥) → (row_at b i).here.kind ≡ File
  unfolding row_at read_row kind_of kind_byte
  file_in_row e = rw (ne_eqb (get_or (row_bytes_at b i) 1 0) 100 (λ q. e (sym (byte_in_row 1 (omega arith)) ∙ q)))

-- its texts have no more bytes than their fields
module _ (b : List ℕ) (i : ℕ) where
  pub row_name_fits : length (row_at b i).name ≤ name_width
  unfolding row_at read_row
  row_name_fits = field_text_fits (row_bytes_at b i) name_offset name_width

  pub row_tag_fits : length (tag_text_at b i) ≤ tag_width
  unfolding tag_text_at
  row_tag_fits = field_text_fits (row_bytes_at b i) tag_offset tag_width

  pub row_content_fits : length (row_at b i).here.content ≤ content_width
  unfolding row_at read_row
  row_content_fits = field_text_fits (row_bytes_at b i) content_offset content_width

-- ---- all rows

module _ (b : List ℕ) where
  -- there are as many rows as the count says
  pub length_all_rows : length (all_rows b) ≡ row_count b
  unfolding all_rows
  length_all_rows = length_all_from row_width read_row (row_count b) (drop 2 b)

  -- the row at an index is that of the bytes there
  pub row_in_rows : (i : ℕ) (z : Row Node) → i < row_count b → get_or (all_rows b) i z ≡ row_at b i
  unfolding all_rows row_at row_bytes_at
  row_in_rows i z h =
      all_from_at row_width read_row (row_count b) i (drop 2 b) z h ∙ ap (λ (l : List ℕ). read_row (take row_width l)) (drop-drop (row_width * i) 2 b)

  -- from there on they are that row and those behind it
  pub rows_from : (i : ℕ) → i < row_count b → drop i (all_rows b) ≡ row_at b i ∷ drop (suc i) (all_rows b)
  rows_from i h =
      drop-cons (all_rows b) i (row_at b i) (omega (arith, length_all_rows))
      ∙ ap (λ (r : Row Node). r ∷ drop (suc i) (all_rows b)) (row_in_rows i (row_at b i) h)

  -- and behind the last there are none
  pub rows_end : (i : ℕ) → row_count b ≤ i → drop i (all_rows b) ≡ []
  rows_end i h = drop_of_length-le (all_rows b) {i = i} (omega (arith, length_all_rows))

  -- the depth at an index is that of the row there
  pub depth_of_row : (i : ℕ) → i < row_count b → depth_of (all_rows b) i ≡ (row_at b i).depth
  unfolding depth_of first_depth
  depth_of_row i h = ap first_depth (rows_from i h)

  -- a scan has come from one index to another: from both it ends at the same
  abbrev pub Scanned : (Row Node → Bool) → ℕ → ℕ → Type 0
  Scanned f from i = i + span f (drop i (all_rows b)) ≡ from + span f (drop from (all_rows b))

  module _ (f : Row Node → Bool) (i : ℕ) where
    -- it goes on at a row that passes
    pub scan_go : (from : ℕ) → i < row_count b → f (row_at b i) ≡ true → Scanned f from i → Scanned f from (i + 1)
    scan_go from h e g =
        let s : _ = span_go f (all_rows b) i (row_at b i) (omega (arith, length_all_rows)) (ap f (row_in_rows i (row_at b i) h) ∙ e) in
        let q : (i + 1) + span f (drop (i + 1) (all_rows b)) ≡ i + span f (drop i (all_rows b)) = rw add-one (omega arith) in
        q ∙ g

    -- stops at one that does not
    pub scan_stop : i < row_count b → f (row_at b i) ≡ false → span f (drop i (all_rows b)) ≡ 0
    scan_stop h e = span_stop f (all_rows b) i (row_at b i) (omega (arith, length_all_rows)) (ap f (row_in_rows i (row_at b i) h) ∙ e)

    -- and behind the last
    pub scan_end : row_count b ≤ i → span f (drop i (all_rows b)) ≡ 0
    scan_end h = (span_end f (all_rows b) i (omega (arith, length_all_rows))).0

-- the rows of a well-formed tree's encoding are the tree's
pub all_rows_of_tree : (t : Place Node) → is_tree t ≡ true → all_rows (encode_tree t) ≡ rows t
unfolding all_rows row_count
all_rows_of_tree t h = rows_of_encoded t h

-- so the count is theirs
pub row_count_of_tree : (t : Place Node) → is_tree t ≡ true → row_count (encode_tree t) ≡ length (rows t)
row_count_of_tree t h = sym (length_all_rows (encode_tree t)) ∙ ap length (all_rows_of_tree t h)

-- ---- where a subtree ends

module _ (b : List ℕ) (at i : ℕ) (h : at < row_count b) where
  -- a subtree ends where the scan does
  pub end_at : (k : ℕ) → k ≡ (row_at b at).depth → Scanned b (is_deeper k) (at + 1) i → span (is_deeper k) (drop i (all_rows b)) ≡ 0
      → i ≡ end_of_subtree (all_rows b) at
  unfolding end_of_subtree
  end_at k e g z =
      let q = rw add-one at g in
      rw (depth_of_row b at h, ← e) (omega arith)
