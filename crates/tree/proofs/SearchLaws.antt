-- What the search for a child goes by: the bytes of a row's name, the steps at a row, and what is left of the search from a row on.
use Rattle.std.specs.Prelude.{◌≡◌, List, ℕ, suc, ◌+◌, ◌≤◌, ◌<◌, length, drop}
use Rattle.std.proofs.Common.{◌∙◌, eq-eqb, ne_eqb}
use Rattle.std.proofs.Math.Path.{ap}
use native.Mathlib.Omega.{arith}
use Rattle.std.proofs.Math.ListN.{get_or}
use Rattle.buffers.specs.Text.{Text}
use Rattle.buffers.specs.FieldsLaws.{text_byte, text_nonzero}
use Rattle.tree.specs.Layout.{row_start, name_offset, name_width}
use Rattle.tree.specs.Rows.{Row}
use Rattle.std.specs.Prelude.{Err}
use Rattle.tree.specs.RowScan.{Child, order_in, child_by, child_from, child_in}
use Rattle.tree.specs.Encoding.{read_row}
use Rattle.tree.specs.RowAt.{row_count, row_bytes_at, row_at, all_rows}
use Rattle.tree.proofs.RowAtLaws.{byte_in_row, rows_from, rows_end, depth_of_row}
use Rattle.tree.specs.Search.{alike, steps_at, steps_by, steps_from, steps_in}

-- ---- the bytes of a row's name

module _ (b : List ℕ) (i k : ℕ) where
  -- a byte of the name, and the zero behind the last where the field goes on
  pub name_byte : k < name_width → k ≤ length (row_at b i).name → get_or (row_at b i).name k 0 ≡ get_or b (row_start i + name_offset + k) 0
  unfolding row_at read_row
  name_byte h l =
      let q : row_start i + (name_offset + k) ≡ row_start i + name_offset + k = omega arith in
      text_byte (row_bytes_at b i) name_offset name_width k h l
      ∙ byte_in_row b i (name_offset + k) (omega arith)
      ∙ ap (λ (p : ℕ). get_or b p 0) q

  -- no byte of the name is zero
  pub name_nonzero : k < length (row_at b i).name → get_or (row_at b i).name k 0 ≡ 0 → ⊥
  unfolding row_at read_row
  name_nonzero h = text_nonzero (row_bytes_at b i) name_offset name_width k h

-- ---- the steps at a row

module _ {A : Type 0} (k : ℕ) (n : Text) (r : Row A) where
  -- none at one that is no child
  pub steps_aside : (r.depth ≡ k → ⊥) → steps_at k n r ≡ 0
  unfolding steps_at
  steps_aside h = rw (ne_eqb r.depth k h)

  -- at a child the bytes alike and one more
  pub steps_beside : r.depth ≡ k → steps_at k n r ≡ suc (alike r.name n)
  unfolding steps_at
  steps_beside e = rw (eq-eqb r.depth k e)

-- ---- what is left of the search

-- what the search for a child at a depth answers from an index on
abbrev pub child_left : List ℕ → ℕ → Text → ℕ → Child
child_left b k n i = child_from k n i (drop i (all_rows b))

-- and its steps from there on
abbrev pub steps_left : List ℕ → ℕ → Text → ℕ → ℕ
steps_left b k n i = steps_from k n (drop i (all_rows b))

module _ (b : List ℕ) (k : ℕ) (n : Text) (i : ℕ) where
  -- both go by the row there
  pub child_left_row : i < row_count b → child_left b k n i ≡ child_by (order_in k n (row_at b i)) i (child_left b k n (suc i))
  unfolding child_from
  child_left_row h = ap (child_from k n i) (rows_from b i h)

  pub steps_left_row : i < row_count b → steps_left b k n i ≡ steps_by (order_in k n (row_at b i)) (steps_at k n (row_at b i)) (steps_left b k n (suc i))
  unfolding steps_from
  steps_left_row h = ap (steps_from k n) (rows_from b i h)

  -- and end behind the last
  pub child_left_end : row_count b ≤ i → child_left b k n i ≡ Err i
  unfolding child_from
  child_left_end h = ap (child_from k n i) (rows_end b i h)

  pub steps_left_end : row_count b ≤ i → steps_left b k n i ≡ 0
  unfolding steps_from
  steps_left_end h = ap (steps_from k n) (rows_end b i h)

-- behind the row of a place all of it is left
module _ (b : List ℕ) (at k : ℕ) (n : Text) (h : at < row_count b) (e : k ≡ suc (row_at b at).depth) where
  pub child_left_all : child_left b k n (suc at) ≡ child_in (all_rows b) at n
  unfolding child_in
  child_left_all = rw (depth_of_row b at h, ← e)

  pub steps_left_all : steps_left b k n (suc at) ≡ steps_in (all_rows b) at n
  unfolding steps_in
  steps_left_all = rw (depth_of_row b at h, ← e)
