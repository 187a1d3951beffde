-- What the code goes by where it tests all bytes: the length, the number of rows, `/`, the rows behind it, and the unused bytes.
use Rattle.std.specs.Prelude.{◌≡◌, refl, true, false, ◌&&◌, ℕ, ◌-◌, ◌≤◌, ◌<◌, eqb, length, get_or}
use Rattle.std.proofs.Math.Path.{sym, ap, ap₂}
use Rattle.std.proofs.Common.{◌∙◌, arith, take_all}
use mathlib.Core.List.{List, []}
use Rattle.std.proofs.Math.Bool.{Bool, and-false}
use Rattle.std.proofs.Math.ListN.{take, drop, length-drop}
use borrow.Author.Tests.{le-leb, lt-leb, eqb-true, eqb-false, eq-eqb, ne_eqb}
use Rattle.buffers.specs.Cases.{case, contra}
use Rattle.buffers.specs.Text.{same_text, every}
use Rattle.buffers.specs.TextLaws.{same_text_refl}
use Rattle.buffers.specs.Fields.{two_bytes, number_at, all_from, all_zero, zeros_at}
use Rattle.tree.specs.Layout.{tree_width, row_start}
use Rattle.tree.specs.Node.{is_directory, Node}
use Rattle.tree.specs.Rows.{Row}
use Rattle.tree.specs.WellFormed.{most_nodes}
use Rattle.tree.specs.RowAt.{row_count, row_bytes_at, row_at, all_rows}
use Rattle.soundness.specs.Sound.{is_row, row_stretches, in_order, is_top_row, form_tree, is_count, is_sound}
use Rattle.soundness.specs.Tests.{rest_in_order}
use Rattle.soundness.specs.RowTestLaws.{same_number}
use Rattle.soundness.specs.OrderTestLaws.{stretches_from, rows_from}

-- ---- the row of `/`

module _ (r : Row Node) where
  -- it has depth 0
  pub top_depth : (r.depth ≡ 0 → ⊥) → is_top_row r ≡ false
  unfolding is_top_row
  top_depth e = rw (ne_eqb r.depth 0 e)

  -- and no name
  pub top_name : (length r.name ≡ 0 → ⊥) → is_top_row r ≡ false
  unfolding is_top_row
  top_name e = simp (ne_eqb (length r.name) 0 e, and-false)

  -- and is a directory
  pub top_kind : r.depth ≡ 0 → length r.name ≡ 0 → is_top_row r ≡ is_directory r.here.kind
  unfolding is_top_row
  top_kind d n = rw (eq-eqb r.depth 0 d, eq-eqb (length r.name) 0 n)

  -- so its depth is 0
  pub top_at_zero : is_top_row r ≡ true → r.depth ≡ 0
  top_at_zero h = case (eqb r.depth 0) (λ t. eqb-true r.depth 0 t) (λ t. contra h (top_depth (eqb-false r.depth 0 t)))

-- ---- all bytes

regrouped : (a e t i z : Bool) → (((a && e) && (t && i)) && z) ≡ ((a && t) && ((e && i) && z))
regrouped false e t i z = refl
regrouped true false t i z = sym (and-false t)
regrouped true true false i z = refl
regrouped true true true i z = refl

module _ (b : List ℕ) where
  -- another length
  pub not_long : (length b ≡ tree_width → ⊥) → is_sound b ≡ false
  unfolding is_sound
  not_long e = rw (ne_eqb (length b) tree_width e)

  -- no rows
  pub no_rows : row_count b ≡ 0 → is_sound b ≡ false
  unfolding is_sound all_rows all_from form_tree
  no_rows e = simp (e, and-false)

  -- too many rows
  pub many_rows : 256 < row_count b → is_sound b ≡ false
  unfolding is_sound is_count most_nodes
  many_rows h = simp (lt-leb (row_count b) 256 h, and-false)

  count_written : 2 ≤ length b → ((k : ℕ) → get_or b k 0 < 256) → same_text (two_bytes (row_count b)) (take 2 b) ≡ true
  unfolding row_count
  count_written l small =
      ap (same_text (two_bytes (number_at 0 b))) (sym (same_number 0 b (omega arith) (small 0))) ∙ same_text_refl (two_bytes (number_at 0 b))

  -- `/`, the rows behind it, and the unused bytes
  pub sound_in_parts : length b ≡ tree_width → 1 ≤ row_count b → row_count b ≤ 256 → ((k : ℕ) → get_or b k 0 < 256)
      → is_sound b ≡ ((is_row (row_bytes_at b 0) && is_top_row (row_at b 0))
      && (rest_in_order b 1 [] (row_at b 0).here.kind && zeros_at (row_start (row_count b)) (tree_width - (row_start (row_count b))) b))
  unfolding is_sound is_count most_nodes form_tree every rest_in_order zeros_at
  sound_in_parts l o f small =
      let n = row_count b in
      let D = drop (row_start n) b in
      let S = drop 1 (row_stretches b) in
      let R = drop 1 (all_rows b) in
      let E : List (List ℕ) → List (Row Node) → Bool = λ s r. (every is_row s && form_tree r) && all_zero D in
      let c = count_written (omega arith) small in
      let z : D ≡ take (tree_width - (row_start n)) D = sym (take_all (tree_width - (row_start n)) D (omega (arith, length-drop (row_start n) b))) in
      let e : is_sound b ≡ E (row_stretches b) (all_rows b) = rw (eq-eqb (length b) tree_width l, le-leb n 256 f, c) in
      e
      ∙ ap₂ E (stretches_from b 0 (omega arith)) (rows_from b 0 (omega arith))
      ∙ regrouped (is_row (row_bytes_at b 0)) (every is_row S) (is_top_row (row_at b 0)) (in_order [] (row_at b 0).here.kind R) (all_zero D)
      ∙ ap (λ (d : List ℕ). (is_row (row_bytes_at b 0) && is_top_row (row_at b 0)) && ((every is_row S && in_order [] (row_at b 0).here.kind R) && all_zero d)) z
