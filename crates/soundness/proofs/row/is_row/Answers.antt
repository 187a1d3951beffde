-- `soundness::row::is_row` meets its contract: field by field.
use mathlib.Core.Path.{◌≡◌, refl, ◌∙◌}
use mathlib.Core.Bool.{◌&&◌, and_assoc}
use native.Mathlib.Omega.{arith}
use Rattle.tree.specs.Layout.{name_offset, name_width}
use Rattle.tree.specs.RowAt.{row_bytes_at}
use Rattle.buffers.specs.Fields.{is_filled}
use Rattle.soundness.specs.Sound.{is_row}
use Rattle.soundness.specs.Tests.{has_numbers, has_tag, has_content, row_test}
use Rattle.soundness.specs.BothLaws.{both, not_both}
use Rattle.soundness.specs.FieldTestLaws.{fields_are_row}
use Rattle.soundness.proofs.row.is_row.Goals as goal
use Rattle.soundness.proofs.row.is_row.Goals.{Joined-name_is_filled, then-has_numbers, else-has_numbers, then-name_is_filled, else-name_is_filled}

-- all fields but the content
front : (c : Joined-name_is_filled) → (let x = row_bytes_at c.args.tree.now c.args.i in
    c.if-name_is_filled.value ≡ ((has_numbers x && is_filled name_offset name_width x) && has_tag x))
front c =
    let x = row_bytes_at c.args.tree.now c.args.i in
    let two : c.if-has_numbers.value ≡ (has_numbers x && is_filled name_offset name_width x) = elim c.if-has_numbers.branch [
      | then-has_numbers w ↦ both c.has_numbers.ensures w.if-has_numbers.true (w.value-is ∙ w.name_is_filled.ensures)
      | else-has_numbers w ↦ not_both _ c.has_numbers.ensures w.if-has_numbers.false w.value-is
    ] in
    elim c.if-name_is_filled.branch [
      | then-name_is_filled w ↦ both two w.if-name_is_filled.true (w.value-is ∙ w.has_tag.ensures)
      | else-name_is_filled w ↦ not_both _ two w.if-name_is_filled.false w.value-is
    ]

whole : (c : Joined-name_is_filled) → (let x = row_bytes_at c.args.tree.now c.args.i in
    (((has_numbers x && is_filled name_offset name_width x) && has_tag x) && has_content x) ≡ is_row x)
unfolding row_test
whole c =
    let x = row_bytes_at c.args.tree.now c.args.i in
    and_assoc (has_numbers x && is_filled name_offset name_width x) (has_tag x) (has_content x)
    ∙ fields_are_row c.args.tree.now c.args.i (omega arith) (λ j. omega (arith, c.type_inv.tree j))

pub returns-then-has_tag : goal.returns-then-has_tag
returns-then-has_tag c =
    let j = (goal.at.returns-then-has_tag c).Joined-name_is_filled in
    both (front j) c.if-has_tag.true c.has_content.ensures ∙ whole j

pub returns-else-has_tag : goal.returns-else-has_tag
returns-else-has_tag c =
    let j = (goal.at.returns-else-has_tag c).Joined-name_is_filled in
    not_both _ (front j) c.if-has_tag.false refl ∙ whole j
