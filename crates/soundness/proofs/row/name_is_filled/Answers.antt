-- `soundness::row::name_is_filled` meets its contract: a field is filled up in its row as among all bytes.
use mathlib.Core.Path.{sym, ◌∙◌}
use native.Mathlib.Omega.{arith}
use Rattle.tree.specs.Layout.{name_offset, name_width}
use Rattle.soundness.specs.FieldTestLaws.{filled_in_row}
use Rattle.soundness.proofs.row.name_is_filled.Goals as goal

pub returns : goal.returns
returns c =
    let a = c.args in
    c.is_filled.ensures ∙ sym (filled_in_row a.tree.now a.i (omega arith) name_offset name_width (omega arith))
