-- `tree::rows::mode_at` meets its contract: the mode is the number at byte 4 of the row.
use mathlib.Core.Path.{◌∙◌, sym}
use native.Mathlib.Omega.{arith}
use Rattle.tree.specs.Encoding.{read_row}
use Rattle.tree.specs.RowAt.{row_at}
use Rattle.tree.proofs.RowAtLaws.{number_in_row}
use Rattle.tree.proofs.rows.mode_at.Goals as goal

pub returns : goal.returns
unfolding row_at read_row
returns c = c.number.ensures ∙ sym (number_in_row c.args.tree.now c.args.i 4 (omega arith))
