-- `tree::rows::revision_at` meets its contract: the revision is the number at byte 6 of the row.
use mathlib.Core.Path.{◌∙◌, sym}
use native.Mathlib.Omega.{arith}
use Rattle.tree.specs.Encoding.{read_row}
use Rattle.tree.specs.RowAt.{row_at}
use Rattle.tree.proofs.RowAtLaws.{number_in_row}
use Rattle.tree.proofs.rows.revision_at.Goals as goal

pub returns : goal.returns
unfolding row_at read_row
returns c = c.number.ensures ∙ sym (number_in_row c.args.tree.now c.args.i 6 (omega arith))
