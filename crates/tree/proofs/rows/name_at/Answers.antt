-- `tree::rows::name_at` meets its contract: the name is the text at byte 8 of the row.
use mathlib.Core.Path.{◌∙◌, sym}
use native.Mathlib.Omega.{arith}
use Rattle.tree.specs.Encoding.{read_row}
use Rattle.tree.specs.RowAt.{row_at}
use Rattle.tree.proofs.RowAtLaws.{text_in_row}
use Rattle.tree.proofs.rows.name_at.Goals as goal

pub returns : goal.returns
unfolding row_at read_row
returns c = c.text.ensures ∙ sym (text_in_row c.args.tree.now c.args.i 8 8 (omega arith))
