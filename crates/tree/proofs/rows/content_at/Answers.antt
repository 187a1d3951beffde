-- `tree::rows::content_at` meets its contract: the content is the text at byte 72 of the row.
use mathlib.Core.Path.{◌∙◌, sym}
use native.Mathlib.Omega.{arith}
use Rattle.tree.specs.Encoding.{read_row}
use Rattle.tree.specs.RowAt.{row_at}
use Rattle.tree.proofs.RowAtLaws.{text_in_row}
use Rattle.tree.specs.Layout.{content_offset, content_width}
use Rattle.tree.proofs.rows.content_at.Goals as goal

pub returns : goal.returns
unfolding row_at read_row
returns c = c.text.ensures ∙ sym (text_in_row c.args.tree.now c.args.i content_offset content_width (omega arith))
