-- `tree::rows::tag_path_at` meets its contract: the tag's path is the text at byte 16 of the row.
use mathlib.Core.Path.{◌∙◌, sym}
use native.Mathlib.Omega.{arith}
use Rattle.tree.specs.RowAt.{tag_text_at}
use Rattle.tree.proofs.RowAtLaws.{text_in_row}
use Rattle.tree.specs.Layout.{tag_offset, tag_width}
use Rattle.tree.proofs.rows.tag_path_at.Goals as goal

pub returns : goal.returns
unfolding tag_text_at
returns c = c.text.ensures ∙ sym (text_in_row c.args.tree.now c.args.i tag_offset tag_width (omega arith))
