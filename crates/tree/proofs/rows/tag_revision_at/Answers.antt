-- `tree::rows::tag_revision_at` meets its contract: the tag's revision is the number at byte 70 of the row.
use mathlib.Core.Path.{◌∙◌, sym}
use native.Mathlib.Omega.{arith}
use Rattle.tree.specs.RowAt.{tag_number_at}
use Rattle.tree.proofs.RowAtLaws.{number_in_row}
use Rattle.tree.specs.Layout.{tag_revision_offset}
use Rattle.tree.proofs.rows.tag_revision_at.Goals as goal

pub returns : goal.returns
unfolding tag_number_at
returns c = c.number.ensures ∙ sym (number_in_row c.args.tree.now c.args.i tag_revision_offset (omega arith))
