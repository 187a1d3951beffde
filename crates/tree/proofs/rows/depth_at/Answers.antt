-- `tree::rows::depth_at` meets its contract: the depth is the first byte of the row.
use mathlib.Core.Path.{sym}
use Rattle.tree.proofs.RowAtLaws.{depth_in_row}
use Rattle.tree.proofs.rows.depth_at.Goals as goal

pub returns : goal.returns
returns c = sym (depth_in_row c.args.tree.now c.args.i)
