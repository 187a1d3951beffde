-- `tree::rows::count` meets its contract: the count is the first number.
use Rattle.tree.specs.RowAt.{row_count}
use Rattle.tree.proofs.rows.count.Goals as goal

pub returns : goal.returns
unfolding row_count
returns c = c.number.ensures
