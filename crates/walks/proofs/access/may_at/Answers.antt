-- `walks::access::may_at` meets its contract: the test of the row's owner, group and mode.
use Rattle.tree.specs.Node.{allows}
use Rattle.walks.proofs.access.may_at.Goals as goal

pub returns : goal.returns
unfolding allows
returns c = cc
