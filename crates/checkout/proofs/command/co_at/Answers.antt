-- `checkout::command::co_at` meets its contract: the entry's rows end where its subtree does.
use Rattle.std.proofs.Common.{arith}
use Rattle.tree.proofs.TreeBytesLaws.{at_used, at_end}
use Rattle.checkout.proofs.command.co_at.Goals as goal

pub subtree_end-requires : goal.subtree_end-requires
subtree_end-requires c = at_used c.requires.found

pub overflow_sub-n : goal.overflow_sub-n
overflow_sub-n c = omega (arith, c.subtree_end.ensures.0, at_end c.requires.found)
