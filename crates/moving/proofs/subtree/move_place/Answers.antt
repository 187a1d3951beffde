-- `moving::subtree::move_place` meets its contract: the rows of the place end where its subtree does.
use Rattle.tree.proofs.TreeBytesLaws.{at_used}
use Rattle.moving.specs.MovingLaws.{movable_span}
use Rattle.moving.proofs.subtree.move_place.Goals as goal

pub subtree_end-requires : goal.subtree_end-requires
subtree_end-requires c = at_used c.requires.stands

pub overflow_sub-n : goal.overflow_sub-n
overflow_sub-n c = (movable_span c.requires c.subtree_end.result c.subtree_end.ensures.0).0

pub move_by_array-requires-clause-n_value : goal.move_by_array-requires-clause-n_value
move_by_array-requires-clause-n_value c = (movable_span c.requires c.subtree_end.result c.subtree_end.ensures.0).1.0
