-- `directory_commits::below::end_in` meets its contract: in the tree that is lent the rows of a place end behind all below it.
use mathlib.Core.Path.{◌∙◌}
use Rattle.tree.proofs.TreeBytesLaws.{at_used, at_end}
use Rattle.directory_commits.specs.StepsLaws.{place_long, lent_at}
use borrow.Author.Rules.{rules}
use Rattle.directory_commits.proofs.below.end_in.Goals as goal

pub slice_bounds-subtree_end-count : goal.slice_bounds-subtree_end-count
slice_bounds-subtree_end-count c = place_long c.requires

pub slice_bounds-subtree_end-start : goal.slice_bounds-subtree_end-start
slice_bounds-subtree_end-start c = let l = place_long c.requires in search rules

pub subtree_end-requires : goal.subtree_end-requires
subtree_end-requires c = at_used (lent_at c.requires.3)

pub returns : goal.returns
returns c s p d h = c.subtree_end.ensures.0 ∙ at_end (lent_at h)
