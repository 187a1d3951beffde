-- `directory_commits::below::step_in` meets its contract: the tree is lent, and the header stays before what is left of it.
use Rattle.directory_commits.specs.StepsLaws.{place_long, lent_at, stepped_in}
use borrow.Author.Rules.{rules}
use Rattle.directory_commits.proofs.below.step_in.Goals as goal

pub slice_bounds-commit_step-count : goal.slice_bounds-commit_step-count
slice_bounds-commit_step-count c = place_long c.requires

pub slice_bounds-commit_step-start : goal.slice_bounds-commit_step-start
slice_bounds-commit_step-start c = let l = place_long c.requires in search rules

pub commit_step-requires : goal.commit_step-requires
commit_step-requires c = let h = c.requires in (h.0.store.tree, h.1, h.2, lent_at h.3)

pub returns : goal.returns
returns c s p d h =
    let a = c.args in
    stepped_in a.person a.account h (c.commit_step.ensures s.store.tree p d (lent_at h))
