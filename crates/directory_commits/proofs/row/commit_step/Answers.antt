-- `directory_commits::row::commit_step` meets its contract: both calls are of the tree at entry, so both speak of the same place.
use Rattle.directory_commits.proofs.row.commit_step.Goals as goal

pub returns : goal.returns
returns c t p d at = record {
  next = c.row_after-next.ensures t p d at;
  filed = c.commit_at-filed.ensures t p d at;
}
