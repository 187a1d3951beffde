-- `directory_commits::below::committed` meets its contract: one for rows that were linked, none for a refusal.
use Rattle.directory_commits.specs.StepsLaws.{counted}
use Rattle.directory_commits.proofs.below.committed.Goals as goal

pub returns : goal.returns
returns c = counted c.args.filed c.is_ok.ensures.value c.from.ensures
