-- `directory_commits::command::commit_file` meets its contract: the step at the row commits the file, and the answer is what it links.
use Rattle.std.proofs.lemmas.Result.{err_from_is_err_and}
use Rattle.entries.specs.EntrySteps.{links_answer}
use Rattle.directory_commits.specs.BelowLaws.{row_in}
use Rattle.directory_commits.specs.CommandLaws.{file_carries}
use Rattle.directory_commits.proofs.command.commit_file.Goals as goal

pub step_in-step-requires : goal.step_in-step-requires
step_in-step-requires c = (_, _, _, row_in c.requires)

pub returns-in_err-step : goal.returns-in_err-step
unfolding links_answer
returns-in_err-step c x a =
    let f = file_carries x (c.step_in-step.ensures _ _ _ (row_in x)) a in
    let q = err_from_is_err_and c.from_residual.result c.from_residual.ensures.1 in
    rw (q.1, q.2) (rw c.in_err-step.was at f)

pub returns : goal.returns
unfolding links_answer
returns c x a =
    let f = file_carries x (c.step_in-step.ensures _ _ _ (row_in x)) a in
    rw c.in_ok-step.was at f
