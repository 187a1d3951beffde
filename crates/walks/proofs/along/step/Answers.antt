-- `walks::along::step` meets its contract: one law of a step for each return.
use Rattle.std.proofs.Common.{sym, ◌∙◌}
use Rattle.tree.specs.RowAt.{all_rows}
use Rattle.tree.proofs.ResultLaws.{outcome_ok, outcome_err, outcome_passed}
use Rattle.walks.specs.RowWalkLaws.{step_shut, step_found, step_missing}
use Rattle.walks.proofs.along.step.Goals as goal

pub returns-in_err-enter : goal.returns-in_err-enter
returns-in_err-enter c =
    let a = c.args in
    let shut = sym c.in_err-enter.ensures ∙ outcome_err _ in
    outcome_passed c.from_residual.result c.from_residual.ensures.1
    ∙ sym (step_shut a.account (all_rows a.tree.now) a.from a.name.now _ shut)

pub returns-in-Ok : goal.returns-in-Ok
returns-in-Ok c =
    let a = c.args in
    let entered = sym c.in_ok-enter.ensures ∙ outcome_ok _ in
    outcome_ok _ ∙ sym (step_found a.account (all_rows a.tree.now) a.from a.name.now entered _ (sym c.in-Ok.ensures))

pub returns-in-Err : goal.returns-in-Err
returns-in-Err c =
    let a = c.args in
    let entered = sym c.in_ok-enter.ensures ∙ outcome_ok _ in
    outcome_err _ ∙ sym (step_missing a.account (all_rows a.tree.now) a.from a.name.now entered _ (sym c.in-Err.ensures))
