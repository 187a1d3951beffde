-- `walks::along::enter` meets its contract: one law of entering for each return.
use Rattle.std.proofs.Common.{arith, sym, ◌∙◌}
use Rattle.tree.proofs.ResultLaws.{outcome_ok, outcome_err}
use Rattle.walks.specs.RowWalkLaws.{enter_file, enter_shut, enter_open}
use Rattle.walks.proofs.along.enter.Goals as goal

pub returns-in-File : goal.returns-in-File
returns-in-File c =
    let a = c.args in
    outcome_err _ ∙ sym (enter_file a.account a.tree.now a.row (omega arith) (sym c.in-File.ensures))

pub returns-in-Directory : goal.returns-in-Directory
returns-in-Directory c =
    let a = c.args in
    outcome_ok _ ∙ sym (enter_open a.account a.tree.now a.row (omega arith) (sym c.in-Directory.ensures) (sym c.may_at.ensures ∙ c.if-may_at.true))

pub returns-in-Directory-2 : goal.returns-in-Directory-2
returns-in-Directory-2 c =
    let a = c.args in
    outcome_err _ ∙ sym (enter_shut a.account a.tree.now a.row (omega arith) (sym c.in-Directory-2.ensures) (sym c.may_at.ensures ∙ c.if-may_at.false))
