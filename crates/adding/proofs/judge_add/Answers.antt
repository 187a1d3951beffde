-- `adding::judge_add` meets its contract: one law of the tests for each return.
use Rattle.std.proofs.Common.{sym, ◌∙◌}
use Rattle.tree.proofs.ResultLaws.{outcome_ok, outcome_err}
use Rattle.adding.specs.AddTestsLaws.{add_foreign, add_unread, add_undominated, add_open}
use Rattle.adding.proofs.judge_add.Goals as goal

pub returns-then-not-owns_at : goal.returns-then-not-owns_at
returns-then-not-owns_at c = outcome_err _ ∙ add_foreign _ _ _ (sym c.owns_at.ensures ∙ c.if-not-owns_at.true)

pub returns-then-not-readable_at : goal.returns-then-not-readable_at
returns-then-not-readable_at c =
    outcome_err _ ∙ add_unread _ _ _ (sym c.owns_at.ensures ∙ c.if-not-owns_at.false) (sym c.readable_at.ensures ∙ c.if-not-readable_at.true)

pub returns-then-not-dominated : goal.returns-then-not-dominated
returns-then-not-dominated c =
    outcome_err _ ∙ add_undominated _ _ _ (sym c.owns_at.ensures ∙ c.if-not-owns_at.false)
    (sym c.readable_at.ensures ∙ c.if-not-readable_at.false) c.if-not-dominated.true

pub returns : goal.returns
returns c =
    outcome_ok _ ∙ add_open _ _ _ (sym c.owns_at.ensures ∙ c.if-not-owns_at.false)
    (sym c.readable_at.ensures ∙ c.if-not-readable_at.false) c.if-not-dominated.false
