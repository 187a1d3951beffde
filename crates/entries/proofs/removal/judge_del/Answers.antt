-- `entries::removal::judge_del` meets its contract: one law of the tests for each return, and for each of the two that are refused alike.
use Rattle.std.proofs.Common.{sym, ap, ◌∙◌, not}
use Rattle.tree.proofs.ResultLaws.{outcome_ok, outcome_err}
use Rattle.entries.specs.TestsLaws.{del_unread, del_shut, del_full, del_open}
use Rattle.entries.proofs.removal.judge_del.Goals.{then-not-readable_at-via-then-not-readable_at, then-not-readable_at-via-else-not-readable_at+then-not-may_at}
use Rattle.entries.proofs.removal.judge_del.Goals as goal

pub returns-then-not-readable_at : goal.returns-then-not-readable_at
returns-then-not-readable_at c = elim c.then-not-readable_at.branch [
  | then-not-readable_at-via-then-not-readable_at w ↦
      outcome_err _ ∙ del_unread _ _ _ _ (sym c.readable_at.ensures ∙ w.if-not-readable_at.true)
  | then-not-readable_at-via-else-not-readable_at+then-not-may_at w ↦
      outcome_err _ ∙ del_shut _ _ _ _ (sym c.readable_at.ensures ∙ w.if-not-readable_at.false) (sym w.may_at.ensures ∙ w.if-not-may_at.true)
]

pub returns-then-has_children : goal.returns-then-has_children
returns-then-has_children c =
    outcome_err _ ∙ del_full _ _ _ _ (sym c.readable_at.ensures ∙ c.if-not-readable_at.false)
    (sym c.may_at.ensures ∙ c.if-not-may_at.false) (ap not (sym c.has_children.ensures ∙ c.if-has_children.true))

pub returns : goal.returns
returns c =
    outcome_ok _ ∙ del_open _ _ _ _ (sym c.readable_at.ensures ∙ c.if-not-readable_at.false)
    (sym c.may_at.ensures ∙ c.if-not-may_at.false) (ap not (sym c.has_children.ensures ∙ c.if-has_children.false))
