-- `entries::filing::judge_commit` meets its contract: one law of the tests for each return.
use Rattle.std.proofs.Common.{sym, ◌∙◌}
use borrow.Author.Tests.{eq-eqb, ne_eqb}
use Rattle.tree.proofs.NodeLaws.{last_revision_is}
use Rattle.tree.proofs.ResultLaws.{outcome_ok, outcome_err}
use Rattle.entries.specs.TestsLaws.{commit_shut, commit_stale, commit_spent, commit_open}
use Rattle.entries.proofs.filing.judge_commit.Goals as goal

pub returns-then-not-may_at : goal.returns-then-not-may_at
returns-then-not-may_at c = outcome_err _ ∙ commit_shut _ _ _ _ (sym c.may_at.ensures ∙ c.if-not-may_at.true)

pub returns-then-tag_revision_at-revision : goal.returns-then-tag_revision_at-revision
returns-then-tag_revision_at-revision c =
    let given = c.tag_revision_at.ensures in
    let revision = c.revision_at-revision.ensures in
    outcome_err _ ∙ commit_stale _ _ _ _ (sym c.may_at.ensures ∙ c.if-not-may_at.false)
    (ne_eqb _ _ (λ q. c.if-tag_revision_at-revision.true (given ∙ q ∙ sym revision)))

pub returns-then-revision-eq-LAST_REVISION : goal.returns-then-revision-eq-LAST_REVISION
returns-then-revision-eq-LAST_REVISION c =
    let given = c.tag_revision_at.ensures in
    let revision = c.revision_at-revision.ensures in
    outcome_err _ ∙ commit_spent _ _ _ _ (sym c.may_at.ensures ∙ c.if-not-may_at.false)
    (eq-eqb _ _ (sym given ∙ c.if-tag_revision_at-revision.false ∙ revision))
    (eq-eqb _ _ (sym revision ∙ c.if-revision-eq-LAST_REVISION.true ∙ sym last_revision_is))

pub returns : goal.returns
returns c =
    let given = c.tag_revision_at.ensures in
    let revision = c.revision_at-revision.ensures in
    outcome_ok _ ∙ commit_open _ _ _ _ (sym c.may_at.ensures ∙ c.if-not-may_at.false)
    (eq-eqb _ _ (sym given ∙ c.if-tag_revision_at-revision.false ∙ revision))
    (ne_eqb _ _ (λ q. c.if-revision-eq-LAST_REVISION.false (revision ∙ q ∙ last_revision_is)))
