-- `entries::filing::commit_rows` meets its contract: the tests at the rows that were found are those at their nodes.
use Rattle.std.proofs.Common.{refl, ◌∙◌}
use Rattle.accounts.specs.declared.Right.TheVariants.{R}
use Rattle.tree.proofs.ResultLaws.{outcome_ok, outcome_passed}
use Rattle.entries.specs.EntrySteps.{link_at}
use Rattle.entries.specs.LinkLaws.{at_has_row, passing_barred, passing_done, links_to, links_not, linked, linked_above, commit_came, commit_refused}
use Rattle.entries.proofs.filing.commit_rows.Goals as goal

pub returns-in_err-rows : goal.returns-in_err-rows
returns-in_err-rows c t p d at =
    let a = c.args in
    outcome_passed c.from_residual.result c.from_residual.ensures.1
    ∙ commit_refused a.person a.account at (links_not t (link_at a.person R a.account t p d) (c.in_err-rows.ensures t p d at) refl)

pub judge_commit-requires : goal.judge_commit-requires
judge_commit-requires c =
    let p = c.requires in
    let a = c.args in
    let t = p.0 in
    let x = links_to t (link_at a.person R a.account t p.1 p.2) (c.in_ok-rows.ensures t p.1 p.2 p.3) refl in
    let l = linked a.person a.account R p.3 x.1 x.2 in
    record {
      has_row = at_has_row l.file;
      has_row_2 = at_has_row l.original;
      has_row_3 = at_has_row (linked_above a.person a.account R p.3 x.1 x.2).2;
    }

pub returns-in_err-judge_commit : goal.returns-in_err-judge_commit
returns-in_err-judge_commit c t p d at =
    let a = c.args in
    let x = links_to t (link_at a.person R a.account t p d) (c.in_ok-rows.ensures t p d at) refl in
    outcome_passed c.from_residual-in_err-judge_commit.result c.from_residual-in_err-judge_commit.ensures.1
    ∙ commit_came a.person a.account at x.1 x.2 (passing_barred _ c.in_err-judge_commit.ensures)

pub returns : goal.returns
returns c t p d at =
    let a = c.args in
    let x = links_to t (link_at a.person R a.account t p d) (c.in_ok-rows.ensures t p d at) refl in
    outcome_ok _ ∙ commit_came a.person a.account at x.1 x.2 (passing_done _ c.in_ok-judge_commit.ensures)
