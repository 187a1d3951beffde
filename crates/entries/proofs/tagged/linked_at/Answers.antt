-- `entries::tagged::linked_at` meets its contract: the tests at the row are those at its place, and the rest is the account's part.
use Rattle.std.proofs.Common.{refl, ◌∙◌}
use Rattle.tree.proofs.ResultLaws.{outcome_passed}
use Rattle.entries.specs.LinkLaws.{at_has_row, link_at_came, link_at_refused}
use Rattle.entries.proofs.tagged.linked_at.Goals as goal

pub judge_file-requires : goal.judge_file-requires
judge_file-requires c = at_has_row c.requires.3

pub returns-in_err-judge_file : goal.returns-in_err-judge_file
returns-in_err-judge_file c t p d at =
    let a = c.args in
    outcome_passed c.from_residual.result c.from_residual.ensures.1
    ∙ link_at_refused a.person a.account a.right at c.in_err-judge_file.ensures refl

pub returns : goal.returns
returns c t p d at =
    let a = c.args in
    link_at_came a.person a.account a.right at c.in_ok-judge_file.ensures refl (c.entry_rows.ensures t p d at)
