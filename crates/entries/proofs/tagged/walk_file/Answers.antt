-- `entries::tagged::walk_file` meets its contract: the tests at the row that the walk came to are those at its place.
use Rattle.std.proofs.Common.{refl, ◌∙◌}
use Rattle.tree.proofs.ResultLaws.{outcome_ok, outcome_passed}
use Rattle.walks.specs.WalkBytesLaws.{walk_to, walk_not}
use Rattle.entries.specs.LinkLaws.{at_has_row, judged_came, judged_refused, passing_barred, passing_done}
use Rattle.entries.specs.EntrySteps.{file_tests}
use Rattle.entries.proofs.tagged.walk_file.Goals as goal

pub returns-in_err-spot : goal.returns-in_err-spot
returns-in_err-spot c t p tree e =
    let a = c.args in
    outcome_passed c.from_residual.result c.from_residual.ensures.1
    ∙ judged_refused a.account (file_tests a.account a.right) t p (walk_not tree a.account a.path.now e c.in_err-spot.ensures refl)

pub judge_file-requires : goal.judge_file-requires
judge_file-requires c = at_has_row (walk_to c.requires.whole.1 c.args.account c.args.path.now c.requires.path_text.1 c.in_ok-spot.ensures refl).at

pub returns-in_err-judge_file : goal.returns-in_err-judge_file
returns-in_err-judge_file c t p tree e =
    let a = c.args in
    let came = walk_to tree a.account a.path.now e c.in_ok-spot.ensures refl in
    outcome_passed c.from_residual-in_err-judge_file.result c.from_residual-in_err-judge_file.ensures.1
    ∙ judged_came a.account (file_tests a.account a.right) t p came (passing_barred _ c.in_err-judge_file.ensures)

pub returns : goal.returns
returns c t p tree e =
    let a = c.args in
    let came = walk_to tree a.account a.path.now e c.in_ok-spot.ensures refl in
    outcome_ok _ ∙ judged_came a.account (file_tests a.account a.right) t p came (passing_done _ c.in_ok-judge_file.ensures)
