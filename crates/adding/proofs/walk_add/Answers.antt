-- `adding::walk_add` meets its contract: the tests at the row that the walk came to are those at its place.
use Rattle.std.proofs.Common.{refl, ◌∙◌}
use Rattle.tree.proofs.ResultLaws.{outcome_ok, outcome_passed}
use Rattle.walks.specs.WalkBytesLaws.{walk_to, walk_not}
use Rattle.entries.specs.LinkLaws.{at_has_row, judged_came, judged_refused, passing_barred, passing_done}
use Rattle.adding.specs.AddSteps.{add_tests}
use Rattle.adding.proofs.walk_add.Goals as goal

pub returns-in_err-spot : goal.returns-in_err-spot
returns-in_err-spot c t w tree e =
    let a = c.args in
    outcome_passed c.from_residual.result c.from_residual.ensures.1
    ∙ judged_refused a.person (add_tests a.person a.dominated) t w (walk_not tree a.person a.working.now e c.in_err-spot.ensures refl)

pub judge_add-requires : goal.judge_add-requires
judge_add-requires c = at_has_row (walk_to c.requires.whole.1 c.args.person c.args.working.now c.requires.path_text.1 c.in_ok-spot.ensures refl).at

pub returns-in_err-judge_add : goal.returns-in_err-judge_add
returns-in_err-judge_add c t w tree e =
    let a = c.args in
    let came = walk_to tree a.person a.working.now e c.in_ok-spot.ensures refl in
    outcome_passed c.from_residual-in_err-judge_add.result c.from_residual-in_err-judge_add.ensures.1
    ∙ judged_came a.person (add_tests a.person a.dominated) t w came (passing_barred _ c.in_err-judge_add.ensures)

pub returns : goal.returns
returns c t w tree e =
    let a = c.args in
    let came = walk_to tree a.person a.working.now e c.in_ok-spot.ensures refl in
    outcome_ok _ ∙ judged_came a.person (add_tests a.person a.dominated) t w came (passing_done _ c.in_ok-judge_add.ensures)
