-- `attributes::checks::may_do` meets its contract: where the walk came to, the tests of the row decide.
use Rattle.std.proofs.Common.{arith, sym, ◌∙◌, refl}
use Rattle.tree.proofs.ResultLaws.{outcome_ok, outcome_err, outcome_passed, done_then, refused_then}
use Rattle.tree.proofs.TreeBytesLaws.{has_row}
use Rattle.walks.specs.RowWalkLaws.{walk_came}
use Rattle.attributes.specs.ChecksLaws.{tested, not_walked}
use Rattle.attributes.proofs.checks.may_do.Goals as goal

pub returns-in_err-spot : goal.returns-in_err-spot
returns-in_err-spot c t p e q =
    let a = c.args in
    outcome_passed c.from_residual.result c.from_residual.ensures.1
    ∙ not_walked e a.account a.path.now q a.deed c.in_err-spot.ensures refl

pub test-requires : goal.test-requires
test-requires c =
    let a = c.args in
    let sized = c.requires.whole.1.sized in
    let w = walk_came a.account a.tree.now a.path.now sized.some_rows c.in_ok-spot.spot c.in_ok-spot.ensures in
    has_row sized.wide (omega (arith, w.row_in, sized.few_rows))

pub returns-in_err-test : goal.returns-in_err-test
returns-in_err-test c t p e q =
    let a = c.args in
    let shut = sym c.in_err-test.ensures ∙ outcome_err _ in
    outcome_passed c.from_residual-in_err-test.result c.from_residual-in_err-test.ensures.1
    ∙ sym (sym (tested e a.account a.path.now q a.deed c.in_ok-spot.ensures refl) ∙ rw (shut, refused_then))

pub returns : goal.returns
returns c t p e q =
    let a = c.args in
    let passed = sym c.in_ok-test.ensures ∙ outcome_ok _ in
    outcome_ok _ ∙ sym (sym (tested e a.account a.path.now q a.deed c.in_ok-spot.ensures refl) ∙ rw (passed, done_then))
