-- `walks::along::parent_walk` meets its contract: the walk before the last `/`, then the test there.
use Rattle.std.proofs.Common.{arith, sym, ◌∙◌}
use Rattle.std.specs.Prelude.{take}
use lib.Seq.{length-take-le}
use Rattle.tree.specs.RowAt.{all_rows}
use Rattle.tree.proofs.ResultLaws.{outcome_ok, outcome_err, outcome_passed, done_then, refused_then}
use Rattle.walks.specs.RowWalkLaws.{walk_came, parent_on, parent_stops}
use Rattle.walks.proofs.along.parent_walk.Goals as goal

pub slice_bounds-walk-end : goal.slice_bounds-walk-end
slice_bounds-walk-end c = sym (length-take-le c.last_slash-slash.result c.args.path.now (omega arith))

pub returns-in_err-spot : goal.returns-in_err-spot
returns-in_err-spot c =
    let a = c.args in
    let slash = c.last_slash-slash in
    let walked = sym c.in_err-spot.ensures ∙ outcome_err _ in
    outcome_passed c.from_residual.result c.from_residual.ensures.1
    ∙ sym (parent_stops a.account (all_rows a.tree.now) a.path.now slash.result _ slash.ensures.0 walked)

pub enter-requires : goal.enter-requires
enter-requires c =
    let a = c.args in
    let text = take c.last_slash-slash.result a.path.now in
    let w = walk_came a.account a.tree.now text (omega arith) c.in_ok-spot.spot c.in_ok-spot.ensures in
    omega (arith, w.row_in)

pub returns-in_err-enter : goal.returns-in_err-enter
returns-in_err-enter c =
    let a = c.args in
    let slash = c.last_slash-slash in
    let walked = sym c.in_ok-spot.ensures ∙ outcome_ok _ in
    let shut = sym c.in_err-enter.ensures ∙ outcome_err _ in
    outcome_passed c.from_residual-in_err-enter.result c.from_residual-in_err-enter.ensures.1
    ∙ sym (parent_on a.account (all_rows a.tree.now) a.path.now slash.result _ slash.ensures.0 walked ∙ rw (shut, refused_then))

pub returns : goal.returns
returns c =
    let a = c.args in
    let slash = c.last_slash-slash in
    let walked = sym c.in_ok-spot.ensures ∙ outcome_ok _ in
    let entered = sym c.in_ok-enter.ensures ∙ outcome_ok _ in
    outcome_ok _ ∙ sym (parent_on a.account (all_rows a.tree.now) a.path.now slash.result _ slash.ensures.0 walked ∙ rw (entered, done_then))
