-- `nodes::making::may_create` meets its contract: no room, 256 nodes, or the room.
use Rattle.std.proofs.Common.{arith, sym, ◌∙◌, ap, refl}
use Rattle.tree.proofs.ResultLaws.{outcome_err, outcome_passed}
use Rattle.tree.proofs.TreeBytesLaws.{encoded_count}
use Rattle.gaps.specs.Gaps.{gap_from}
use Rattle.gaps.specs.GapsLaws.{gap_not, room_to, room_not}
use Rattle.nodes.specs.NodeChecks.{may_create}
use Rattle.nodes.specs.NodeChecksLaws.{making_stops, making_full, making_done}
use Rattle.nodes.proofs.making.may_create.Goals as goal

pub returns-in_err-gap : goal.returns-in_err-gap
returns-in_err-gap c t p tree reads =
    let a = c.args in
    outcome_passed c.from_residual.result c.from_residual.ensures.1
    ∙ sym (gap_not t p (may_create a.account t p) (making_stops a.account t p (room_not tree a.account p (c.in_err-gap.ensures t p tree reads) refl)))

pub returns-then-count-ge-MOST_ROWS : goal.returns-then-count-ge-MOST_ROWS
returns-then-count-ge-MOST_ROWS c t p tree reads =
    let a = c.args in
    let g = room_to tree a.account p (c.in_ok-gap.ensures t p tree reads) refl in
    let full = making_full a.account t p g.found (omega (arith, c.if-count-ge-MOST_ROWS.true, c.count.ensures, encoded_count tree)) in
    outcome_err _ ∙ sym (gap_not t p (may_create a.account t p) full)

pub returns : goal.returns
returns c t p tree reads =
    let a = c.args in
    let told = c.in_ok-gap.ensures t p tree reads in
    let g = room_to tree a.account p told refl in
    let fits = making_done a.account t p g.found (omega (arith, c.if-count-ge-MOST_ROWS.false, c.count.ensures, encoded_count tree)) in
    told ∙ ap (gap_from t p) (g.found ∙ sym fits)
