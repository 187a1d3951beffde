-- `gaps::room::room_below` meets its contract: one law of the checks in a directory for each return.
use Rattle.std.proofs.Common.{arith, sym, ◌∙◌}
use Rattle.buffers.specs.Cases.{answers_false, answers_true}
use Rattle.tree.proofs.TreeBytesLaws.{at_used}
use Rattle.tree.proofs.ResultLaws.{outcome_ok, outcome_err}
use Rattle.gaps.specs.GapsLaws.{place_row, place_depth, gap_used, gap_shut, gap_open}
use Rattle.gaps.proofs.room.room_below.Goals as goal

pub find_child-requires : goal.find_child-requires
find_child-requires c = at_used c.requires.3

pub may_at-requires : goal.may_at-requires
may_at-requires c = place_row c.requires.3

pub returns-then-not-may_at : goal.returns-then-not-may_at
returns-then-not-may_at c t q d a =
    let s = c.args in
    outcome_err _ ∙ sym (gap_shut a s.account s.name.now c.in-Err.ensures (answers_false c.may_at.ensures c.if-not-may_at.true-raw))

pub depth_at-depth-requires : goal.depth_at-depth-requires
depth_at-depth-requires c = place_row c.requires.3

pub overflow_add-depth : goal.overflow_add-depth
overflow_add-depth c = omega (arith, place_depth c.requires.3)

pub returns-in-Ok : goal.returns-in-Ok
returns-in-Ok c t q d a = outcome_err _ ∙ sym (gap_used a c.args.account c.args.name.now c.in-Ok.ensures)

pub returns-else-not-may_at : goal.returns-else-not-may_at
returns-else-not-may_at c t q d a =
    let s = c.args in
    let k = c.depth_at-depth in
    outcome_ok _ ∙ sym (gap_open a s.account s.name.now c.in-Err.ensures k.result k.ensures (answers_true c.may_at.ensures c.if-not-may_at.false-raw))
