-- `copying::copies::copy_node` and `copy_children`, which call each other, meet their contracts: the levels left fall.
use Rattle.std.proofs.Common.{◌<◌, sym, ◌∙◌, arith}
use Rattle.tree.specs.RowScan.{end_of_subtree}
use Rattle.tree.specs.RowAt.{row_count, all_rows}
use Rattle.copying.proofs.CopyRowLaws.{end_above}
use Rattle.copying.proofs.CopyJobLaws.{node_held, node_room, node_low, node_spelled, node_skipped, node_children, node_written, no_level, turn_start, turn_end, turn_job, turn_again}
use Rattle.copying.proofs.copies.+copy_children_copy_node.Goals as goal

pub copy_children-returns-then-left-eq0 : goal.copy_children-returns-then-left-eq0
copy_children-returns-then-left-eq0 t c = λ j. no_level c.args.who j c.if-left-eq0.true

pub copy_children-loop-i-init : goal.copy_children-loop-i-init
copy_children-loop-i-init t c = λ j. turn_start c.args.who j

pub copy_children-copy_node-next-requires : goal.copy_children-copy_node-next-requires
copy_children-copy_node-next-requires t c =
    let j = c.requires in
    let e = c.subtree_end-end.ensures in
    let n = c.if-left-eq0.false in
    (omega (arith, c.decreases, n), turn_job c.args.who j (c.loop-i.invariant j) (omega (arith, e.1)) (omega (arith, e.0)) n)

pub copy_children-loop-i-smaller : goal.copy_children-loop-i-smaller
copy_children-loop-i-smaller t c = omega (arith, c.subtree_end-i.ensures.0, end_above (all_rows c.args.tree.now) c.loop-i.i)

pub copy_children-loop-i-preserved : goal.copy_children-loop-i-preserved
copy_children-loop-i-preserved t c =
    let e = c.subtree_end-end.ensures in
    let n = c.if-left-eq0.false in
    let w = c.args.who in
    let b = c.args.tree.now in
    λ j.
    let used : c.loop-i.i < row_count b = omega (arith, e.1) in
    let inside : c.loop-i.i < end_of_subtree (all_rows b) c.args.at = omega (arith, e.0) in
    rw c.subtree_end-i.ensures.0 (turn_again w j (c.loop-i.invariant j) used inside n (c.copy_node-next.ensures (turn_job w j (c.loop-i.invariant j) used inside n)))

pub copy_children-returns : goal.copy_children-returns
copy_children-returns t c = λ j. turn_end c.args.who j (c.loop-i.invariant j) (omega (arith, c.subtree_end-end.ensures.0))

pub copy_node-returns-then-not-readable_at : goal.copy_node-returns-then-not-readable_at
copy_node-returns-then-not-readable_at t c = λ j. node_skipped c.args.who j (sym c.readable_at.ensures ∙ c.if-not-readable_at.true)

pub copy_node-copy_row-requires : goal.copy_node-copy_row-requires
copy_node-copy_row-requires t c =
    let w = c.args.who in
    let j = c.requires in
    record { holds_row = node_held w j; has_row = node_room w j; above_lt_to = j.order; above_bound = node_low w j; spelled = node_spelled w j }

pub copy_node-copy_children-requires : goal.copy_node-copy_children-requires
copy_node-copy_children-requires t c =
    let w = c.args.who in
    let j = c.requires in
    (omega (arith, c.decreases), node_children w j c.copy_row.new.out (c.copy_row.ensures (node_spelled w j)))

pub copy_node-returns : goal.copy_node-returns
copy_node-returns t c =
    let w = c.args.who in
    let z = c.copy_row.new.out in
    let read = sym c.readable_at.ensures ∙ c.if-not-readable_at.false in
    λ j.
    let is = c.copy_row.ensures (node_spelled w j) in
    node_written w j z is read (c.copy_children.ensures (node_children w j z is))
