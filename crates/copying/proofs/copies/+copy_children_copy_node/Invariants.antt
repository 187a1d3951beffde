use Rattle.std.proofs.Common.{◌-◌, ◌+◌}
use Rattle.copying.specs.CopyRows.{children, Job}
use Rattle.copying.proofs.CopyJobLaws.{Turn}
use Rattle.copying.proofs.copies.+copy_children_copy_node.Given as goal

-- the levels left fall: a node's children are copied with as many, a child with one less
abbrev pub decreases-copy_children : goal.decreases-copy_children
decreases-copy_children l = l.left + l.left

abbrev pub decreases-copy_node : goal.decreases-copy_node
decreases-copy_node l = l.left + l.left + 1

-- whatever the job is, its copies so far are written
abbrev pub invariant-copy_children-loop-i : goal.invariant-copy_children-loop-i
invariant-copy_children-loop-i l = (j : Job children l.tree l.initial.out l.at l.above l.to l.left) → Turn l.who j l.out l.i l.next

abbrev pub decreases-copy_children-loop-i : goal.decreases-copy_children-loop-i
decreases-copy_children-loop-i l = l.end - l.i
