use Rattle.std.proofs.Common.{◌≡◌, ◌-◌}
use Rattle.moving.specs.Relabel.{depths_shifted}
use Rattle.moving.proofs.relabel.shift_depths.Given as goal

abbrev pub invariant-loop-i : goal.invariant-loop-i
invariant-loop-i l = depths_shifted l.old l.new l.i (l.n - l.i) l.rows ≡ depths_shifted l.old l.new 0 l.n l.initial.rows
