use Prim.Native.Nat.{◌-◌}
use Rattle.soundness.specs.Tests.{may_stand, any_byte}
use Rattle.soundness.specs.NeighbourLaws.{PassedUpTo}
use Rattle.soundness.proofs.row.is_filled.Given as goal

abbrev pub invariant-loop-k : goal.invariant-loop-k
invariant-loop-k l = PassedUpTo (may_stand any_byte) l.s l.at (l.width - 1) l.all l.k
