use Rattle.syntax.specs.Field.{content_byte}
use Rattle.soundness.specs.Tests.{may_stand}
use Rattle.soundness.specs.NeighbourLaws.{PassedUpTo}
use Rattle.soundness.proofs.row.all_stand.Given as goal

abbrev pub invariant-loop-i : goal.invariant-loop-i
invariant-loop-i l = PassedUpTo (may_stand content_byte) l.s l.at l.n l.all l.i
