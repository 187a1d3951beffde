use Rattle.tree.specs.Layout.{name_width}
use Rattle.soundness.specs.Tests.{may_name}
use Rattle.soundness.specs.NeighbourLaws.{PassedUpTo}
use Rattle.soundness.proofs.row.has_name.Given as goal

abbrev pub invariant-loop-n : goal.invariant-loop-n
invariant-loop-n l = PassedUpTo may_name l.tree l.at name_width l.all l.n
