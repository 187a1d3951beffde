use Rattle.tree.specs.Layout.{name_width}
use Rattle.soundness.specs.NameOrderLaws.{UndecidedUpTo}
use Rattle.soundness.proofs.order.comes_before.Given as goal

abbrev pub invariant-loop-k : goal.invariant-loop-k
invariant-loop-k l = UndecidedUpTo l.tree l.a l.b name_width l.k
