use Rattle.setups.specs.OpeningLaws.{SlotsRead}
use Rattle.setups.proofs.opening.slots_in.Given as goal

abbrev pub invariant-loop-k : goal.invariant-loop-k
invariant-loop-k l = SlotsRead l.header l.persons l.k
