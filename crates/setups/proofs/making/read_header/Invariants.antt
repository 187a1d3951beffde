use Prim.Native.Nat.{◌-◌}
use mathlib.Core.Path.{◌≡◌}
use lib.ListN.{length}
use Rattle.setups.specs.MakingLaws.{Going}
use Rattle.setups.proofs.making.read_header.Given as goal

abbrev pub invariant-loop-header : goal.invariant-loop-header
invariant-loop-header l = Going l.text l.header l.kind l.at l.number × (length l.header ≡ length l.initial.header)

abbrev pub decreases-loop-header : goal.decreases-loop-header
decreases-loop-header l = length l.text - l.at
