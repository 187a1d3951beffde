-- `setups::opening::slots_in` meets its contract: the slots read so far are the first ones.
use Rattle.std.proofs.Common.{refl, arith}
use Rattle.setups.specs.OpeningLaws.{no_slots, one_slot_more, all_slots}
use Rattle.setups.proofs.opening.slots_in.Goals as goal

pub loop-k-init : goal.loop-k-init
loop-k-init c = no_slots c.args.header.now _ refl

pub loop-k-preserved : goal.loop-k-preserved
loop-k-preserved c = one_slot_more c.args.header.now _ _ c.slot_in.result c.loop-k.invariant (omega arith) c.slot_in.ensures

pub returns : goal.returns
returns c = all_slots c.args.header.now _ _ c.loop-k.invariant (omega arith)
