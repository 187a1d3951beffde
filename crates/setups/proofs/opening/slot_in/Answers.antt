-- `setups::opening::slot_in` meets its contract: the primary group, and the further ones behind it.
use mathlib.Core.Path.{refl}
use Rattle.setups.specs.OpeningLaws.{slot_is}
use Rattle.setups.proofs.opening.slot_in.Goals as goal

pub returns : goal.returns
returns c = let a = c.args in slot_is a.header.now a.k _ refl c.number.ensures
