-- `sound_store::accounts_part::is_slot` meets its contract: by the primary group.
use mathlib.Core.Path.{sym, ◌∙◌}
use Rattle.std.proofs.Common.{arith}
use Rattle.std.proofs.lemmas.Bool.Decides.{nat_tests}
use Rattle.sound_store.specs.HeaderTests.{is_slot_at}
use Rattle.sound_store.specs.StoreStepLaws.{slot_free}
use Rattle.sound_store.proofs.accounts_part.is_slot.Goals as goal

pub returns-then-primary-eq0 : goal.returns-then-primary-eq0
returns-then-primary-eq0 c = let a = c.args in c.is_zero.ensures ∙ sym (slot_free a.header.now a.k (omega arith))

pub returns-then-primary-le15 : goal.returns-then-primary-le15
unfolding is_slot_at
returns-then-primary-le15 c = grind (arith, nat_tests)

pub returns-else-primary-le15 : goal.returns-else-primary-le15
unfolding is_slot_at
returns-else-primary-le15 c = grind (arith, nat_tests)
