-- `sound_store::accounts_part::has_slots` meets its contract: account 0, then account by account.
use Rattle.std.proofs.Common.{rules, eq-eqb, ne_eqb}
use lib.ListN.{get_or}
use Rattle.soundness.specs.BothLaws.{both, not_both}
use Rattle.sound_store.specs.HeaderTests.{is_slot_at, has_slots}
use Rattle.sound_store.specs.PassesLaws.{all_passed}
use Rattle.sound_store.proofs.accounts_part.has_slots.Goals as goal
use mathlib.Core.Path.{refl}

pub returns-then-header-eq0 : goal.returns-then-header-eq0
unfolding has_slots
returns-then-header-eq0 c =
    let b = c.args.header.now in
    both refl (eq-eqb (get_or b 0 0) 0 c.if-header-eq0.true) (all_passed 16 (is_slot_at b) _ _ _ c.all.ensures.ran (λ x r q k. search rules))

pub returns-else-header-eq0 : goal.returns-else-header-eq0
unfolding has_slots
returns-else-header-eq0 c = not_both _ refl (ne_eqb (get_or c.args.header.now 0 0) 0 c.if-header-eq0.false) refl
