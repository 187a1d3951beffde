-- Laws of the definitions in `Caller`.
use Rattle.std.specs.Prelude.{◌≡◌, refl, true, ◌<◌}
use Rattle.std.proofs.Common.{lt-ltb}
use Rattle.accounts.specs.declared.Caller.{Caller}
use Rattle.accounts.specs.Groups.{no_groups, with_group}
use Rattle.accounts.specs.Caller.{root_caller, is_caller}

-- root has number 0, and group 0 alone
pub root_caller_is :
    root_caller ≡ record { account = record { uid = record { 0 = 0 }; groups = with_group (record { 0 = 0 }) no_groups }; primary = record { 0 = 0 } }
unfolding root_caller
root_caller_is = refl

-- a caller is in range by both numbers
pub caller_low : (c : Caller) → c.account.uid.0 < 24 → c.primary.0 < 25 → is_caller c ≡ true
unfolding is_caller
caller_low c u g = rw (lt-ltb c.account.uid.0 24 u) (lt-ltb c.primary.0 25 g)
