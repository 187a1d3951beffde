-- Laws of the definitions in `Groups`.
use Rattle.std.specs.Prelude.{◌≡◌, refl, false, ◌||◌, ℕ, zero, suc, ◌*◌, ◌/◌, ◌%◌, ◌^◌, ◌<◌, eqb}
use Rattle.std.proofs.Common.{arith, div-one, pow-suc, zero-lt-suc, eq-eqb, eqb-true}
use Rattle.std.proofs.Math.Nat.{zero-div, div-eq_of_lt, mul-mod_left, mul-div-mul_right}
use Rattle.std.proofs.Math.Dec.{eqb-zero-suc, eqb-suc-zero, eqb-suc-suc}
use Rattle.std.proofs.Math.Pow.{pow-lt}
use Rattle.std.specs.Int.Bits.{bit_or, or_step}
use Rattle.std.proofs.lemmas.Nat.{or_shr}
use Rattle.std.proofs.lemmas.Bool.{eqb-false}
use Rattle.buffers.specs.Cases.{case}
use Rattle.accounts.specs.declared.Gid.{Gid}
use Rattle.accounts.specs.declared.Groups.{Groups}
use Rattle.accounts.specs.Groups.{same_gid, member, no_groups, with_group}

pub no_groups_is : no_groups ≡ record { 0 = 0 }
unfolding no_groups
no_groups_is = refl

-- a group is in a set by its bit, and is added by it
pub member_is : (g : Gid) (s : Groups) → member g s ≡ eqb (s.0 / 2 ^ g.0 % 2) 1
unfolding member
member_is g s = refl

pub with_group_is : (g : Gid) (s : Groups) → with_group g s ≡ record { 0 = bit_or s.0 (2 ^ g.0) }
unfolding with_group
with_group_is g s = refl

-- no group is in the empty set
pub member_none : (g : Gid) → member g no_groups ≡ false
unfolding member no_groups
member_none g = rw (zero-div (2 ^ g.0))

-- a power of two has one bit
power_bit : (k n : ℕ) → eqb (2 ^ n / 2 ^ k % 2) 1 ≡ eqb k n
power_bit zero zero = refl
power_bit zero (suc n) = rw (pow-suc 2 n, div-one (2 ^ n * 2), mul-mod_left (2 ^ n) 2, eqb-zero-suc n)
power_bit (suc k) zero = rw (div-eq_of_lt (pow-lt (zero-lt-suc k)), eqb-suc-zero k)
power_bit (suc k) (suc n) = rw (pow-suc 2 n, pow-suc 2 k, mul-div-mul_right (2 ^ n) (2 ^ k) (zero-lt-suc 1), eqb-suc-suc k n) (power_bit k n)

-- the last bit of an or
or_bit : (a b : ℕ) → eqb (bit_or a b % 2) 1 ≡ (eqb (b % 2) 1 || eqb (a % 2) 1)
or_bit a b = case (eqb (b % 2) 1)
    (λ e. rw (e, eq-eqb (bit_or a b % 2) 1 (omega (arith, or_step a b, eqb-true (b % 2) 1 e))))
    (λ e. let z : bit_or a b % 2 ≡ a % 2 = omega (arith, or_step a b, eqb-false (b % 2) 1 e) in rw (e, z))

-- a set with one group more has that group and its own
pub member_with : (g h : Gid) (s : Groups) → member g (with_group h s) ≡ (same_gid g h || member g s)
unfolding member with_group same_gid
member_with g h s = rw (or_shr s.0 (2 ^ h.0) g.0, or_bit (s.0 / 2 ^ g.0) (2 ^ h.0 / 2 ^ g.0), power_bit g.0 h.0)

-- a set whose number is below the group's bit does not have the group
pub member_high : (g : Gid) (s : Groups) → s.0 < 2 ^ g.0 → member g s ≡ false
unfolding member
member_high g s h = rw (div-eq_of_lt {n = s.0} {m = 2 ^ g.0} h)

-- groups are the same by their numbers
pub same_gid_is : (g h : Gid) → same_gid g h ≡ eqb g.0 h.0
unfolding same_gid
same_gid_is g h = refl
