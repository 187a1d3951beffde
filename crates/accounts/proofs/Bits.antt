-- Bits of a number: the one that a shift sets, and that none stands above a number's width.
-- Assumes nothing.
use Rattle.std.proofs.Common.{◌≡◌, ℕ, ◌*◌, ◌/◌, ◌%◌, ◌^◌, ◌≤◌, ◌<◌, false, eqb, one-mul, pow_mono, lt_of_lt_of_le}
use Rattle.std.proofs.Math.Nat.{div-eq_of_lt, mod-eq_of_lt}
use Rattle.std.proofs.Math.Pow.{pow-lt}

-- 1 shifted within 32 bits
pub one_shifted : (k : ℕ) → k < 32 → 1 * 2 ^ k % 2 ^ 32 ≡ 2 ^ k
one_shifted k h = rw (one-mul (2 ^ k)) (mod-eq_of_lt (pow-lt h))

-- a number of w bits has none from w on
pub no_bit : (w k x : ℕ) → x < 2 ^ w → w ≤ k → eqb (x / 2 ^ k % 2) 1 ≡ false
no_bit w k x l h = rw (div-eq_of_lt (lt_of_lt_of_le l (pow_mono h)))
