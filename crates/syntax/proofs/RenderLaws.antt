-- Numbers written as texts over a buffer: a decimal by its last digit, a mode by its four.
use Rattle.std.specs.Prelude.{◌≡◌, refl, List, [], ◌∷◌, ℕ, ◌+◌, ◌/◌, ◌%◌, ◌≤◌, ◌<◌, length, set}
use Rattle.std.proofs.Common.{◌∙◌, arith}
use Rattle.std.proofs.Math.Seq.{paste}
use Rattle.buffers.specs.Over.{Wrote}
use Rattle.buffers.specs.OverLaws.{over_paste, wrote_byte, wrote_both}
use Rattle.syntax.specs.Number.{decimal_text, mode_text}
use Rattle.syntax.proofs.NumberLaws.{decimal_digit, decimal_last, decimal_longer, decimal_length}

module _ (n : ℕ) (b : List ℕ) (at : ℕ) where
  -- one digit
  pub wrote_digit : n < 10 → at < length b → Wrote (decimal_text n) b at (set b at (48 + n)) (at + 1)
  wrote_digit h l = rw (decimal_digit n h) (wrote_byte (48 + n) b at l)

  -- the last digit behind the others
  pub wrote_last : (c : List ℕ) (m : ℕ) → 10 ≤ n → Wrote (decimal_text (n / 10)) b at c m → length c ≡ length b → m < length b
      → Wrote (decimal_text n) b at (set c m (48 + n % 10)) (m + 1)
  wrote_last c m h v e l = rw (decimal_last n h) (wrote_both v (wrote_byte (48 + n % 10) c m (omega arith)) (omega arith))

  -- a number of two bytes has at most five digits
  pub wrote_decimal_ends : (c : List ℕ) (r : ℕ) → n < 65536 → Wrote (decimal_text n) b at c r → r ≤ at + 5
  wrote_decimal_ends c r h v = omega (arith, v.ends, decimal_length 4 n (omega arith))

  -- where there is room for all digits, the last has a place behind the others
  pub before_last_ends : (c : List ℕ) (r : ℕ) → 10 ≤ n → at + length (decimal_text n) ≤ length b → Wrote (decimal_text (n / 10)) b at c r → r < length b
  before_last_ends c r h l v = omega (arith, v.ends, decimal_longer n h)

  -- four octal digits
  pub wrote_mode : (c : List ℕ) → c ≡ paste b at ((48 + n / 512) ∷ (48 + n / 64 % 8) ∷ (48 + n / 8 % 8) ∷ (48 + n % 8) ∷ []) 4
      → Wrote (mode_text n) b at c (at + 4)
  unfolding mode_text
  wrote_mode c e = record { ends = refl; holds = e ∙ over_paste b (mode_text n) at }
