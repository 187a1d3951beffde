-- Numbers as texts: decimal without leading zeros, and the four octal digits of a mode.
use Rattle.std.specs.Prelude.{[], ◌∷◌, Bool, true, false, ◌&&◌, ◌||◌, not, cond, ℕ, zero, suc, ◌+◌, ◌-◌, ◌*◌, ◌/◌, ◌%◌, eqb, leb, ltb, length}
use Rattle.std.proofs.Math.Option.{Option, some}
use Rattle.buffers.specs.Text.{Text, every}
use Rattle.syntax.specs.Form.{◌>>=◌, ◌>>◌, check}

-- whether a byte is a digit below the base
unfoldable pub digit : ℕ → ℕ → Bool
digit base b = leb 48 b && ltb b (48 + base)

-- the value of digits after a number already read
unfoldable pub value_after : ℕ → ℕ → Text → ℕ
value_after base n [] = n
value_after base n (d ∷ ds) = value_after base (n * base + (d - 48)) ds

-- `0`, or a digit from 1 with any digits after it
unfoldable pub no_leading_zero : Text → Bool
no_leading_zero [] = false
no_leading_zero (d ∷ []) = true
no_leading_zero (d ∷ (e ∷ ds)) = not (eqb d 48)

unfoldable pub decimal : Text → Option ℕ
decimal t = do
  check (every (digit 10) t && no_leading_zero t)
  some (value_after 10 0 t)

-- a decimal number from low to high
unfoldable pub between : ℕ → ℕ → Text → Option ℕ
between low high t = do
  n ← decimal t
  check (leb low n && leb n high)
  some n

-- a mode is four octal digits, the first 0 or 2
unfoldable pub mode_digits : Text → Bool
mode_digits [] = false
mode_digits (d ∷ ds) = (eqb d 48 || eqb d 50) && (every (digit 8) ds && eqb (length ds) 3)

unfoldable pub mode : Text → Option ℕ
mode t = do
  check (mode_digits t)
  some (value_after 8 0 t)

-- the first octal digit is 2
unfoldable pub set_gid : ℕ → Bool
set_gid m = eqb (m / 512) 2

unfoldable pub is_mode : ℕ → Bool
is_mode m = ltb m 512 || set_gid m

-- the mode of four octal digits
abbrev pub octal : ℕ → ℕ → ℕ → ℕ → ℕ
octal a b c d = ((a * 8 + b) * 8 + c) * 8 + d

-- digits in front of a text, least significant first; at most `fuel` of them
unfoldable pub digits_before : ℕ → ℕ → Text → Text
digits_before zero n t = t
digits_before (suc fuel) n t =
    let last = (48 + n % 10) ∷ t in
    let more = digits_before fuel (n / 10) last in
    cond (ltb n 10) last more

-- a number has fewer digits than its value and one
unfoldable pub decimal_text : ℕ → Text
decimal_text n = digits_before (suc n) n []

unfoldable pub mode_text : ℕ → Text
mode_text m = (48 + m / 512) ∷ (48 + m / 64 % 8) ∷ (48 + m / 8 % 8) ∷ (48 + m % 8) ∷ []
