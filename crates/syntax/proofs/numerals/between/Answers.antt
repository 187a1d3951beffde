-- `syntax::numerals::between` meets its contract: one lemma for each return. A number of more than four digits is above every bound.
use Prim.Native.Nat.{ℕ, ◌+◌, ◌-◌, ◌≤◌, ◌<◌, ◌*◌}
use native.Mathlib.Omega.{arith}
use mathlib.Core.Path.{◌≡◌, sym, ap, ◌∙◌}
use mathlib.Core.Bool.{true, false, ◌&&◌, not, and-false}
use mathlib.Core.List.{[], ◌∷◌}
use lib.Dec.{eqb, leb, ltb}
use lib.ListN.{length}
use borrow.Author.Tests.{le-leb, lt-leb, not-true, leb-true, eqb-false}
use mathlib.Core.Option.{none, some}
use Rattle.buffers.specs.Cases.{case, and_both}
use Rattle.buffers.specs.Text.{Text, every}
use Rattle.syntax.specs.Form.{◌>>=◌, ◌>>◌, check}
use Rattle.syntax.specs.Number.{digit, value_after, no_leading_zero, decimal, between}
use Rattle.syntax.proofs.numerals.between.Goals as goal
use Rattle.syntax.proofs.numerals.between.Goals.{then-s-gt4-via-then-s-gt4, then-s-gt4-via-else-s-gt4+then-not-are_digits, then-s-gt4-via-else-s-gt4+else-not-are_digits+then-not-no_leading_zero}
use Rattle.syntax.proofs.numerals.between.Goals.{else-low-n-via-then-low-n+else-n-high, else-low-n-via-else-low-n}

-- a text of the form of a decimal number
record Form (s : Text) : Type 0 where
  digits : every (digit 10) s ≡ true
  first : no_leading_zero s ≡ true

-- its value, where it is in range
of-form : (low high : ℕ) (s : Text) → Form s → between low high s ≡
    (check (leb low (value_after 10 0 s) && leb (value_after 10 0 s) high) >> some (value_after 10 0 s))
unfolding between decimal check ◌>>=◌ ◌>>◌
of-form low high s f = rw (f.digits, f.first)

-- no number is read where a byte is no digit
no-digits : (low high : ℕ) (s : Text) → every (digit 10) s ≡ false → none ≡ between low high s
unfolding between decimal check ◌>>=◌ ◌>>◌
no-digits low high s e = rw e

-- nor behind a leading zero
leading : (low high : ℕ) (s : Text) → no_leading_zero s ≡ false → none ≡ between low high s
unfolding between decimal check ◌>>=◌ ◌>>◌
leading low high s e = simp (e, and-false)

-- nor below the range
too_small : (low high : ℕ) (s : Text) → Form s → value_after 10 0 s < low → none ≡ between low high s
unfolding check ◌>>◌
too_small low high s f h = rw (of-form low high s f, lt-leb low (value_after 10 0 s) h)

-- nor above it
too-great : (low high : ℕ) (s : Text) → Form s → high < value_after 10 0 s → none ≡ between low high s
unfolding check ◌>>◌
too-great low high s f h = simp (of-form low high s f, lt-leb (value_after 10 0 s) high h, and-false)

-- in range the value is read
fits : (low high : ℕ) (s : Text) → Form s → low ≤ value_after 10 0 s → value_after 10 0 s ≤ high →
    some (value_after 10 0 s) ≡ between low high s
unfolding check ◌>>◌
fits low high s f h k = rw (of-form low high s f, le-leb low (value_after 10 0 s) h, le-leb (value_after 10 0 s) high k)

-- more digits make no number smaller
value-least : (n : ℕ) (ds : Text) → n ≤ value_after 10 n ds
unfolding value_after
value-least n [] = omega arith
value-least n (d ∷ ds) = omega (arith, value-least (n * 10 + (d - 48)) ds)

-- a first digit other than zero
from_one : (d : ℕ) (ds : Text) → every (digit 10) (d ∷ ds) ≡ true → not (eqb d 48) ≡ true → 49 ≤ d
unfolding every digit
from_one d ds h k =
    let i : _ = and_both (leb 48 d && ltb d 58) (every (digit 10) ds) h in
    let j : _ = and_both (leb 48 d) (ltb d 58) i.0 in
    let n : (d ≡ 48 → ⊥) = eqb-false d 48 (not-true (eqb d 48) k) in
    omega (arith, leb-true 48 d j.0, n)

-- five digits without a leading zero are from 10000 on
five-digits : (s : Text) → 4 < length s → Form s → 10000 ≤ value_after 10 0 s
unfolding value_after no_leading_zero
five-digits [] h f = let z : ⊥ = omega arith in absurd z
five-digits (a ∷ []) h f = let z : ⊥ = omega arith in absurd z
five-digits (a ∷ (b ∷ [])) h f = let z : ⊥ = omega arith in absurd z
five-digits (a ∷ (b ∷ (c ∷ []))) h f = let z : ⊥ = omega arith in absurd z
five-digits (a ∷ (b ∷ (c ∷ (d ∷ [])))) h f = let z : ⊥ = omega arith in absurd z
five-digits (a ∷ (b ∷ (c ∷ (d ∷ (e ∷ ds))))) h f =
    let n : ℕ = (((0 * 10 + (a - 48)) * 10 + (b - 48)) * 10 + (c - 48)) * 10 + (d - 48) in
    omega (arith, from_one a (b ∷ (c ∷ (d ∷ (e ∷ ds)))) f.digits f.first, value-least (n * 10 + (e - 48)) ds)

-- a text of five digits or more is no number in range
too_long : (low high : ℕ) (s : Text) → 4 < length s → high < 10000 → none ≡ between low high s
too_long low high s h l = case (every (digit 10) s)
    (λ d. case (no_leading_zero s)
    (λ z. let f : Form s = record { digits = d; first = z } in too-great low high s f (omega (arith, five-digits s h f)))
    (λ z. leading low high s z))
    (λ d. no-digits low high s d)

pub returns-then-s-gt4 : goal.returns-then-s-gt4
returns-then-s-gt4 c =
    let a = c.args in
    elim c.then-s-gt4.branch [
      | then-s-gt4-via-then-s-gt4 w ↦ too_long a.low a.high a.s.now w.if-s-gt4.true (omega arith)
      | then-s-gt4-via-else-s-gt4+then-not-are_digits w ↦ no-digits a.low a.high a.s.now (sym w.are_digits.ensures ∙ w.if-not-are_digits.true)
      | then-s-gt4-via-else-s-gt4+else-not-are_digits+then-not-no_leading_zero w ↦ leading a.low a.high a.s.now (sym w.no_leading_zero.ensures ∙ w.if-not-no_leading_zero.true)
    ]

pub value-n-requires : goal.value-n-requires
value-n-requires c = record {
  s_len_bound = omega arith;
  base_bound = omega arith;
  s_value = sym c.are_digits.ensures ∙ c.if-not-are_digits.false;
}

pub returns-then-n-high : goal.returns-then-n-high
returns-then-n-high c =
    let a = c.args in
    let f : Form a.s.now = record { digits = sym c.are_digits.ensures ∙ c.if-not-are_digits.false; first = sym c.no_leading_zero.ensures ∙ c.if-not-no_leading_zero.false } in
    let v = c.value-n.ensures.0 in
    ap some v ∙ fits a.low a.high a.s.now f (omega (arith, c.if-low-n.true, v)) (omega (arith, c.if-n-high.true, v))

pub returns-else-low-n : goal.returns-else-low-n
returns-else-low-n c =
    let a = c.args in
    let f : Form a.s.now = record { digits = sym c.are_digits.ensures ∙ c.if-not-are_digits.false; first = sym c.no_leading_zero.ensures ∙ c.if-not-no_leading_zero.false } in
    let v = c.value-n.ensures.0 in
    elim c.else-low-n.branch [
      | else-low-n-via-then-low-n+else-n-high w ↦ too-great a.low a.high a.s.now f (omega (arith, w.if-n-high.false, v))
      | else-low-n-via-else-low-n w ↦ too_small a.low a.high a.s.now f (omega (arith, w.if-low-n.false, v))
    ]
