-- `syntax::numerals::value` meets its contract: what is left, after the value so far, gives the value of the whole; i digits give
-- less than 10 to the i.
use Prim.Native.Nat.{ℕ, suc, ◌+◌, ◌-◌, ◌*◌, ◌^◌, ◌≤◌, ◌<◌}
use native.Mathlib.Omega.{arith}
use native.Mathlib.Numerals.{add-one}
use native.Mathlib.Nat.{pow-suc, pow-le-pow_right, mul-le-mul_left}
use mathlib.Core.Path.{◌≡◌, refl, sym, ap, ◌∙◌}
use mathlib.Core.List.{List}
use lib.Dec.{leb, ltb}
use lib.ListN.{length, drop, get_or, drop_of_length-le}
use lib.Seq.{drop-cons}
use borrow.Author.Tests.{ltb-true, leb-true}
use Rattle.buffers.specs.Cases.{and_both}
use Rattle.buffers.specs.Text.{every}
use Rattle.buffers.specs.TextLaws.{every_from}
use Rattle.syntax.specs.Number.{digit, value_after}
use Rattle.syntax.proofs.numerals.value.Invariants.{Going}
use Rattle.syntax.proofs.numerals.value.Goals as goal

-- what is known of a digit and of the value before it
record Digit (base n d : ℕ) : Type 0 where
  from : 48 ≤ d
  below : d < 48 + base
  times : n * base ≤ n * 10
  small : n < 1000

below_power : (n i k : ℕ) → n < 10 ^ i → i ≤ k → n < 10 ^ k
below_power n i k h l = omega (arith, pow-le-pow_right {n = 10} (omega arith) l)

digit-here : (s : List ℕ) (base n i : ℕ) → Going s base n i → i < length s → length s ≤ 4 → base ≤ 10 → Digit base n (get_or s i 0)
unfolding digit
digit-here s base n i g h l b =
    let e : _ = and_both (digit base (get_or s i 0)) (every (digit base) (drop (suc i) s)) (sym (every_from (digit base) s i h) ∙ g.digits) in
    let d : _ = and_both (leb 48 (get_or s i 0)) (ltb (get_or s i 0) (48 + base)) e.0 in
    record {
      from = leb-true 48 (get_or s i 0) d.0;
      below = ltb-true (get_or s i 0) (48 + base) d.1;
      times = mul-le-mul_left n b;
      small = below_power n i 3 g.small (omega arith);
    }

-- one digit more
turn : (s : List ℕ) (base n i : ℕ) → Going s base n i → i < length s → length s ≤ 4 → base ≤ 10 →
    Going s base (n * base + (get_or s i 0 - 48)) (i + 1)
unfolding value_after
turn s base n i g h l b =
    let d : _ = digit-here s base n i g h l b in
    let e : _ = and_both (digit base (get_or s i 0)) (every (digit base) (drop (suc i) s)) (sym (every_from (digit base) s i h) ∙ g.digits) in
    record {
      small = rw (add-one, pow-suc 10 i) (omega (arith, d.from, d.below, d.times, g.small));
      digits = rw add-one e.1;
      goes = rw add-one (ap (value_after base n) (sym (drop-cons s i 0 h)) ∙ g.goes);
    }

-- no digit more
none_left : (s : List ℕ) (base n i : ℕ) → Going s base n i → length s ≤ i → n ≡ value_after base 0 s
unfolding value_after
none_left s base n i g h = ap (value_after base n) (sym (drop_of_length-le s h)) ∙ g.goes

pub loop-b-init : goal.loop-b-init
loop-b-init c = record { small = omega arith; digits = c.requires.s_value; goes = refl }

pub overflow_sub-b : goal.overflow_sub-b
overflow_sub-b c =
    let l = c.loop-b in
    let a = c.args in
    (digit-here a.s.now a.base l.n l.b-index l.invariant (omega arith) (omega arith) (omega arith)).from

pub overflow_mul-n : goal.overflow_mul-n
overflow_mul-n c =
    let l = c.loop-b in
    let a = c.args in
    let d : _ = digit-here a.s.now a.base l.n l.b-index l.invariant (omega arith) (omega arith) (omega arith) in
    omega arith

pub overflow_add-n : goal.overflow_add-n
overflow_add-n c =
    let l = c.loop-b in
    let a = c.args in
    let d : _ = digit-here a.s.now a.base l.n l.b-index l.invariant (omega arith) (omega arith) (omega arith) in
    omega (arith, c.from.ensures)

pub loop-b-preserved : goal.loop-b-preserved
loop-b-preserved c =
    let l = c.loop-b in
    let a = c.args in
    rw c.from.ensures (turn a.s.now a.base l.n l.b-index l.invariant (omega arith) (omega arith) (omega arith))

pub returns : goal.returns
returns c =
    let l = c.loop-b in
    let a = c.args in
    (none_left a.s.now a.base l.n l.b-index l.invariant (omega arith), below_power l.n l.b-index 4 l.invariant.small (omega arith))
