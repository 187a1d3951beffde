-- `buffers::fields::is_zero` meets its contract: the bytes seen so far are all 0 just if all their bits together are.
use Prim.Native.Nat.{ℕ, suc, ◌≤◌, ◌<◌, ◌-◌, ◌+◌}
use native.Mathlib.Omega.{arith}
use mathlib.Core.Path.{◌≡◌, refl, sym, ◌∙◌, ap}
use mathlib.Core.List.{List}
use mathlib.Core.Bool.{Bool, true, ◌&&◌, and-true, and_assoc}
use native.Mathlib.Numerals.{add-one}
use lib.Dec.{eqb}
use lib.Bits.{bit_or, or_zero_l, or_add_and, and_le_r}
use lib.Seq.{drop-cons}
use borrow.Author.Tests.{eqb-true, eqb-false, ne_eqb}
use lib.ListN.{length, get_or}
use Rattle.buffers.specs.Cases.{case}
use Rattle.buffers.specs.Text.{every}
use Rattle.buffers.specs.Fields.{all_zero, zeros_at}
use Rattle.buffers.proofs.fields.is_zero.Invariants.{Going}
use Rattle.buffers.proofs.fields.is_zero.Goals as goal

-- bits together are none if each are
or-none : (a b : ℕ) → eqb (bit_or a b) 0 ≡ (eqb a 0 && eqb b 0)
or-none a b = case (eqb a 0)
    (λ t. let e = eqb-true a 0 t in rw (t, e, or_zero_l b))
    (λ t.
    let e = eqb-false a 0 t in
    let n : bit_or a b ≡ 0 → ⊥ = λ z. e (omega (arith, or_add_and a b, and_le_r a b)) in
    rw (t, ne_eqb (bit_or a b) 0 n))

zeros-go : (s : List ℕ) (i n : ℕ) → i < length s → zeros_at i (suc n) s ≡ (eqb (get_or s i 0) 0 && zeros_at (suc i) n s)
unfolding zeros_at all_zero every
zeros-go s i n h = rw (drop-cons s i 0 h)

zeros-none : (s : List ℕ) (i : ℕ) → zeros_at i 0 s ≡ true
unfolding zeros_at all_zero every
zeros-none s i = refl

module _ (s : List ℕ) (from to : ℕ) where
  begins : from ≤ to → Going s from to 0 from
  begins h = record { le = h; from_le = omega arith; goes = refl }

  one_more : {all i : ℕ} → Going s from to all i → i < to → to ≤ length s → Going s from to (bit_or all (get_or s i 0)) (i + 1)
  one_more {all} {i} g h l =
      let q : to - i ≡ suc (to - (i + 1)) = omega arith in
      let p : zeros_at i (to - i) s ≡ (eqb (get_or s i 0) 0 && zeros_at (i + 1) (to - (i + 1)) s) =
      rw (q, add-one) (zeros-go s i (to - suc i) (omega arith)) in
      record {
        le = omega arith;
        from_le = omega (arith, g.from_le);
        goes = rw (or-none all (get_or s i 0), and_assoc (eqb all 0) (eqb (get_or s i 0) 0) (zeros_at (i + 1) (to - (i + 1)) s), ← p) g.goes;
      }

  ends : {all i : ℕ} → Going s from to all i → to ≤ i → eqb all 0 ≡ zeros_at from (to - from) s
  ends {all} {i} g h = let q : to - i ≡ 0 = omega arith in sym (and-true (eqb all 0)) ∙ ap (λ (b : Bool). eqb all 0 && b) (sym (ap (λ (n : ℕ). zeros_at i n s) q ∙ zeros-none s i)) ∙ g.goes

pub loop-i-init : goal.loop-i-init
loop-i-init c = let a = c.args in begins a.s.now a.from a.to (omega arith)

pub loop-i-preserved : goal.loop-i-preserved
loop-i-preserved c =
    let a = c.args in
    one_more a.s.now a.from a.to c.loop-i.invariant (omega arith) (omega arith)

pub returns : goal.returns
returns c =
    let a = c.args in
    ends a.s.now a.from a.to c.loop-i.invariant (omega arith)
