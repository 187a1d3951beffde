-- `syntax::numerals::no_leading_zero` meets its contract: one lemma for each return.
use Prim.Native.Nat.{ℕ, ◌≤◌}
use native.Mathlib.Omega.{arith}
use mathlib.Core.Path.{◌≡◌, refl}
use mathlib.Core.Bool.{true, false, not}
use mathlib.Core.List.{List, [], ◌∷◌}
use lib.Dec.{eqb}
use lib.ListN.{length, get_or}
use Rattle.syntax.specs.Number.{no_leading_zero}
use Rattle.syntax.proofs.numerals.no_leading_zero.Goals as goal

-- no digit
empty : (s : List ℕ) → length s ≡ 0 → false ≡ no_leading_zero s
unfolding no_leading_zero
empty [] h = refl
empty (d ∷ s) h = let z : ⊥ = omega arith in absurd z

-- one digit
single : (s : List ℕ) → length s ≡ 1 → true ≡ no_leading_zero s
unfolding no_leading_zero
single [] h = let z : ⊥ = omega arith in absurd z
single (d ∷ []) h = refl
single (d ∷ (e ∷ s)) h = let z : ⊥ = omega arith in absurd z

-- more digits
several : (s : List ℕ) → 2 ≤ length s → not (eqb (get_or s 0 0) 48) ≡ no_leading_zero s
unfolding no_leading_zero
several [] h = let z : ⊥ = omega arith in absurd z
several (d ∷ []) h = let z : ⊥ = omega arith in absurd z
several (d ∷ (e ∷ s)) h = refl

pub returns-in-empty : goal.returns-in-empty
returns-in-empty c = empty c.args.s.now (omega (arith, c.in-empty.len_below))

pub returns-in-len1 : goal.returns-in-len1
returns-in-len1 c = single c.args.s.now (omega (arith, c.in-len1.len_at_least, c.in-len1.len_below))

pub returns-in-len1-up : goal.returns-in-len1-up
returns-in-len1-up c = several c.args.s.now c.in-len1-up.len_at_least
