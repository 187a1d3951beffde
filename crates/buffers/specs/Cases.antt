-- Case analysis on a test, keeping what it came to, and what a call answered by the test of its answer.
use Rattle.std.specs.Prelude.{◌≡◌, refl, Bool, true, false, ◌&&◌, ◌||◌, not, ℕ, eqb}
use Rattle.std.proofs.Common.{sym, ◌∙◌, true≢false, eqb-true, eq-eqb, ne_eqb}
use Rattle.std.proofs.lemmas.Bool.{not-true, not-false, eqb-false}

-- by a test, with what it came to
pub case : {P : Type 0} (b : Bool) → (b ≡ true → P) → (b ≡ false → P) → P
case true f g = f refl
case false f g = g refl

-- both parts of a conjunction that passes pass
pub and_both : (a b : Bool) → (a && b) ≡ true → (a ≡ true) × (b ≡ true)
and_both true b e = (refl, e)
and_both false b e = (cc, cc)

-- no test comes to both
pub contra : {P : Type 0} {b : Bool} → b ≡ true → b ≡ false → P
contra e q = absurd (true≢false (sym e ∙ q))

-- neither part of a disjunction that fails passes
pub neither : (a b : Bool) → not (a || b) ≡ true → (a ≡ false) × (b ≡ false)
neither true b e = contra refl (sym e)
neither false true e = contra refl (sym e)
neither false false e = (refl, refl)

-- numbers are equal either way round
pub eqb_flip : (a b : ℕ) → eqb a b ≡ eqb b a
eqb_flip a b = case (eqb b a)
    (λ t. eq-eqb a b (sym (eqb-true b a t)) ∙ sym t)
    (λ t. ne_eqb a b (λ e. eqb-false b a t (sym e)) ∙ sym t)

-- what a call answered, from a test of its answer turned round
pub answers_false : {r t : Bool} → r ≡ t → not r ≡ true → t ≡ false
answers_false {r} e h = sym e ∙ not-true r h

pub answers_true : {r t : Bool} → r ≡ t → not r ≡ false → t ≡ true
answers_true {r} e h = sym e ∙ not-false r h
