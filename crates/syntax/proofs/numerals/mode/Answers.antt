-- `syntax::numerals::mode` meets its contract: one lemma for each return.
use Prim.Native.Nat.{ℕ, suc}
use native.Mathlib.Omega.{arith}
use mathlib.Core.Path.{◌≡◌, refl, sym, ap, ◌∙◌}
use mathlib.Core.Bool.{true, false, ◌||◌, and-false, or-true}
use mathlib.Core.List.{[], ◌∷◌}
use lib.Dec.{eqb}
use lib.ListN.{length, get_or}
use borrow.Author.Tests.{eq-eqb, ne_eqb, eqb-true, eqb-false}
use mathlib.Core.Option.{none, some}
use Rattle.buffers.specs.Cases.{case, and_both}
use Rattle.buffers.specs.Text.{Text, every}
use Rattle.syntax.specs.Form.{◌>>◌, check}
use Rattle.syntax.specs.Number.{digit, value_after, mode_digits, mode}
use Rattle.syntax.proofs.numerals.mode.Goals as goal

-- the first digit of a mode
abbrev First : Text → Type 0
First s = (eqb (get_or s 0 0) 48 || eqb (get_or s 0 0) 50) ≡ true

is-first : (s : Text) → ((get_or s 0 0 ≡ 48 → ⊥) → (get_or s 0 0 ≡ 50 → ⊥) → ⊥) → First s
is-first s h = case (eqb (get_or s 0 0) 48)
    (λ e. rw e)
    (λ e. case (eqb (get_or s 0 0) 50) (λ f. simp (f, or-true)) (λ f. absurd (h (eqb-false (get_or s 0 0) 48 e) (eqb-false (get_or s 0 0) 50 f))))

-- no mode is read of other than four bytes
other_length : (s : Text) → (length s ≡ 4 → ⊥) → none ≡ mode s
unfolding mode mode_digits check ◌>>◌
other_length [] h = refl
other_length (d ∷ ds) h = simp (ne_eqb (length ds) 3 (λ e. h (ap suc e)), and-false)

-- nor where the first is neither 0 nor 2
other-first : (s : Text) → (get_or s 0 0 ≡ 48 → ⊥) → (get_or s 0 0 ≡ 50 → ⊥) → none ≡ mode s
unfolding mode mode_digits check ◌>>◌
other-first [] h k = refl
other-first (d ∷ ds) h k = rw (ne_eqb d 48 h, ne_eqb d 50 k)

-- the first digit is octal
octal-first : (d : ℕ) → (eqb d 48 || eqb d 50) ≡ true → digit 8 d ≡ true
unfolding digit
octal-first d h = case (eqb d 48)
    (λ e. rw (eqb-true d 48 e))
    (λ e. let f : eqb d 50 ≡ true = rw e at h in rw (eqb-true d 50 f))

-- nor where one is no octal digit
not-octal : (s : Text) → First s → every (digit 8) s ≡ false → none ≡ mode s
unfolding mode mode_digits check ◌>>◌ every
not-octal [] f e = refl
not-octal (d ∷ ds) f e = rw (f, rw (octal-first d f) at e)

-- otherwise its value is read
octal : (s : Text) → First s → every (digit 8) s ≡ true → length s ≡ 4 → some (value_after 8 0 s) ≡ mode s
unfolding mode mode_digits check ◌>>◌ every
octal [] f e l = let z : ⊥ = omega arith in absurd z
octal (d ∷ ds) f e l =
    let i : _ = and_both (digit 8 d) (every (digit 8) ds) e in
    rw (f, i.1, eq-eqb (length ds) 3 (omega arith))

pub returns-in-48 : goal.returns-in-48
returns-in-48 c =
    let s = c.args.s.now in
    ap some c.value.ensures.0 ∙ octal s (is-first s (λ h k. omega arith)) (sym c.are_digits.ensures ∙ c.if-are_digits.true) (omega arith)

pub returns-in_default : goal.returns-in_default
returns-in_default c = other_length c.args.s.now (λ e. omega arith)

pub returns-in_default-2 : goal.returns-in_default-2
returns-in_default-2 c =
    let s = c.args.s.now in
    not-octal s (is-first s (λ h k. omega arith)) (sym c.are_digits.ensures ∙ c.if-are_digits.false)

pub returns-in_default-3 : goal.returns-in_default-3
returns-in_default-3 c = other-first c.args.s.now (λ e. grind arith) (λ e. grind arith)

pub returns-in_default-4 : goal.returns-in_default-4
returns-in_default-4 c = other_length c.args.s.now (λ e. omega arith)
