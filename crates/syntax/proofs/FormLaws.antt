-- Laws of readers: what has been read where a reader, a check or a form answers something; that all that a form answers passes a
-- test where all that its readers answer does; and that a form refuses another number of arguments than its own.
use Rattle.std.specs.Prelude.{◌≡◌, refl, Bool, true, false, ◌&&◌, suc, length}
use Rattle.std.proofs.Common.{ap}
use mathlib.Core.List.{List, [], ◌∷◌}
use Rattle.std.proofs.Math.Option.{Option, none, some}
use Rattle.buffers.specs.Cases.{case, contra}
use Rattle.buffers.specs.Text.{Text, same_text}
use Rattle.syntax.specs.Form.{◌>>=◌, ◌>>◌, check, is_some, Form, none_of, one_of, two_of, three_of, by_form}

-- no answer is not an answer
pub no_answer : {A P : Type 0} {a : A} → none ≡ some a → P
no_answer e = contra {b = true} refl (cc)

-- what is no answer is none
pub is_none : {A : Type 0} (m : Option A) → is_some m ≡ false → m ≡ none
unfolding is_some
is_none none e = refl
is_none (some a) e = contra {b = true} refl e

-- two steps that answer have both answered
pub both_read : {A B : Type 0} (m : Option A) (f : A → Option B) (b : B) → (m >>= f) ≡ some b → (a : A) × (m ≡ some a) × (f a ≡ some b)
unfolding ◌>>=◌
both_read none f b e = no_answer e
both_read (some a) f b e = (a, refl, e)

-- a step after a check answers where the check passes
pub checked : {B : Type 0} (t : Bool) (r : Option B) (b : B) → (check t >> r) ≡ some b → (t ≡ true) × (r ≡ some b)
unfolding ◌>>◌ check
checked true r b e = (refl, e)
checked false r b e = no_answer e

-- one answer is one value
pub answered : {A : Type 0} {a b : A} → some a ≡ some b → b ≡ a
answered e = cc

-- an answer of which nothing comes
pub then_none : {A B : Type 0} (m : Option A) (f : A → Option B) → ((a : A) → f a ≡ none) → (m >>= f) ≡ none
unfolding ◌>>=◌
then_none none f h = refl
then_none (some a) f h = h a

-- two tests that pass pass together
pub both : {a b : Bool} → a ≡ true → b ≡ true → (a && b) ≡ true
both h k = rw (h, k)

-- all that a reader answers passes a test
abbrev pub AnswersPass : {S X : Type 0} → (S → Option X) → (X → Bool) → Type 0
AnswersPass {S = S} {X = X} read test = (s : S) (x : X) → read s ≡ some x → test x ≡ true

-- the test that nothing fails
pub any_gives : {S X : Type 0} (read : S → Option X) → AnswersPass read (λ x. true)
any_gives read s x e = refl

-- a reader that checks a text and answers it
pub checked_gives : {S : Type 0} (test : S → Bool) → AnswersPass (λ s. check (test s) >> some s) test
checked_gives test s x e = let i : _ = checked (test s) (some s) x e in rw (answered i.1) i.0

module _ {X : Type 0} (test : X → Bool) where
  -- a form without arguments
  none_gives : {x : X} → test x ≡ true → AnswersPass (none_of x) test
  unfolding none_of
  none_gives h [] y e = rw (answered e) h
  none_gives h (s ∷ more) y e = no_answer e

  -- a form of one argument
  one_gives : {A : Type 0} {read : Text → Option A} {of : A → Bool} {x : A → X} →
      AnswersPass read of → ((a : A) → of a ≡ true → test (x a) ≡ true) → AnswersPass (one_of read x) test
  unfolding one_of
  one_gives h k [] y e = no_answer e
  one_gives {read = read} {x = x} h k (s ∷ more) y e =
      let i : _ = both_read (read s) (λ a. none_of (x a) more) y e in
      none_gives (k i.0 (h s i.0 i.1)) more y i.2

  -- a form of two arguments
  pub two_gives : {A B : Type 0} {read : Text → Option A} {read' : Text → Option B} {of : A → Bool} {of' : B → Bool} {x : A → B → X} →
      AnswersPass read of → AnswersPass read' of' →
      ((a : A) (b : B) → of a ≡ true → of' b ≡ true → test (x a b) ≡ true) → AnswersPass (two_of read read' x) test
  unfolding two_of
  two_gives h h' k [] y e = no_answer e
  two_gives {read = read} {read' = read'} {x = x} h h' k (s ∷ more) y e =
      let i : _ = both_read (read s) (λ a. one_of read' (x a) more) y e in
      one_gives h' (λ b. k i.0 b (h s i.0 i.1)) more y i.2

  -- a form of three arguments
  pub three_gives : {A B C : Type 0} {read : Text → Option A} {read' : Text → Option B} {read'' : Text → Option C}
      {of : A → Bool} {of' : B → Bool} {of'' : C → Bool} {x : A → B → C → X} →
      AnswersPass read of → AnswersPass read' of' → AnswersPass read'' of'' →
      ((a : A) (b : B) (c : C) → of a ≡ true → of' b ≡ true → of'' c ≡ true → test (x a b c) ≡ true) →
      AnswersPass (three_of read read' read'' x) test
  unfolding three_of
  three_gives h h' h'' k [] y e = no_answer e
  three_gives {read = read} {read' = read'} {read'' = read''} {x = x} h h' h'' k (s ∷ more) y e =
      let i : _ = both_read (read s) (λ a. two_of read' read'' (x a) more) y e in
      two_gives h' h'' (λ b c. k i.0 b c (h s i.0 i.1)) more y i.2

  -- forms that each answer only what passes
  infixr 20 ◌also◌
  pub data FormsGive : List (Form X) → Type 0 where
    no_form : FormsGive []
    ◌also◌ : {f : Form X} {fs : List (Form X)} → AnswersPass f.arguments test → FormsGive fs → FormsGive (f ∷ fs)

  -- the form with a word
  pub by_form_gives : {fs : List (Form X)} → FormsGive fs → (w : Text) → AnswersPass (by_form fs w) test
  unfolding by_form
  by_form_gives no_form w s y e = no_answer e
  by_form_gives (◌also◌ {f = f} h hs) w s y e = case (same_text w f.word)
      (λ t. h s y (rw t at e))
      (λ t. by_form_gives hs w s y (rw t at e))

-- forms refuse another number of arguments
none_refuses : {X : Type 0} (x : X) (ts : List Text) → (length ts ≡ 0 → ⊥) → none_of x ts ≡ none
unfolding none_of
none_refuses x [] h = absurd (h refl)
none_refuses x (s ∷ ts) h = refl

one_refuses : {A X : Type 0} (r : Text → Option A) (x : A → X) (ts : List Text) → (length ts ≡ 1 → ⊥) → one_of r x ts ≡ none
unfolding one_of
one_refuses r x [] h = refl
one_refuses r x (s ∷ ts) h = then_none (r s) (λ a. none_of (x a) ts) (λ a. none_refuses (x a) ts (λ e. h (ap suc e)))

pub two_refuses : {A B X : Type 0} (r : Text → Option A) (r' : Text → Option B) (x : A → B → X) (ts : List Text) →
    (length ts ≡ 2 → ⊥) → two_of r r' x ts ≡ none
unfolding two_of
two_refuses r r' x [] h = refl
two_refuses r r' x (s ∷ ts) h = then_none (r s) (λ a. one_of r' (x a) ts) (λ a. one_refuses r' (x a) ts (λ e. h (ap suc e)))

pub three_refuses : {A B C X : Type 0} (r : Text → Option A) (r' : Text → Option B) (r'' : Text → Option C) (x : A → B → C → X) (ts : List Text) →
    (length ts ≡ 3 → ⊥) → three_of r r' r'' x ts ≡ none
unfolding three_of
three_refuses r r' r'' x [] h = refl
three_refuses r r' r'' x (s ∷ ts) h = then_none (r s) (λ a. two_of r' r'' (x a) ts) (λ a. two_refuses r' r'' (x a) ts (λ e. h (ap suc e)))

-- what is an answer is some value
pub the_some : {A : Type 0} (m : Option A) → is_some m ≡ true → (a : A) × (m ≡ some a)
unfolding is_some
the_some none e = contra {b = false} e refl
the_some (some a) e = (a, refl)
