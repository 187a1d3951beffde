-- Forms: a word with a reader for each argument. A line of a listed form is found by its word and read by its readers.
--
-- Readers answer an `Option`: `none` where the text has no such form.
use Rattle.std.specs.Prelude.{List, [], ◌∷◌, Bool, true, false, cond}
use Rattle.std.proofs.Math.Option.{Option, none, some}
use Rattle.buffers.specs.Text.{Text, same_text}

infixl 10 ◌>>=◌
infixl 10 ◌>>◌
unfoldable pub ◌>>=◌ : {A B : Type 0} → Option A → (A → Option B) → Option B
◌>>=◌ none f = none
◌>>=◌ (some a) f = f a

unfoldable pub ◌>>◌ : {B : Type 0} → Option (Unit {0}) → Option B → Option B
◌>>◌ none r = none
◌>>◌ (some u) r = r

unfoldable pub check : Bool → Option (Unit {0})
check true = some tt
check false = none

unfoldable pub is_some : {A : Type 0} → Option A → Bool
is_some none = false
is_some (some a) = true

pub record Form (X : Type 0) : Type 0 where
  pub word : Text
  pub arguments : List Text → Option X

-- exactly the arguments of the form, each read by its reader
unfoldable pub none_of : {X : Type 0} → X → List Text → Option X
none_of x [] = some x
none_of x (s ∷ more) = none

unfoldable pub one_of : {A X : Type 0} → (Text → Option A) → (A → X) → List Text → Option X
one_of read x [] = none
one_of read x (s ∷ more) = do
  a ← read s
  none_of (x a) more

unfoldable pub two_of : {A B X : Type 0} → (Text → Option A) → (Text → Option B) → (A → B → X) → List Text → Option X
two_of read read' x [] = none
two_of read read' x (s ∷ more) = do
  a ← read s
  one_of read' (x a) more

unfoldable pub three_of : {A B C X : Type 0} → (Text → Option A) → (Text → Option B) → (Text → Option C) → (A → B → C → X) → List Text → Option X
three_of read read' read'' x [] = none
three_of read read' read'' x (s ∷ more) = do
  a ← read s
  two_of read' read'' (x a) more

-- the form with that word
unfoldable pub by_form : {X : Type 0} → List (Form X) → Text → List Text → Option X
by_form [] w arguments = none
by_form (f ∷ fs) w arguments =
    let this = f.arguments arguments in
    let others = by_form fs w arguments in
    cond (same_text w f.word) this others
