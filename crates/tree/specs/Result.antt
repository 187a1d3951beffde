-- A command's outcome: a refusal by its cause, or what the command gives. The first check that fails decides.
--
-- `Causes` gives each cause document 01's number.
use Rattle.std.proofs.Math.Option.{Option, none, some}
use Rattle.std.specs.Prelude.{Bool, true, false}
use Rattle.buffers.specs.Text.{Text}
use Rattle.std.specs.Prelude as code
use Rattle.std.specs.Prelude.{Ok, Err}
use Rattle.tree.specs.declared.Cause.{Cause}

pub data Result (A : Type 0) : Type 0 where
  refused : Cause → Result A
  done : A → Result A

infixl 10 ◌>>=◌
infixl 10 ◌>>◌
unfoldable pub ◌>>=◌ : {A B : Type 0} → Result A → (A → Result B) → Result B
◌>>=◌ (refused why) f = refused why
◌>>=◌ (done a) f = f a

unfoldable pub ◌>>◌ : {B : Type 0} → Result (Unit {0}) → Result B → Result B
◌>>◌ (refused why) r = refused why
◌>>◌ (done u) r = r

-- refused for the cause unless the test passes
unfoldable pub require : Bool → Cause → Result (Unit {0})
require true why = done tt
require false why = refused why

-- refused for the cause where there is nothing
unfoldable pub present : {A : Type 0} → Option A → Cause → Result A
present none why = refused why
present (some a) why = done a

-- refused for the cause where there is something
unfoldable pub absent : {A : Type 0} → Option A → Cause → Result (Unit {0})
absent none why = done tt
absent (some a) why = refused why

-- what an answer of the code means
unfoldable pub outcome : {A : Type 0} → code.Result A Cause → Result A
outcome (Ok a) = done a
outcome (Err why) = refused why

-- the text of a done command, and the state after it
pub record Outcome (S : Type 0) : Type 0 where
  pub text : Option Text
  pub state : S
