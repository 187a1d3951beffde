-- What outcomes give: a proof goes through a command's steps line by line and says of each refusal by what cause it comes.
use Rattle.std.specs.Prelude.{◌≡◌, Bool}
use Rattle.std.proofs.Math.Path.{refl}
use Rattle.std.proofs.Common.{sym}
use Rattle.std.proofs.Math.Option.{Option, none, some}
use Rattle.std.proofs.Math.Bool.{true, false}
use Rattle.tree.specs.declared.Cause.{Cause}
use Rattle.tree.specs.Result.{Result, refused, done, ◌>>=◌, ◌>>◌, require, present, absent}
use Rattle.tree.proofs.ResultLaws.{not_done}
use Rattle.tree.specs.Outcomes.{Refuses, Ensures, Gives, refuses, gives}

-- every outcome is one of the two
pub any_outcome : {X : Type 0} (a : Result X) → Refuses (λ _. Unit {0}) a
any_outcome (refused why) = refuses tt
any_outcome (done x) = gives refl

-- what ensures the impossible is refused
pub never_done : {X : Type 0} {a : Result X} → Ensures (λ _. ⊥) a → (why : Cause) × (a ≡ refused why)
never_done (refuses {why = why} r) = (why, refl)
never_done (gives h) = absurd h

module _ {R : Cause → Type 0} where
  -- of the cause of a refusal R holds
  pub refused_by : {X : Type 0} {P : X → Type 0} {a : Result X} → Gives R P a → {why : Cause} → a ≡ refused why → R why
  refused_by (refuses {why = v} r) {why} e = let q : why ≡ v = cc in rw q r
  refused_by (gives h) e = not_done (sym e)

  -- and P of what is done
  pub done_with : {X : Type 0} {P : X → Type 0} {a : Result X} → Gives R P a → {x : X} → a ≡ done x → P x
  done_with (refuses r) e = not_done e
  done_with (gives {x = y} h) {x} e = let q : x ≡ y = cc in rw q h

  -- whatever is known of what is done, it is done
  pub only_refuses : {X : Type 0} {P : X → Type 0} {a : Result X} → Gives R P a → Refuses R a
  only_refuses (refuses r) = refuses r
  only_refuses (gives h) = gives refl

  -- what is known may be said less exactly
  pub weaker : {X : Type 0} {P Q : X → Type 0} {a : Result X} → ((x : X) → P x → Q x) → Gives R P a → Gives R Q a
  weaker k (refuses r) = refuses r
  weaker k (gives {x = x} h) = gives (k x h)

  -- what is missing is refused by the cause
  pub present_refuses : {A : Type 0} (why : Cause) → R why → (o : Option A) → Refuses R (present o why)
  unfolding present
  present_refuses why r none = refuses r
  present_refuses why r (some a) = gives refl

  -- what is there is refused by the cause
  pub absent_refuses : {A : Type 0} (why : Cause) → R why → (o : Option A) → Refuses R (absent o why)
  unfolding absent
  absent_refuses why r none = gives refl
  absent_refuses why r (some a) = refuses r

  -- a test that fails is refused by the cause
  pub require_refuses : (why : Cause) → R why → (b : Bool) → Refuses R (require b why)
  unfolding require
  require_refuses why r true = gives refl
  require_refuses why r false = refuses r

  module _ {Y : Type 0} {P : Y → Type 0} where
    -- after a step of which something is known
    pub then_step : {X : Type 0} {Q : X → Type 0} {a : Result X} {f : X → Result Y} → Gives R Q a → ((x : X) → Q x → Gives R P (f x)) → Gives R P (a >>= f)
    unfolding ◌>>=◌
    then_step (refuses r) k = refuses r
    then_step (gives {x = x} h) k = k x h

    -- after a test that passes
    pub then_check : {rest : Result Y} (why : Cause) → R why → (b : Bool) → (b ≡ true → Gives R P rest) → Gives R P (require b why >> rest)
    unfolding ◌>>◌ require
    then_check why r true k = k refl
    then_check why r false k = refuses r

    -- after a check that is done
    pub then_guard : {rest : Result Y} {a : Result (Unit {0})} → Refuses R a → (a ≡ done tt → Gives R P rest) → Gives R P (a >> rest)
    unfolding ◌>>◌
    then_guard (refuses r) k = refuses r
    then_guard (gives e) k = k e

-- after a step of which nothing is known
pub then_do : {X Y : Type 0} {P : Y → Type 0} {f : X → Result Y} (a : Result X)
    → ((x : X) → a ≡ done x → Ensures P (f x)) → Ensures P (a >>= f)
then_do a k = then_step (any_outcome a) k
