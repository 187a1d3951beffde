-- What is said of outcomes: of two that they agree, and of one what cause it is refused by and what it gives.
use Rattle.std.specs.Prelude.{◌≡◌}
use Rattle.tree.specs.declared.Cause.{Cause}
use Rattle.tree.specs.Result.{Result, refused, done}

-- the same refusal, or two things done that are related by R
pub data Agree {X Y : Type 0} (R : X → Y → Type 0) : Result X → Result Y → Type 0 where
  refusal : (why : Cause) → Agree R (refused why) (refused why)
  both : {x : X} {y : Y} → R x y → Agree R (done x) (done y)

-- refused by a cause of which R holds, or done with something of which P holds
pub data Gives {X : Type 0} (R : Cause → Type 0) (P : X → Type 0) : Result X → Type 0 where
  refuses : {why : Cause} → R why → Gives R P (refused why)
  gives : {x : X} → P x → Gives R P (done x)

-- refused for whatever cause, or done with something of which P holds
abbrev pub Ensures : {X : Type 0} → (X → Type 0) → Result X → Type 0
Ensures P a = Gives (λ _. Unit {0}) P a

-- refused by a cause of which R holds, or done
abbrev pub Refuses : {X : Type 0} → (Cause → Type 0) → Result X → Type 0
Refuses R a = Gives R (λ x. a ≡ done x) a
