-- How two outcomes agree. A proof about a command goes through its steps line by line.
use Rattle.std.specs.Prelude.{◌≡◌, Bool}
use Rattle.std.proofs.Math.Path.{refl}
use Rattle.std.proofs.Math.Bool.{true, false}
use Rattle.tree.specs.declared.Cause.{Cause}
use Rattle.tree.specs.Result.{Result, refused, done, ◌>>=◌, ◌>>◌, require}
use Rattle.tree.proofs.ResultLaws.{not_done}
use Rattle.tree.specs.Outcomes.{Agree, refusal, both}

-- one outcome on both sides
pub itself : {X : Type 0} {R : X → X → Type 0} (a : Result X) → ((x : X) → a ≡ done x → R x x) → Agree R a a
itself (refused why) k = refusal why
itself (done x) k = both (k x refl)

-- where the first is done, so is the other, with something related
pub done_first : {X Y : Type 0} {R : X → Y → Type 0} {a : Result X} {b : Result Y} → Agree R a b → {x : X} → a ≡ done x → (y : Y) × (b ≡ done y) × R x y
done_first (refusal why) e = not_done e
done_first (both {x = x} {y = y} r) {x = v} e = let q : v ≡ x = cc in (y, refl, rw q r)

-- and the other way round
pub done_second : {X Y : Type 0} {R : X → Y → Type 0} {a : Result X} {b : Result Y} → Agree R a b → {y : Y} → b ≡ done y → (x : X) × (a ≡ done x) × R x y
done_second (refusal why) e = not_done e
done_second (both {x = x} {y = y} r) {y = v} e = let q : v ≡ y = cc in (x, refl, rw q r)

-- steps that agree, each followed by steps that agree on what is related
pub bind : {X Y C D : Type 0} {R : X → Y → Type 0} {Q : C → D → Type 0} {a : Result X} {b : Result Y} {f : X → Result C} {g : Y → Result D}
    → Agree R a b → ((x : X) (y : Y) → R x y → Agree Q (f x) (g y)) → Agree Q (a >>= f) (b >>= g)
unfolding ◌>>=◌
bind (refusal why) k = refusal why
bind (both {x = x} {y = y} r) k = k x y r

module _ {C D : Type 0} {Q : C → D → Type 0} where
  -- one step on both sides, followed by steps that agree
  pub each : {X : Type 0} {f : X → Result C} {g : X → Result D} (a : Result X)
      → ((x : X) → a ≡ done x → Agree Q (f x) (g x)) → Agree Q (a >>= f) (a >>= g)
  unfolding ◌>>=◌
  each (refused why) k = refusal why
  each (done x) k = k x refl

  check_one : {v : Result C} {w : Result D} (why : Cause) (a : Bool) → (a ≡ true → Agree Q v w) → Agree Q (require a why >> v) (require a why >> w)
  unfolding ◌>>◌ require
  check_one why true k = k refl
  check_one why false k = refusal why

  -- a test that comes to the same on both sides
  pub check : {v : Result C} {w : Result D} {a b : Bool} (why : Cause) → a ≡ b → (a ≡ true → Agree Q v w) → Agree Q (require a why >> v) (require b why >> w)
  check {a} why e k = rw (← e) (check_one why a k)

  guard_one : {v : Result C} {w : Result D} (a : Result (Unit {0})) → (a ≡ done tt → Agree Q v w) → Agree Q (a >> v) (a >> w)
  unfolding ◌>>◌
  guard_one (refused why) k = refusal why
  guard_one (done u) k = k refl

  -- a check that comes to the same on both sides
  pub guard : {v : Result C} {w : Result D} {a b : Result (Unit {0})} → a ≡ b → (a ≡ done tt → Agree Q v w) → Agree Q (a >> v) (b >> w)
  guard {a} e k = rw (← e) (guard_one a k)
