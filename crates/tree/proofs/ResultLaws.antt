-- Laws of outcomes: what has been done where something is done, and how a refusal and what is done go on.
use Rattle.std.specs.Prelude.{◌≡◌, refl, Bool, true, false, ◌&&◌}
use Rattle.std.proofs.Common.{sym, ap}
use Rattle.std.proofs.Math.Option.{Option, none, some}
use Rattle.std.specs.Prelude as code
use Rattle.std.specs.Prelude.{Ok, Err, IsErrAnd}
use Rattle.std.proofs.lemmas.Result.{err_from_is_err_and}
use Rattle.buffers.specs.Cases.{contra}
use Rattle.tree.specs.declared.Cause.{Cause}
use Rattle.tree.specs.Result.{Result, refused, done, outcome, ◌>>=◌, ◌>>◌, require, present, absent}

-- a refusal is not done
pub not_done : {A P : Type 0} {why : Cause} {a : A} → refused why ≡ done a → P
not_done e = contra {b = true} refl (cc)

-- by what an outcome is
pub by_result : {A P : Type 0} (r : Result A) → ((k : Cause) → r ≡ refused k → P) → ((a : A) → r ≡ done a → P) → P
by_result (refused k) f g = f k refl
by_result (done a) f g = g a refl

-- ---- the code's answers

pub outcome_ok : {A : Type 0} (a : A) → outcome (Ok a) ≡ done a
unfolding outcome
outcome_ok a = refl

pub outcome_err : {A : Type 0} (why : Cause) → outcome {A = A} (Err why) ≡ refused why
unfolding outcome
outcome_err why = refl

-- a refusal that `?` passes on
pub outcome_passed : {A : Type 0} (r : code.Result A Cause) {why : Cause} → IsErrAnd r (λ k. k ≡ why) → outcome r ≡ refused why
outcome_passed r {why} p = let q = err_from_is_err_and r p in rw (q.1, q.2) (outcome_err why)

-- ---- what has been done

-- what is done as present is there
pub present_some : {A : Type 0} {a : A} (c : Option A) (why : Cause) → present c why ≡ done a → c ≡ some a
unfolding present
present_some none why e = not_done e
present_some (some b) why e = cc

-- where absence is done there is nothing
pub was_absent : {A : Type 0} (c : Option A) (why : Cause) → absent c why ≡ done tt → c ≡ none
unfolding absent
was_absent none why e = refl
was_absent (some a) why e = not_done e

-- a test that was required passed
pub required : (b : Bool) (why : Cause) → require b why ≡ done tt → b ≡ true
unfolding require
required true why e = refl
required false why e = not_done e

-- two steps that are done were both done
pub bind_done : {A B : Type 0} (a : Result A) (f : A → Result B) {y : B} → (a >>= f) ≡ done y → (x : A) × (a ≡ done x) × (f x ≡ done y)
unfolding ◌>>=◌
bind_done (refused why) f e = not_done e
bind_done (done x) f e = (x, refl, e)

-- a check and a step that are done were both done
pub then_done : {A : Type 0} (a : Result (Unit {0})) (r : Result A) {y : A} → (a >> r) ≡ done y → (a ≡ done tt) × (r ≡ done y)
unfolding ◌>>◌
then_done (refused why) r e = not_done e
then_done (done u) r e = (refl, e)

-- a step that is never refused is refused only before
pub refused_before : {A B : Type 0} (w : Result A) (f : A → B) {why : Cause} → (w >>= λ d. done (f d)) ≡ refused why → w ≡ refused why
unfolding ◌>>=◌
refused_before (refused c) f {why} e = let q : c ≡ why = cc in ap refused q
refused_before (done d) f e = not_done (sym e)

-- ---- how outcomes go on

-- what is there is done as present
pub present_of : {A : Type 0} (a : A) (why : Cause) → present (some a) why ≡ done a
unfolding present
present_of a why = refl

-- what is missing is refused as present
pub present_none : {A : Type 0} (why : Cause) → present {A = A} none why ≡ refused why
unfolding present
present_none why = refl

-- after a check that is done comes the step
pub done_then : {A : Type 0} (r : Result A) → (done tt >> r) ≡ r
unfolding ◌>>◌
done_then r = refl

-- after a refused check the refusal stays
pub refused_then : {A : Type 0} (why : Cause) (r : Result A) → (refused why >> r) ≡ refused why
unfolding ◌>>◌
refused_then why r = refl

-- what is done is handed on
pub done_bind : {A B : Type 0} (a : A) (f : A → Result B) → (done a >>= f) ≡ f a
unfolding ◌>>=◌
done_bind a f = refl

-- a refusal stays
pub refused_bind : {A B : Type 0} (why : Cause) (f : A → Result B) → (refused why >>= f) ≡ refused why
unfolding ◌>>=◌
refused_bind why f = refl

-- a test that passes is done
pub require_true : (why : Cause) → require true why ≡ done tt
unfolding require
require_true why = refl

-- a test that fails is refused
pub require_false : (why : Cause) → require false why ≡ refused why
unfolding require
require_false why = refl

-- two checks for one cause are one
pub both_checked : {A : Type 0} (x y : Bool) (why : Cause) (r : Result A) → (require x why >> (require y why >> r)) ≡ (require (x && y) why >> r)
unfolding ◌>>◌ require
both_checked true y why r = refl
both_checked false y why r = refl

-- checks one after another are grouped either way
pub then_then : {A : Type 0} (a b : Result (Unit {0})) (c : Result A) → ((a >> b) >> c) ≡ (a >> (b >> c))
unfolding ◌>>◌
then_then (refused why) b c = refl
then_then (done u) b c = refl

-- and so are a check and steps
pub then_bind : {A B : Type 0} (a : Result (Unit {0})) (c : Result A) (k : A → Result B) → ((a >> c) >>= k) ≡ (a >> (c >>= k))
unfolding ◌>>=◌ ◌>>◌
then_bind (refused why) c k = refl
then_bind (done u) c k = refl

-- and steps
pub bind_bind : {A B C : Type 0} (a : Result A) (f : A → Result B) (g : B → Result C) → ((a >>= f) >>= g) ≡ (a >>= λ d. f d >>= g)
unfolding ◌>>=◌
bind_bind (refused why) f g = refl
bind_bind (done d) f g = refl

-- what holds of every refusal and of all that follows a value holds of both together
pub holds_bind : {A B : Type 0} (P : Result B → Type 0) (m : Result A) (f : A → Result B) → ((why : Cause) → P (refused why)) → ((a : A) → P (f a)) → P (m >>= f)
unfolding ◌>>=◌
holds_bind P (refused why) f h k = h why
holds_bind P (done a) f h k = k a

-- and so after a check
pub holds_then : {B : Type 0} (P : Result B → Type 0) (m : Result (Unit {0})) (r : Result B) → ((why : Cause) → P (refused why)) → P r → P (m >> r)
unfolding ◌>>◌
holds_then P (refused why) r h k = h why
holds_then P (done u) r h k = k
