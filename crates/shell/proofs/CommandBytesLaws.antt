-- When what was answered and left follows the steps: at a refusal, and where they are done without a text or with one.
use Rattle.std.specs.Prelude.{◌≡◌, List, ◌++◌, ℕ, length, drop, Ok, Err, Some, None, IsErrAnd}
use Rattle.std.proofs.lemmas.Result.{err_from_is_err_and}
use Rattle.std.proofs.Math.Path.{refl, ap}
use Rattle.std.proofs.Math.Option.{none, some}
use Rattle.buffers.specs.Text.{Text}
use Rattle.tree.specs.declared.Cause.{Cause}
use Rattle.tree.specs.Result.{Result, refused, done, Outcome}
use Rattle.tree.specs.declared.Refusal.TheVariants.{For}
use Rattle.shell.specs.Replies.{Answer, reply, answer_of, written}
use Rattle.shell.specs.CommandBytes.{bytes_after, Carries, CarriesSilently}

module _ {S : Type 0} {bytes_of : S → List ℕ} {steps : Result (Outcome S)} where
  -- a refusal leaves both buffers
  pub refusal_follows : {k : Cause} (b : List ℕ) → steps ≡ refused k → CarriesSilently bytes_of steps b (Err (For k)) b
  unfolding reply answer_of written bytes_after
  refusal_follows b e a = rw e (record { tells = refl; bytes = refl; text = refl })

  -- and so does one that `?` passes on
  pub passed_follows : {k : Cause} {r : Answer} (b : List ℕ) → IsErrAnd r (λ e. e ≡ For k) → steps ≡ refused k → CarriesSilently bytes_of steps b r b
  passed_follows {r = r} b p e a = let q = err_from_is_err_and r p in rw (q.1, q.2) (refusal_follows b e a)

  -- the bytes of the state after a command without a text
  pub silence_follows : {s : S} (b b' : List ℕ) → steps ≡ done (record { text = none; state = s }) → b' ≡ bytes_of s → CarriesSilently bytes_of steps b (Ok None) b'
  unfolding reply answer_of written bytes_after
  silence_follows b b' e q a = rw e (record { tells = refl; bytes = q; text = refl })

  -- a text in front of the answer buffer, over a state that stays
  pub text_follows : {s : S} (b a a' : List ℕ) (x : Text) (n : ℕ) → steps ≡ done (record { text = some x; state = s }) → b ≡ bytes_of s
      → n ≡ length x → a' ≡ x ++ drop (length x) a → Carries bytes_of steps b a (Ok (Some n)) b a'
  unfolding reply answer_of written bytes_after
  text_follows b a a' x n e q l h = rw e (record { tells = ap (λ (m : ℕ). Ok (Some m)) l; bytes = q; text = h })
