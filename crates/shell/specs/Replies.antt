-- What a call replies, what it leaves, and what its answer tells.
use Rattle.std.specs.Prelude.{List, [], ◌∷◌, ◌++◌, ℕ, length, drop, Ok, Err, Some, None}
use Rattle.std.specs.Prelude as code
use Rattle.std.proofs.Math.Option.{Option, none, some}
use Rattle.buffers.specs.Text.{Text}
use Rattle.tree.specs.declared.Cause.{Cause}
use Rattle.tree.specs.Causes.{number, wrong_setup}
use Rattle.tree.specs.Result.{Result, refused, done, Outcome}
use Rattle.tree.specs.declared.Refusal.{Refusal}
use Rattle.tree.specs.declared.Refusal.TheVariants.{For, WrongLine}

-- what a call replies: done, with the text if the command gives one, or refused for a cause
pub data Reply : Type 0 where
  ok : Option Text → Reply
  refusal : Cause → Reply

unfoldable pub reply : {S : Type 0} → Result (Outcome S) → Reply
reply (refused why) = refusal why
reply (done o) = ok o.text

-- a refused line changes nothing
unfoldable pub after : {S : Type 0} → S → Result (Outcome S) → S
after s (refused why) = s
after s (done o) = o.state

-- what the code of a call answers: the length of a text, if there is one, or why it is refused
abbrev pub Answer : Type 0
Answer = code.Result (code.Option ℕ) Refusal

-- what an answer tells: document 01's number, 0 where the call is done, and the values beside it
pub record Told : Type 0 where
  pub number : ℕ
  pub values : List ℕ

-- beside 0 a text's length, beside 17 the wrong line's number
unfoldable pub told : Answer → Told
told (Ok None) = record { number = 0; values = [] }
told (Ok (Some n)) = record { number = 0; values = n ∷ [] }
told (Err (For why)) = record { number = number why; values = [] }
told (Err (WrongLine n)) = record { number = wrong_setup; values = n ∷ [] }

-- the answer that a reply is
unfoldable pub answer_of : Reply → Answer
answer_of (ok none) = Ok None
answer_of (ok (some t)) = Ok (Some (length t))
answer_of (refusal why) = Err (For why)

-- the answer buffer after a reply: a text stands from its first byte, and the bytes after it stay
unfoldable pub written : Reply → List ℕ → List ℕ
written (ok none) answer = answer
written (ok (some t)) answer = t ++ drop (length t) answer
written (refusal why) answer = answer
