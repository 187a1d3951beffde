-- The calls on bytes, for bytes that encode a state and for others: a call is the command on the state, bytes that encode no
-- state are refused, and neither a refused call nor a listing changes the store.
use Rattle.std.specs.Prelude.{◌≡◌, refl, List, true, ℕ, ◌≤◌, ◌<◌, leb, length, Err}
use Rattle.std.proofs.Math.Option.{none, some}
use borrow.Author.Tests.{leb-true, le-leb, lt-leb}
use Rattle.std.proofs.Math.ListN.{get_elem?}
use Rattle.tree.specs.declared.Cause.{Cause}
use Rattle.tree.specs.declared.Cause.TheVariants.{Missing, Unsound, ShortAnswer}
use Rattle.tree.proofs.CausesLaws.{missing_number, unsound_number, short_answer_number}
use Rattle.tree.specs.Result.{Result, refused, ◌>>◌, require, present, Outcome}
use Rattle.tree.proofs.ResultLaws.{present_some, present_of, present_none, done_bind, refused_bind, done_then, refused_then, require_true, require_false, holds_bind, holds_then}
use Rattle.tree.specs.Outcomes.{Ensures}
use Rattle.tree.proofs.GivesLaws.{then_check, then_do}
use Rattle.tree.specs.declared.Refusal.TheVariants.{For}
use Rattle.shell.specs.Replies.{reply, after, told, answer_of, written}
use Rattle.store.specs.State.{State, well_formed}
use Rattle.store.specs.StoreBytes.{encode, decode}
use Rattle.store.proofs.StoreBytesLaws.{decode_encode}
use Rattle.machine.specs.Runs.{least_room}
use Rattle.machine.proofs.RunsLaws.{least_room_is}
use Rattle.listing.specs.Listing.{listing}
use Rattle.calls.specs.Calls.{only_tells, called, on_state, listing_on, listing_result, listing_call}

-- ---- before a command or a listing

module _ (act : State → Result (Outcome (List ℕ))) where
  -- an answer buffer of less than 4,096 bytes is refused by 20, before anything else
  pub short_is_20 : (b a : List ℕ) → length a < 4096 → called b a (on_state b (length a) act) ≡ only_tells 20 b a
  unfolding on_state called reply after answer_of written told
  short_is_20 b a l = rw (least_room_is, lt-leb 4096 (length a) l, require_false, refused_then, short_answer_number)

  -- bytes that encode no state are refused by 18 where the answer buffer is long enough
  pub unsound_is_18 : (b : List ℕ) → decode b ≡ none → (a : List ℕ) → 4096 ≤ length a → called b a (on_state b (length a) act) ≡ only_tells 18 b a
  unfolding on_state called reply after answer_of written told
  unsound_is_18 b e a l = rw (least_room_is, le-leb 4096 (length a) l, require_true, done_then, e, present_none, refused_bind, unsound_number)

  -- bytes that encode a state are that state's
  pub on_encoding : (s : State) → well_formed s ≡ true → (room : ℕ) → on_state (encode s) room act ≡ (require (leb least_room room) ShortAnswer >> act s)
  unfolding on_state
  on_encoding s h room = rw (decode_encode s h, present_of, done_bind)

  -- what is ensured on every state that the bytes are read as is ensured
  pub on_state_ensures : {P : Outcome (List ℕ) → Type 0} (b : List ℕ) (room : ℕ)
      → ((s : State) → decode b ≡ some s → 4096 ≤ room → Ensures P (act s)) → Ensures P (on_state b room act)
  unfolding on_state
  on_state_ensures b room k =
      then_check ShortAnswer tt _ λ l.
      then_do (present (decode b) Unsound) λ s e.
      k s (present_some (decode b) Unsound e) (leb-true 4096 room (rw least_room_is at l))

-- ---- one call

-- a listing past the last line is refused by 3
pub past_the_end_is_3 : (s : State) → well_formed s ≡ true → (n : ℕ) (a : List ℕ) → 4096 ≤ length a → get_elem? (listing s.store.tree) n ≡ none →
    listing_call (encode s) n a ≡ only_tells 3 (encode s) a
unfolding listing_call listing_result listing_on called reply after answer_of written told
past_the_end_is_3 s h n a l e =
    rw (on_encoding (listing_on (encode s) n) s h (length a), least_room_is, le-leb 4096 (length a) l, require_true, done_then, e, present_none, refused_bind, missing_number)

-- a refused call leaves store and answer buffer as they were
pub refused_call_stays : (b a : List ℕ) {r : Result (Outcome (List ℕ))} {why : Cause} → r ≡ refused why
    → called b a r ≡ record { tells = told (Err (For why)); store = b; answer = a }
unfolding called answer_of written reply after
refused_call_stays b a e = rw e

-- a listing leaves the store as it was
pub listing_store_stays : (b : List ℕ) (n : ℕ) (a : List ℕ) → (listing_call b n a).store ≡ b
unfolding listing_call listing_result on_state listing_on called after
listing_store_stays b n a =
    let Kept : Result (Outcome (List ℕ)) → Type 0 = λ r. (called b a r).store ≡ b in
    holds_then Kept (require (leb least_room (length a)) ShortAnswer) _ (λ k. refl)
    (holds_bind Kept (present (decode b) Unsound) _ (λ k. refl)
    λ s. holds_bind Kept (present (get_elem? (listing s.store.tree) n) Missing) _ (λ k. refl) λ t. refl)
