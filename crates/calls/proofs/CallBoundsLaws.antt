-- Every text fits: how long the texts of done calls are, and that every call keeps the lengths of both buffers, whatever they hold.
use Rattle.std.specs.Prelude.{◌≡◌, refl, List, [], ◌∷◌, Bool, true, ℕ, zero, suc, ◌≤◌, leb, length}
use Rattle.std.proofs.Common.{sym, ◌∙◌, ap, arith, leb-true}
use Rattle.std.proofs.Math.Option.{some}
use Rattle.std.proofs.Math.ListN.{get_elem?}
use Rattle.buffers.specs.Cases.{and_both, contra}
use Rattle.buffers.specs.Text.{Text, every}
use Rattle.syntax.proofs.FormLaws.{answered, no_answer}
use Rattle.tree.specs.declared.Cause.TheVariants.{Missing}
use Rattle.tree.specs.Result.{Result, refused, done, present, Outcome}
use Rattle.tree.proofs.ResultLaws.{present_some}
use Rattle.tree.specs.Outcomes.{gives, Ensures}
use Rattle.tree.proofs.GivesLaws.{done_with, then_do}
use Rattle.shell.specs.Steps.{longest_text}
use Rattle.shell.specs.Replies.{ok, refusal, reply, after}
use Rattle.shell.proofs.ReplyLaws.{written_length}
use Rattle.store.specs.State.{state_of}
use Rattle.store.proofs.StateLaws.{parts}
use Rattle.store.proofs.StoreBytesLaws.{length_encode, encode_decode, decode_length}
use Rattle.machine.specs.StoreMachine.{store}
use Rattle.machine.specs.Runs.{perform}
use Rattle.machine.proofs.MachineAnswerLaws.{perform_fits}
use Rattle.machine.proofs.MachineKeepingLaws.{perform_keeps}
use Rattle.listing.specs.Listing.{longest_listing_line, listing}
use Rattle.listing.proofs.ListingLaws.{lines_fit}
use Rattle.calls.specs.Calls.{called, encoded, line_on, run_result, run_call, listing_on, listing_result, listing_call}
use Rattle.calls.proofs.CallsLaws.{on_state_ensures}

-- ---- buffers

-- what is known of a done call: the store's length, and a bound of the text, which the answer buffer has room for
record Bounded (b : List ℕ) (room most : ℕ) (o : Outcome (List ℕ)) : Type 0 where
  stays : length o.state ≡ length b
  short : (t : Text) → o.text ≡ some t → length t ≤ most
  roomy : most ≤ room

-- a call with that keeps both lengths
bounded_called : (b answer : List ℕ) (most : ℕ) (r : Result (Outcome (List ℕ))) → Ensures (Bounded b (length answer) most) r →
    (length (called b answer r).store ≡ length b) × (length (called b answer r).answer ≡ length answer)
unfolding called after reply
bounded_called b answer most (refused why) h = (refl, written_length (refusal why) answer (λ t e. contra {b = true} refl (cc)))
bounded_called b answer most (done o) h =
    let k = done_with h refl in
    (k.stays, written_length (ok o.text) answer (λ t e. let i : o.text ≡ some t = cc in omega (arith, k.short t i, k.roomy)))

-- ---- run

run_bounded : (b : List ℕ) (line : Text) (room : ℕ) → Ensures (Bounded b room longest_text) (run_result b line room)
unfolding run_result line_on longest_text encoded
run_bounded b line room = on_state_ensures (line_on line) b room λ s d l.
    let w = (encode_decode b s d).1 in
    let p = parts s w in
    then_do (perform store s.setup s.store line) λ o i.
    gives (record {
      stays = length_encode (state_of s.setup o.state) (done_with (perform_keeps s.setup p.setup s.store w line) i) ∙ sym (decode_length b s d);
      short = perform_fits s.setup s.store p.tree line o i;
      roomy = omega (arith, l);
    })

-- the text of a done call has at most 2294 bytes
pub run_text_fits : (b : List ℕ) (line : Text) (room : ℕ) (o : Outcome (List ℕ)) → run_result b line room ≡ done o
    → (t : Text) → o.text ≡ some t → length t ≤ 2294
unfolding longest_text
run_text_fits b line room o e t i = (done_with (run_bounded b line room) e).short t i

-- a call keeps the lengths of both buffers
pub run_keeps_lengths : (b : List ℕ) (line : Text) (answer : List ℕ) →
    (length (run_call b line answer).store ≡ length b) × (length (run_call b line answer).answer ≡ length answer)
unfolding run_call
run_keeps_lengths b line answer = bounded_called b answer longest_text (run_result b line (length answer)) (run_bounded b line (length answer))

-- ---- listing

-- what holds of every element holds of one that is found
every_found : {A : Type 0} (f : A → Bool) (l : List A) (n : ℕ) (a : A) → every f l ≡ true → get_elem? l n ≡ some a → f a ≡ true
unfolding every
every_found f [] n t h e = no_answer e
every_found f (a ∷ l) zero t h e = ap f (answered e) ∙ (and_both (f a) (every f l) h).0
every_found f (a ∷ l) (suc n) t h e = every_found f l n t (and_both (f a) (every f l) h).1 e

listing_bounded : (b : List ℕ) (n room : ℕ) → Ensures (Bounded b room longest_listing_line) (listing_result b n room)
unfolding listing_result listing_on longest_listing_line
listing_bounded b n room = on_state_ensures (listing_on b n) b room λ s d l.
    let lines = listing s.store.tree in
    then_do (present (get_elem? lines n) Missing) λ t i.
    let f = every_found (λ x. leb (length x) longest_listing_line) lines n t (lines_fit s.store.tree (parts s (encode_decode b s d).1).tree)
    (present_some (get_elem? lines n) Missing i) in
    gives (record { stays = refl; short = λ x e. let q : x ≡ t = cc in rw q (leb-true (length t) longest_listing_line f); roomy = omega (arith, l) })

-- no line is longer than the longest
pub listing_text_fits : (b : List ℕ) (n room : ℕ) (o : Outcome (List ℕ)) → listing_result b n room ≡ done o
    → (t : Text) → o.text ≡ some t → length t ≤ longest_listing_line
listing_text_fits b n room o e t i = (done_with (listing_bounded b n room) e).short t i

-- a listing keeps the lengths too
pub listing_keeps_lengths : (b : List ℕ) (n : ℕ) (answer : List ℕ) →
    (length (listing_call b n answer).store ≡ length b) × (length (listing_call b n answer).answer ≡ length answer)
unfolding listing_call
listing_keeps_lengths b n answer = bounded_called b answer longest_listing_line (listing_result b n (length answer)) (listing_bounded b n (length answer))
