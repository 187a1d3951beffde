-- The program prints `transcript`, whatever the two buffers hold.
use Rattle.std.specs.Prelude.{◌≡◌, true}
use Rattle.std.proofs.Math.Path.{refl, sym, ap}
use Rattle.std.proofs.Common.{◌∙◌, drop_of_length-le}
use mathlib.Core.List.{List, [], ◌∷◌, ◌++◌, map}
use Rattle.std.proofs.Math.Option.{none, some}
use Prim.Native.Nat.{ℕ, zero, suc, ◌+◌, ◌≤◌, ◌<◌}
use native.Mathlib.Omega.{arith}
use Rattle.std.proofs.Math.ListN.{length, drop, get_elem?}
use Rattle.std.proofs.Math.Seq.{take-append_seam}
use Rattle.buffers.specs.Text.{Text}
use Rattle.syntax.specs.Pieces.{bytes, comma, newline, pieces, joined}
use Rattle.syntax.proofs.FormLaws.{answered, no_answer}
use Rattle.syntax.specs.Number.{digits_before, decimal_text}
use Rattle.setup.specs.Setup.{Setup, SetupAnswer, accepted, wrong_line, setup, is_setup}
use Rattle.setup.proofs.SetupLaws.{accepted_is_setup}
use Rattle.tree.specs.declared.Cause.TheVariants.{Missing}
use Rattle.tree.proofs.CausesLaws.{wrong_setup_is, missing_number, number_not_0}
use Rattle.tree.proofs.ResultLaws.{require_true, done_then, present_of, done_bind}
use Rattle.tree.proofs.UpdateLaws.{by_option}
use Rattle.tree.proofs.WellFormedLaws.{most_nodes_is}
use Rattle.shell.specs.Replies.{Reply, ok, refusal, reply, after, told, answer_of, written}
use Rattle.store.specs.State.{Store, State, state_of, well_formed}
use Rattle.store.proofs.StateLaws.{parts as state_parts}
use Rattle.store.specs.Initial.{initial_store}
use Rattle.store.proofs.InitialLaws.{initial_well_formed}
use Rattle.store.specs.StoreBytes.{encode}
use Rattle.machine.specs.StoreMachine.{store}
use Rattle.machine.specs.Runs.{least_room, step, runs}
use Rattle.machine.proofs.MachineKeepingLaws.{step_keeps, runs_keep}
use Rattle.listing.specs.Listing.{listing}
use Rattle.listing.proofs.ListingLaws.{listing_few}
use Rattle.calls.specs.Transcript.{input_parts, command_lines, reply_line, call_of, session_text, output, transcript}
use Rattle.calls.specs.Calls.{setup_call, called, run_call, listing_on, listing_result, listing_call}
use Rattle.calls.proofs.CallsLaws.{on_encoding, past_the_end_is_3}
use Rattle.calls.proofs.CallBoundsLaws.{run_keeps_lengths, listing_keeps_lengths}
use Rattle.calls.specs.CallLists.{Request, call_for}
use Rattle.calls.proofs.CallListsLaws.{step_called, run_on_state, set_up_takes, set_up_wrong}
use Rattle.calls.specs.Program.{text_told, done_line, refused_line, call_line, run_lines, list_lines, run_and_list, after_setup, program}

-- ---- what is printed for a reply

-- what is printed for an answer is the reply's line
line_of_reply : (r : Reply) (answer : List ℕ) → call_line (told (answer_of r)) (written r answer) ≡ reply_line r
unfolding call_line told answer_of written reply_line done_line text_told refused_line joined comma bytes
line_of_reply (ok none) answer = refl
line_of_reply (ok (some t)) answer = rw (take-append_seam t (drop (length t) answer))
line_of_reply (refusal why) answer = rw (number_not_0 why)

-- ---- the commands

-- the call that the program makes with a buffer of 4,096 bytes
call_is : (t : Text) (answer : List ℕ) → length answer ≡ 4096 → call_for (record { line = t; answer = answer }) ≡ call_of t
unfolding call_for call_of least_room
call_is t answer l = ap (λ n. record { line = t; room = n }) l

module _ (u : Setup) (g : is_setup u ≡ true) where
  -- a call with an answer buffer of 4,096 bytes is a step of the machine
  stepped : (s : Store) → well_formed (state_of u s) ≡ true → (t : Text) (answer : List ℕ) → length answer ≡ 4096 →
      run_call (encode (state_of u s)) t answer ≡ step_called u s answer (step store u s (call_of t))
  stepped s w t answer l =
      let q : Request = record { line = t; answer = answer } in
      run_on_state u s w q ∙ ap (λ c. step_called u s answer (step store u s c)) (call_is t answer l)

  -- and leaves its length
  still_4096 : (s : Store) → well_formed (state_of u s) ≡ true → (t : Text) (answer : List ℕ) → length answer ≡ 4096
      → length (written (reply (step store u s (call_of t))) answer) ≡ 4096
  still_4096 s w t answer l = ap (λ x. length x.answer) (sym (stepped s w t answer l)) ∙ (run_keeps_lengths (encode (state_of u s)) t answer).1 ∙ l

  -- the commands' lines are those of the replies, and the store's bytes those of the machine's state
  lines_of_runs : (ts : List Text) (s : Store) → well_formed (state_of u s) ≡ true → (answer : List ℕ) → length answer ≡ 4096 →
      let ran = runs store u s (map call_of ts) in
      (answer' : List ℕ) × (length answer' ≡ 4096)
      × (run_lines (encode (state_of u s)) answer ts
      ≡ record { lines = map reply_line ran.replies; store = encode (state_of u ran.state); answer = answer' })
  unfolding run_lines runs
  lines_of_runs [] s w answer l = (answer, l, refl)
  lines_of_runs (t ∷ ts) s w answer l =
      let r = step store u s (call_of t) in
      let rest = lines_of_runs ts (after s r) (step_keeps u g s w (call_of t)) (written (reply r) answer) (still_4096 s w t answer l) in
      (rest.0, rest.1, rw (stepped s w t answer l, line_of_reply (reply r) answer, rest.2))

-- ---- the listing

drop_none : (l : List Text) (n : ℕ) → get_elem? l n ≡ none → drop n l ≡ []
drop_none [] zero e = refl
drop_none [] (suc n) e = refl
drop_none (a ∷ l) zero e = no_answer (sym e)
drop_none (a ∷ l) (suc n) e = drop_none l n e

drop_some : (l : List Text) (n : ℕ) (t : Text) → get_elem? l n ≡ some t → drop n l ≡ t ∷ drop (suc n) l
drop_some [] n t e = no_answer e
drop_some (a ∷ l) zero t e = ap (λ x. x ∷ l) (sym (answered e))
drop_some (a ∷ l) (suc n) t e = drop_some l n t e

module _ (s : State) (w : well_formed s ≡ true) where
  abbrev lines : List Text
  lines = listing s.store.tree

  -- with an answer buffer of 4,096 bytes a line that is there is answered
  listed : (n : ℕ) (t : Text) (answer : List ℕ) → length answer ≡ 4096 → get_elem? lines n ≡ some t →
      listing_call (encode s) n answer ≡ record { tells = told (answer_of (ok (some t))); store = encode s; answer = written (ok (some t)) answer }
  unfolding listing_call listing_result listing_on called reply after least_room
  listed n t answer l e = rw (on_encoding (listing_on (encode s) n) s w (length answer), l, e, require_true, done_then, present_of, done_bind)

  -- the lines from n on
  list_from : (calls n : ℕ) (answer : List ℕ) → length answer ≡ 4096 → length lines < calls + n → list_lines calls (encode s) answer n ≡ drop n lines
  unfolding list_lines told answer_of written text_told
  list_from zero n answer l h = let k : length lines ≤ n = omega arith in sym (drop_of_length-le lines k)
  list_from (suc calls) n answer l h = by_option (get_elem? lines n)
      (λ e. rw (past_the_end_is_3 s w n answer (omega (arith, l)) e, drop_none lines n e) (rw missing_number))
      (λ t e.
      let m = ap (λ x. length x.answer) (sym (listed n t answer l e)) ∙ (listing_keeps_lengths (encode s) n answer).1 ∙ l in
      rw (listed n t answer l e, drop_some lines n t e)
      (rw (number_not_0 Missing, take-append_seam t (drop (length t) answer), list_from calls (suc n) (t ++ drop (length t) answer) m (omega arith))))

-- ---- the whole

module _ (b answer : List ℕ) (width : length b ≡ 65536) (room : length answer ≡ 4096) where
  -- by what the setup's text is
  printed : (text : Text) (commands : List Text) (a : SetupAnswer) → setup text ≡ a → after_setup (setup_call b text) answer commands ≡ output a commands
  unfolding after_setup told output session_text run_and_list refused_line joined comma bytes decimal_text digits_before
  printed text commands (accepted u) e =
      let g = accepted_is_setup text u e in
      let s = initial_store u in
      let ran = runs store u s (map call_of commands) in
      let r = lines_of_runs u g commands s (initial_well_formed u g) answer room in
      let w = runs_keep u g s (initial_well_formed u g) (map call_of commands) in
      let L = listing ran.state.tree in
      let few = listing_few ran.state.tree (state_parts (state_of u ran.state) w).tree in
      let all = list_from (state_of u ran.state) w 257 0 r.0 r.1 (omega arith) in
      rw (set_up_takes b width text u e) (rw (most_nodes_is, r.2, all))
  printed text commands (wrong_line n) e =
      ap (λ c. after_setup c answer commands) (set_up_wrong b width text n e) ∙ rw wrong_setup_is

  -- the program prints the transcript
  pub program_is_transcript : (input : Text) → program b answer input ≡ transcript input
  unfolding program transcript
  program_is_transcript input =
      let i = input_parts (pieces newline input) in
      let text = joined newline i.of_setup in
      printed text (command_lines i.of_commands) (setup text) refl
