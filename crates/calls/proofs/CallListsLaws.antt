-- A list of calls on the bytes of a well-formed state is the list of the machine's calls on the state.
use Rattle.std.specs.Prelude.{◌≡◌, refl, List, [], ◌∷◌, map, true, not, ℕ, eqb, leb, length, Ok, Err, None}
use Rattle.std.proofs.Common.{sym, ◌∙◌, ap, arith, eq-eqb, ne_eqb}
use Rattle.std.proofs.Math.Option.{Option, none, some}
use Rattle.buffers.specs.Cases.{case, contra}
use Rattle.buffers.specs.Text.{Text, every}
use Rattle.setup.specs.Setup.{Setup, SetupAnswer, accepted, wrong_line, setup, is_setup}
use Rattle.setup.proofs.SetupLaws.{accepted_is_setup}
use Rattle.tree.specs.declared.Cause.TheVariants.{Unsound, ShortAnswer}
use Rattle.tree.specs.Causes.{number, wrong_setup}
use Rattle.tree.proofs.CausesLaws.{wrong_setup_is, unsound_number, number_not_0, only_unsound_is_18}
use Rattle.tree.specs.Result.{Result, refused, done, ◌>>=◌, require, Outcome}
use Rattle.tree.proofs.ResultLaws.{done_bind, refused_bind, then_bind}
use Rattle.tree.specs.declared.Refusal.TheVariants.{For, WrongLine}
use Rattle.shell.specs.Replies.{ok, reply, after, Told, told, answer_of, written}
use Rattle.store.specs.State.{Store, state_of, well_formed}
use Rattle.store.specs.Initial.{initial_store}
use Rattle.store.proofs.InitialLaws.{initial_well_formed}
use Rattle.store.specs.StoreBytes.{store_width, encode, decode}
use Rattle.store.proofs.StoreBytesLaws.{decode_encode}
use Rattle.machine.specs.Machine.{Machine}
use Rattle.machine.specs.StoreMachine.{store}
use Rattle.machine.specs.Runs.{least_room, perform, step, runs}
use Rattle.machine.proofs.MachineAnswerLaws.{never_18}
use Rattle.machine.specs.Observed.{without_root}
use Rattle.machine.proofs.MachineKeepingLaws.{step_keeps, runs_keep}
use Rattle.machine.proofs.ComparedLaws.{compared_lists}
use Rattle.calls.specs.Calls.{set_up, setup_call, Called, called, encoded, line_on, run_result, run_call}
use Rattle.calls.proofs.CallsLaws.{on_encoding}
use Rattle.calls.specs.CallLists.{Request, run_calls, call_for, rootless, response, responses_to, all_sound, CallsCompared}

-- ---- one call

-- a call on bytes is the machine's step, with the state after it as bytes
run_is_step : (u : Setup) (s : Store) → well_formed (state_of u s) ≡ true → (q : Request)
    → run_result (encode (state_of u s)) q.line (length q.answer) ≡ (step store u s (call_for q) >>= λ o. done (encoded u o))
unfolding run_result line_on step call_for
run_is_step u s h q =
    on_encoding (line_on q.line) (state_of u s) h (length q.answer)
    ∙ sym (then_bind (require (leb least_room (length q.answer)) ShortAnswer) (perform store u s q.line) (λ o. done (encoded u o)))

-- what such a call tells and leaves
abbrev pub step_called : Setup → Store → List ℕ → Result (Outcome Store) → Called
step_called u s answer r = record { tells = told (answer_of (reply r)); store = encode (state_of u (after s r)); answer = written (reply r) answer }

called_step : (u : Setup) (s : Store) (answer : List ℕ) (r : Result (Outcome Store))
    → called (encode (state_of u s)) answer (r >>= λ o. done (encoded u o)) ≡ step_called u s answer r
unfolding called reply after encoded
called_step u s answer (refused why) = rw (refused_bind {B = Outcome (List ℕ)} why (λ o. done (encoded u o)))
called_step u s answer (done o) = rw (done_bind o (λ x. done (encoded u x)))

-- one call on the bytes of a well-formed state is the step of the machine
pub run_on_state : (u : Setup) (s : Store) → well_formed (state_of u s) ≡ true → (q : Request) →
    run_call (encode (state_of u s)) q.line q.answer ≡ step_called u s q.answer (step store u s (call_for q))
unfolding run_call
run_on_state u s h q = ap (called (encode (state_of u s)) q.answer) (run_is_step u s h q) ∙ called_step u s q.answer (step store u s (call_for q))

-- ---- a list of calls

-- calls on the bytes of a well-formed state are those of the machine
pub run_calls_on_state : (u : Setup) → is_setup u ≡ true → (s : Store) → well_formed (state_of u s) ≡ true → (qs : List Request) →
    let ran = runs store u s (map call_for qs) in
    run_calls (encode (state_of u s)) qs ≡ record { responses = responses_to qs ran.replies; store = encode (state_of u ran.state) }
unfolding run_calls runs responses_to response
run_calls_on_state u g s h [] = refl
run_calls_on_state u g s h (q ∷ qs) =
    let r = step store u s (call_for q) in
    rw (run_on_state u s h q, run_calls_on_state u g (after s r) (step_keeps u g s h (call_for q)) qs)

-- the lines that are not root's
rootless_calls : (qs : List Request) → rootless qs ≡ without_root (map call_for qs)
unfolding rootless without_root every
rootless_calls [] = refl
rootless_calls (q ∷ qs) = rw (rootless_calls qs)

-- ---- 18

done_not_18 : (t : Option Text) → not (eqb (told (answer_of (ok t))).number 18) ≡ true
unfolding told answer_of
done_not_18 none = refl
done_not_18 (some t) = refl

-- a step that is not refused as unsound does not tell 18
tells_not_18 : {S : Type 0} (r : Result (Outcome S)) → (r ≡ refused Unsound → ⊥) → not (eqb (told (answer_of (reply r))).number 18) ≡ true
unfolding reply told answer_of
tells_not_18 (done o) h = done_not_18 o.text
tells_not_18 (refused why) h = case (eqb (number why) 18)
    (λ e. absurd (h (ap refused (only_unsound_is_18 why e))))
    (λ e. rw e)

-- so no response to a list does
runs_sound : {S A : Type 0} (M : Machine S A) (u : Setup) (s : S) (qs : List Request)
    → all_sound (responses_to qs (runs M u s (map call_for qs)).replies) ≡ true
unfolding all_sound every runs responses_to response
runs_sound M u s [] = refl
runs_sound M u s (q ∷ qs) =
    let r = step M u s (call_for q) in
    rw (tells_not_18 r (never_18 M u s (call_for q)), runs_sound M u (after s r) qs)

-- ---- setup

-- an accepted text is told as done, and no other
taken : (b : List ℕ) (a : SetupAnswer) → (set_up b a).tells ≡ told (Ok None) →
    (u : Setup) × (a ≡ accepted u) × ((set_up b a).store ≡ encode (state_of u (initial_store u)))
unfolding set_up told
taken b (accepted u) e = (u, refl, refl)
taken b (wrong_line n) e = let q : wrong_setup ≡ 0 = ap (λ (t : Told). t.number) e in let z : ⊥ = omega (arith, q, wrong_setup_is) in absurd z

-- nor is a buffer of another length
not_taken : {P : Type 0} → told (Err (For Unsound)) ≡ told (Ok None) → P
unfolding told
not_taken e = contra (eq-eqb (number Unsound) 0 (ap (λ (t : Told). t.number) e)) (number_not_0 Unsound)

-- a setup that is done was accepted, on a buffer of the store's width, which now holds the initial state
set_up_done : (b : List ℕ) (text : Text) → (setup_call b text).tells ≡ told (Ok None) →
    (u : Setup) × (setup text ≡ accepted u) × ((setup_call b text).store ≡ encode (state_of u (initial_store u)))
unfolding setup_call
set_up_done b text e = case (eqb (length b) store_width)
    (λ w. rw w (taken b (setup text) (rw w at e)))
    (λ w. not_taken (rw w at e))

-- and on such a buffer every accepted text is done
pub set_up_takes : (b : List ℕ) → length b ≡ 65536 → (text : Text) (u : Setup) → setup text ≡ accepted u →
    setup_call b text ≡ record { tells = told (Ok None); store = encode (state_of u (initial_store u)) }
unfolding setup_call set_up store_width
set_up_takes b w text u e = rw (eq-eqb (length b) 65536 w, e)

-- a buffer of another length is refused by 18, whatever the text
pub set_up_elsewhere : (b : List ℕ) → (length b ≡ 65536 → ⊥) → (text : Text)
    → setup_call b text ≡ record { tells = record { number = 18; values = [] }; store = b }
unfolding setup_call store_width told
set_up_elsewhere b w text = rw (ne_eqb (length b) 65536 w, unsound_number)

-- while a wrong text changes nothing
pub set_up_wrong : (b : List ℕ) → length b ≡ 65536 → (text : Text) (n : ℕ) → setup text ≡ wrong_line n →
    setup_call b text ≡ record { tells = told (Err (WrongLine n)); store = b }
unfolding setup_call set_up store_width
set_up_wrong b w text n e = rw (eq-eqb (length b) 65536 w, e)

-- ---- demand 3 on calls

-- the theorem on states, read off the bytes
pub compared_calls : (b : List ℕ) (text : Text) → (setup_call b text).tells ≡ told (Ok None) → (qs : List Request) → rootless qs ≡ true →
    CallsCompared text qs (run_calls (setup_call b text).store qs)
compared_calls b text e qs r =
    let t = set_up_done b text e in
    let u = t.0 in
    let g = accepted_is_setup text u t.1 in
    let calls = map call_for qs in
    let w = initial_well_formed u g in
    let c = compared_lists text u t.1 calls (sym (rootless_calls qs) ∙ r) in
    let ran = ap (λ s. run_calls s qs) t.2 ∙ run_calls_on_state u g (initial_store u) w qs in
    let s = (runs store u (initial_store u) calls).state in
    record {
      setup = u;
      taken = t.1;
      responses = ap (λ d. d.responses) ran ∙ ap (responses_to qs) c.replies;
      store = record {
        store = s;
        read = ap (λ d. decode d.store) ran ∙ decode_encode (state_of u s) (runs_keep u g (initial_store u) w calls);
        workspace = c.workspace;
        sessions = c.sessions;
        directories = c.directories;
        entries = c.entries;
      };
      sound = ap (λ d. all_sound d.responses) ran ∙ runs_sound store u (initial_store u) qs;
    }
