-- The theorems about the calls on bytes, each with the words that it stands for. Their proofs are in the files beside it.
--
-- Demand 3 on calls and setups come first, then what the program prints, the commit of a directory, the checks before a command, and
-- how long texts are.
use Rattle.std.specs.Prelude.{◌≡◌, List, [], ◌∷◌, ◌++◌, true, ℕ, ◌≤◌, ◌<◌, length, drop, Ok, Err, None}
use Rattle.std.proofs.Math.Option.{none, some}
use Rattle.std.proofs.Math.ListN.{get_elem?}
use Rattle.buffers.specs.Text.{Text}
use Rattle.accounts.specs.declared.Caller.{Caller}
use Rattle.accounts.specs.declared.Uid.{Uid}
use Rattle.accounts.specs.Dominance.{BoundedRole}
use Rattle.syntax.specs.Number.{decimal_text}
use Rattle.syntax.specs.Path.{Path}
use Rattle.setup.specs.Setup.{Setup, accepted, wrong_line, setup}
use Rattle.tree.specs.declared.Cause.{Cause}
use Rattle.tree.proofs.CausesLaws.{wrong_setup_is}
use Rattle.tree.specs.Result.{refused, done, Outcome}
use Rattle.tree.specs.Forest.{Place}
use Rattle.tree.specs.Node.{is_directory, Node}
use Rattle.tree.specs.Walk.{by_modes, walk}
use Rattle.tree.specs.Files.{files_below}
use Rattle.tree.specs.declared.Refusal.TheVariants.{For}
use Rattle.shell.specs.Replies.{told}
use Rattle.store.specs.State.{State, state_of, well_formed}
use Rattle.store.specs.Initial.{initial_store}
use Rattle.store.specs.StoreBytes.{encode, decode}
use Rattle.store.specs.Callers.{caller}
use Rattle.store.specs.SoundStore.{Sound}
use Rattle.store.proofs.SoundStoreLaws
use Rattle.machine.specs.Machine.{session}
use Rattle.machine.specs.StoreMachine.{store}
use Rattle.listing.specs.Listing.{longest_listing_line, listing}
use Rattle.calls.specs.Transcript.{transcript}
use Rattle.calls.specs.Calls.{setup_call, only_tells, line_on, run_result, run_call, listing_on, listing_result, listing_call}
use Rattle.calls.proofs.CallsLaws
use Rattle.calls.proofs.CallBoundsLaws
use Rattle.calls.specs.CallLists.{Request, run_calls, rootless, CallsCompared}
use Rattle.calls.proofs.CallListsLaws
use Rattle.calls.specs.CommitLines.{commit_line, commit_requests, how_many_done}
use Rattle.calls.proofs.CommitLinesLaws
use Rattle.calls.specs.Program.{program}
use Rattle.calls.proofs.ProgramLaws

-- Demand 3 on library calls. After a setup that is done, on a buffer of any bytes, every list of command lines with answer buffers
-- of any bytes, none of them root's, tells and writes what the abstract machine's replies give; afterwards the store's bytes read as
-- what that machine holds, and no call says 18.
pub demand_3_on_calls : (b : List ℕ) (text : Text) → (setup_call b text).tells ≡ told (Ok None) → (requests : List Request) → rootless requests ≡ true →
    CallsCompared text requests (run_calls (setup_call b text).store requests)
demand_3_on_calls = CallListsLaws.compared_calls

-- A setup is done on every buffer of 65,536 bytes with every text that is accepted, and leaves the initial state's bytes.
pub setup_is_done : (b : List ℕ) → length b ≡ 65536 → (text : Text) (u : Setup) → setup text ≡ accepted u →
    setup_call b text ≡ record { tells = told (Ok None); store = encode (state_of u (initial_store u)) }
setup_is_done = CallListsLaws.set_up_takes

-- Any other setup leaves the store's bytes: 18 on a buffer of another length, whatever the text,
pub setup_elsewhere_is_18 : (b : List ℕ) → (length b ≡ 65536 → ⊥) → (text : Text) →
    setup_call b text ≡ record { tells = record { number = 18; values = [] }; store = b }
setup_elsewhere_is_18 = CallListsLaws.set_up_elsewhere

-- then 17 with the first wrong line.
pub wrong_setup_is_17 : (b : List ℕ) → length b ≡ 65536 → (text : Text) (n : ℕ) → setup text ≡ wrong_line n →
    setup_call b text ≡ record { tells = record { number = 17; values = n ∷ [] }; store = b }
unfolding told
wrong_setup_is_17 b w text n e = rw (CallListsLaws.set_up_wrong b w text n e, wrong_setup_is)

-- The program's output is what the three calls give, one after another, on a store of 65,536 bytes and an answer buffer of 4,096,
-- whatever they hold.
pub program_is_transcript : (b answer : List ℕ) → length b ≡ 65536 → length answer ≡ 4096 → (input : Text) → program b answer input ≡ transcript input
program_is_transcript = ProgramLaws.program_is_transcript

-- The line by which a caller, in a session, commits a directory that it can read leaves on a store's bytes what the lines that commit
-- the files below it in path order, through directories the caller can read, leave one after another; its text is how many of these
-- tell that they are done.
pub directory_commit_is_commits_on_calls : (b : List ℕ) (t : State) → decode b ≡ some t → (v : Uid) (c : Caller) → caller t.setup v ≡ done c →
    (w : Path) (found : Place Node) (z : BoundedRole) → session store t.setup t.store c ≡ done z →
    walk (by_modes c.account) t.store.tree w ≡ done found → is_directory found.here.kind ≡ true →
    (by_modes c.account).readable found.here ≡ true → (answer : List ℕ) → 4096 ≤ length answer →
    (let ran = run_calls b (commit_requests v answer (files_below (by_modes c.account) w found.below)) in
    let text = decimal_text (how_many_done ran.responses) in
    run_call b (commit_line v w) answer
    ≡ record { tells = record { number = 0; values = length text ∷ [] }; store = ran.store; answer = text ++ drop (length text) answer })
directory_commit_is_commits_on_calls = CommitLinesLaws.directory_commits_on_calls

-- Before a command: 20 where the answer buffer has less than 4,096 bytes,
pub short_answer_is_20 : (b : List ℕ) (line : Text) (answer : List ℕ) → length answer < 4096 →
    run_call b line answer ≡ only_tells 20 b answer
unfolding run_call run_result
short_answer_is_20 b line = CallsLaws.short_is_20 (line_on line) b

-- then 18 where the store's bytes are not sound.
pub unsound_is_18 : (b : List ℕ) → (Sound b → ⊥) → (line : Text) (answer : List ℕ) → 4096 ≤ length answer →
    run_call b line answer ≡ only_tells 18 b answer
unfolding run_call run_result
unsound_is_18 b h line = CallsLaws.unsound_is_18 (line_on line) b (SoundStoreLaws.unsound_is_none b h)

-- A listing likewise: 20, then 18, then 3 past the last line; none changes a byte.
pub listing_short_answer_is_20 : (b : List ℕ) (n : ℕ) (answer : List ℕ) → length answer < 4096 →
    listing_call b n answer ≡ only_tells 20 b answer
unfolding listing_call listing_result
listing_short_answer_is_20 b n = CallsLaws.short_is_20 (listing_on b n) b

pub listing_unsound_is_18 : (b : List ℕ) → (Sound b → ⊥) → (n : ℕ) (answer : List ℕ) → 4096 ≤ length answer →
    listing_call b n answer ≡ only_tells 18 b answer
unfolding listing_call listing_result
listing_unsound_is_18 b h n = CallsLaws.unsound_is_18 (listing_on b n) b (SoundStoreLaws.unsound_is_none b h)

pub listing_past_the_end_is_3 : (s : State) → well_formed s ≡ true → (n : ℕ) (answer : List ℕ) →
    4096 ≤ length answer → get_elem? (listing s.store.tree) n ≡ none →
    listing_call (encode s) n answer ≡ only_tells 3 (encode s) answer
listing_past_the_end_is_3 = CallsLaws.past_the_end_is_3

-- No listing changes the store,
pub listing_changes_no_store : (b : List ℕ) (n : ℕ) (answer : List ℕ) → (listing_call b n answer).store ≡ b
listing_changes_no_store = CallsLaws.listing_store_stays

-- and a refused `run` changes nothing: neither the store's bytes nor the answer buffer's.
pub refused_changes_nothing : (b : List ℕ) (line : Text) (answer : List ℕ) (why : Cause) → run_result b line (length answer) ≡ refused why →
    run_call b line answer ≡ record { tells = told (Err (For why)); store = b; answer = answer }
unfolding run_call
refused_changes_nothing b line answer why = CallsLaws.refused_call_stays b answer

-- Texts fit. A done command's text has at most 2294 bytes,
pub text_fits : (b : List ℕ) (line : Text) (room : ℕ) (o : Outcome (List ℕ)) → run_result b line room ≡ done o →
    (t : Text) → o.text ≡ some t → length t ≤ 2294
text_fits = CallBoundsLaws.run_text_fits

-- a listing's line at most `longest_listing_line`,
pub listing_line_fits : (b : List ℕ) (n room : ℕ) (o : Outcome (List ℕ)) → listing_result b n room ≡ done o →
    (t : Text) → o.text ≡ some t → length t ≤ longest_listing_line
listing_line_fits = CallBoundsLaws.listing_text_fits

-- and every call on buffers of any bytes keeps the lengths of both.
pub calls_keep_lengths : (b : List ℕ) (line : Text) (answer : List ℕ) →
    (length (run_call b line answer).store ≡ length b) × (length (run_call b line answer).answer ≡ length answer)
calls_keep_lengths = CallBoundsLaws.run_keeps_lengths

pub listings_keep_lengths : (b : List ℕ) (n : ℕ) (answer : List ℕ) →
    (length (listing_call b n answer).store ≡ length b) × (length (listing_call b n answer).answer ≡ length answer)
listings_keep_lengths = CallBoundsLaws.listing_keeps_lengths
