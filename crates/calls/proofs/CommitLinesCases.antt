-- The lines that commit, computed; and a store that meets what `directory_commit_is_commits_on_calls` asks.
use Rattle.std.specs.Prelude.{◌≡◌, refl, List, [], ◌∷◌, map, true, ℕ, ◌≤◌, length, replicate}
use Rattle.std.proofs.Common.{ap}
use Prim.Native.String.{String}
use Rattle.syntax.specs.Pieces.{bytes, newline, pieces}
use Rattle.syntax.specs.Path.{root, ◌▹◌}
use Rattle.setup.specs.Setup.{Setup, SetupAnswer, accepted, wrong_line, setup, no_setup, is_setup}
use Rattle.setup.proofs.SetupLaws.{accepted_is_setup}
use Rattle.shell.specs.Replies.{told, answer_of}
use Rattle.store.specs.State.{State, state_of, well_formed}
use Rattle.store.specs.Initial.{initial_store}
use Rattle.store.proofs.InitialLaws.{initial_well_formed}
use Rattle.store.specs.StoreBytes.{encode}
use Rattle.store.proofs.StoreBytesLaws.{decode_encode}
use Rattle.machine.specs.StoreMachine.{store}
use Rattle.machine.specs.Runs.{runs}
use Rattle.machine.proofs.MachineKeepingLaws.{runs_keep}
use Rattle.calls.specs.Transcript.{call_of}
use Rattle.calls.specs.Calls.{run_call}
use Rattle.calls.specs.CallLists.{Request, run_calls, call_for, response, responses_to}
use Rattle.calls.proofs.CallListsLaws.{run_calls_on_state}
use Rattle.calls.specs.CommitLines.{commit_line, commit_requests, how_many_done}
use Rattle.calls.proofs.CallTheorems.{directory_commit_is_commits_on_calls}
use Rattle.calls.specs.Compute.{compute}

-- ---- lines

-- of person 1's directory `/u1/d`, and root's of `/`
one_line : commit_line (record { 0 = 1 }) (root ▹ bytes "u1" ▹ bytes "d") ≡ bytes "1,commit,/u1/d"
unfolding compute commit_line
one_line = refl

roots_line : commit_line (record { 0 = 0 }) root ≡ bytes "0,commit,/"
unfolding compute commit_line
roots_line = refl

-- ---- a store

taken : SetupAnswer → Setup
taken (accepted u) = u
taken (wrong_line n) = no_setup

one_person : Setup
one_person = taken (setup (bytes "p,1,1\nl,1,0,oak\nend\n"))

-- person 1 in a session, with two working files of one entry in `/u1/d`
two_files : State
two_files =
    let lines = bytes "1,login,0,oak\n1,mkdir,/u1/d,0700\n1,create,/u1/d/b,0600\n1,add,/u1/d/b,/rep/e,0\n1,co,/rep/e,/u1/d/a" in
    state_of one_person (runs store one_person (initial_store one_person) (map call_of (pieces newline lines))).state

in_range : is_setup one_person ≡ true
unfolding compute one_person taken
in_range = accepted_is_setup (bytes "p,1,1\nl,1,0,oak\nend\n") one_person refl

two_files_formed : well_formed two_files ≡ true
unfolding two_files
two_files_formed = runs_keep one_person in_range (initial_store one_person) (initial_well_formed one_person in_range) _

-- a line with an answer buffer
request : List ℕ → String → Request
request answer line = record { line = bytes line; answer = answer }

-- on its bytes the directory's line leaves what the lines of the two files leave
two_lines : (answer : List ℕ) → 4096 ≤ length answer →
    (run_call (encode two_files) (bytes "1,commit,/u1/d") answer).store
    ≡ (run_calls (encode two_files) (request answer "1,commit,/u1/d/a" ∷ (request answer "1,commit,/u1/d/b" ∷ []))).store
unfolding compute commit_line commit_requests taken one_person two_files request
two_lines answer roomy =
    ap (λ r. r.store) (directory_commit_is_commits_on_calls (encode two_files) two_files (decode_encode two_files two_files_formed) (record { 0 = 1 }) _ refl
    (root ▹ bytes "u1" ▹ bytes "d") _ _ refl refl refl refl answer roomy)

-- of which the first is done, and the second is stale at its turn
one_of_two : how_many_done (run_calls (encode two_files) (request (replicate 4096 0) "1,commit,/u1/d/a" ∷ (request (replicate 4096 0) "1,commit,/u1/d/b" ∷ []))).responses ≡ 1
unfolding compute how_many_done call_for response responses_to told answer_of taken one_person two_files request
one_of_two = ap (λ r. how_many_done r.responses) (run_calls_on_state one_person in_range two_files.store two_files_formed _)
