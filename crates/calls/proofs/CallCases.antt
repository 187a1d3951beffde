-- Computed cases that no vector of the program reaches: calls that are refused before the command, an empty header, and the
-- last revision.
use Rattle.std.specs.Prelude.{◌≡◌, refl, List, [], map, ◌++◌, ℕ, replicate}
use Rattle.buffers.specs.Text.{Text}
use Rattle.syntax.specs.Pieces.{bytes, newline, pieces}
use Rattle.syntax.specs.Path.{root, ◌▹◌, EntryPath, rep}
use Rattle.setup.specs.Setup.{SetupAnswer, accepted, wrong_line, setup, no_setup}
use Rattle.tree.specs.Forest.{update, alter}
use Rattle.tree.specs.Node.{set_revision, set_tag}
use Rattle.store.specs.State.{Store}
use Rattle.store.specs.Initial.{initial_store}
use Rattle.store.specs.SetupHeader.{setup_header}
use Rattle.machine.specs.StoreMachine.{store}
use Rattle.machine.specs.Runs.{runs}
use Rattle.listing.specs.Listing.{listing}
use Rattle.calls.specs.Transcript.{reply_line, call_of}
use Rattle.calls.specs.Calls.{setup_call, only_tells, run_call, listing_call}
use Rattle.calls.specs.Compute.{compute, compute_calls}
use Rattle.store.specs.HeaderLayout.{header_width}

-- ---- refused before the command

-- an empty buffer is no store: 20 with an answer buffer of 4,095 bytes, 18 with one of 4,096
short_answer : run_call [] (bytes "1,logout") (replicate 4095 0) ≡ only_tells 20 [] (replicate 4095 0)
unfolding compute compute_calls
short_answer = refl

no_store : run_call [] (bytes "1,logout") (replicate 4096 0) ≡ only_tells 18 [] (replicate 4096 0)
unfolding compute compute_calls
no_store = refl

short_answer_listed : listing_call [] 0 (replicate 4095 0) ≡ only_tells 20 [] (replicate 4095 0)
unfolding compute compute_calls
short_answer_listed = refl

no_store_listed : listing_call [] 0 (replicate 4096 0) ≡ only_tells 18 [] (replicate 4096 0)
unfolding compute compute_calls
no_store_listed = refl

no_store_set_up : setup_call [] (bytes "end\n") ≡ record { tells = record { number = 18; values = [] }; store = [] }
unfolding compute compute_calls
no_store_set_up = refl

-- ---- bytes

-- while nothing of a setup has been read the header is zero
empty_header : setup_header no_setup ≡ replicate header_width 0
unfolding compute compute_calls setup_header
empty_header = refl

-- ---- the last revision

-- person 1, logged in as role 0, with a working file of content `52` that was filed as `/rep/a` with content `51`
filed_text : Text
filed_text = bytes "1,login,0,oak\n1,create,/u1/a,0600\n1,write,/u1/a,51\n1,add,/u1/a,/rep/a,0\n1,write,/u1/a,52"

-- the same with the entry's revision and the file's tag set
at_revision : ℕ → Store → Store
at_revision v s =
    let e : EntryPath = record { folder = root; name = bytes "a" } in
    let entry = update (root ▹ rep ▹ bytes "a") (alter (set_revision v)) in
    let tag = update (root ▹ bytes "u1" ▹ bytes "a") (alter (set_tag (record { path = e; revision = v }))) in
    record { tree = tag (entry s.tree); registry = s.registry }

-- the answers to two commits from there, then the listing
two_commits : ℕ → SetupAnswer → List Text
two_commits v (wrong_line n) = []
two_commits v (accepted u) =
    let s = at_revision v (runs store u (initial_store u) (map call_of (pieces newline filed_text))).state in
    let ran = runs store u s (map call_of (pieces newline (bytes "1,commit,/u1/a\n1,commit,/u1/a"))) in
    map reply_line ran.replies ++ listing ran.state.tree

committed : ℕ → List Text
committed v = two_commits v (setup (bytes "p,1,1\nl,1,0,oak\nend\n"))

after_9998 : Text
after_9998 = bytes "ok\nno,16\n/,d,0,0,0755,0,-,0,\n/rep,d,16,24,0750,0,-,0,\n/rep/a,f,16,16,0440,9999,-,0,52\n/u1,d,1,1,0755,0,-,0,\n/u1/a,f,1,1,0600,0,/rep/a,9999,52"

-- from 9998 one commit is done, and the next finds the revisions spent
from_9998 : committed 9998 ≡ pieces newline after_9998
unfolding compute filed_text at_revision two_commits committed after_9998
from_9998 = refl

after_9999 : Text
after_9999 = bytes "no,16\nno,16\n/,d,0,0,0755,0,-,0,\n/rep,d,16,24,0750,0,-,0,\n/rep/a,f,16,16,0440,9999,-,0,51\n/u1,d,1,1,0755,0,-,0,\n/u1/a,f,1,1,0600,0,/rep/a,9999,52"

-- from 9999 none is
from_9999 : committed 9999 ≡ pieces newline after_9999
unfolding compute filed_text at_revision two_commits committed after_9999
from_9999 = refl
