-- Document 01's commands computed on the store and on the abstract machine: its wrong turns, what comes before a command,
-- sessions, which of two failing checks decides, the last node and the last revision. What is alike in both machines' texts,
-- and so out of demand 3's sight, is bound here, in RepositoryCases, DirectoryCases, DirectoryCommitCases and WithheldCases.
use Rattle.std.specs.Prelude.{◌≡◌, refl, List, [], ◌∷◌, ◌++◌, map, ℕ}
use Rattle.std.proofs.Math.Option.{none}
use Prim.Native.String.{String}
use Rattle.buffers.specs.Text.{Text}
use Rattle.syntax.specs.Pieces.{bytes}
use Rattle.syntax.specs.Path.{root, ◌▹◌}
use Rattle.setup.specs.Setup.{Setup, SetupAnswer, accepted, wrong_line, setup}
use Rattle.tree.specs.Causes.{number}
use Rattle.tree.specs.Forest.{at, update, alter}
use Rattle.tree.specs.Node.{set_revision}
use Rattle.shell.specs.Replies.{Reply, ok}
use Rattle.shell.proofs.Cases.{Case, ◌gives◌, ◌shows◌, all_done, answered}
use Rattle.store.specs.State.{Store}
use Rattle.store.specs.Initial.{initial_store}
use Rattle.machine.specs.StoreMachine.{store}
use Rattle.machine.specs.AbstractMachine.{Entry, Abstract, on_entries, abstract_runs, initial_abstract}
use Rattle.machine.specs.Runs.{Call, Ran, runs}
use Rattle.machine.specs.Compute.{compute as compute_machine}

-- the calls of the lines, with answer buffers of so many bytes
unfoldable pub calls : ℕ → List Case → List Call
calls room cases = map (λ c. record { line = c.line; room = room }) cases

-- the lines with the replies to them
unfoldable pub replied : List Case → List Reply → List Case
replied [] replies = []
replied (c ∷ cs) [] = []
replied (c ∷ cs) (r ∷ rs) = answered c.line r ∷ replied cs rs

-- the same of a machine, from a state that the setup gives
unfoldable pub replies : {S : Type 0} → (Setup → S → List Call → Ran S) → (Setup → S) → ℕ → SetupAnswer → List Case → List Case
replies run from room (wrong_line n) cases = []
replies run from room (accepted u) cases = replied cases (run u (from u) (calls room cases)).replies

-- persons 1 and 2, both in group 3; role 0 above 1 and 2, role 2 above 3
unfoldable pub roles : Text
roles = bytes "p,1,1\np,2,2\ng,1,3\ng,2,3\nr,0,1\nr,0,2\nr,2,3\nl,0,1,yew\nl,1,0,oak\nl,1,1,ash\nl,2,0,fir\nend\n"

-- the store, and the abstract machine, answers so after that setup
abbrev pub InStore : List Case → Type 0
InStore cases = replies (runs store) initial_store 4096 (setup roles) cases ≡ cases

abbrev pub InAbstract : List Case → Type 0
InAbstract cases = replies abstract_runs initial_abstract 4096 (setup roles) cases ≡ cases

-- both do, from the states
abbrev AnsweredFrom : (Setup → Store) → (Setup → Abstract) → ℕ → List Case → Type 0
AnsweredFrom s h room cases = (replies (runs store) s room (setup roles) cases ≡ cases) × (replies abstract_runs h room (setup roles) cases ≡ cases)

abbrev pub Answered : List Case → Type 0
Answered = AnsweredFrom initial_store initial_abstract 4096

unfoldable pub compute : Unit {0}
unfolding compute_machine number ◌gives◌ ◌shows◌ all_done answered calls replied replies roles
compute = tt

-- ---- document 01's wrong turns

-- An owner whom the owner's digit refuses does not fall through to the group's. A missing entry behind a directory that may
-- not be passed is 5, not 3. Role 0 dominates 3 by a chain.
by_whom : List Case
by_whom =
    "1,login,0,oak" gives 0 ∷
    "1,create,/u1/o,0040" gives 0 ∷
    "1,read,/u1/o" gives 5 ∷
    "2,read,/rep/none" gives 5 ∷
    "1,mkdir,/u1/d,0700" gives 0 ∷
    "1,add,/u1/d,/rep/d,1" gives 0 ∷
    "1,create,/u1/a,0600" gives 0 ∷
    "1,add,/u1/a,/rep/d/a,3" gives 0 ∷
    "1,add,/u1/d,/rep/s,2" gives 0 ∷
    "1,login,1,ash" gives 0 ∷
    "1,co,/rep/s/none,/u1/c" gives 5 ∷ []

wrong_turns : Answered by_whom
unfolding compute by_whom
wrong_turns = (refl, refl)

-- A commit wants the account's r on the entry and its w on the entry's directory: `/rep/d/a` may not be read by role 1, which
-- writes in `/rep/d`; `/rep/b` stands in `/rep`, where role 0 alone writes.
commits : List Case
commits =
    all_done "1,login,0,oak\n1,mkdir,/u1/d,0700\n1,add,/u1/d,/rep/d,1\n1,create,/u1/a,0600\n1,add,/u1/a,/rep/d/a,3\n1,create,/u1/b,0600\n1,add,/u1/b,/rep/b,1\n1,login,1,ash" ++ (
    "1,commit,/u1/a" gives 5 ∷
    "1,commit,/u1/b" gives 5 ∷
    "1,login,0,oak" gives 0 ∷
    "1,commit,/u1/a" gives 0 ∷
    "1,commit,/u1/b" gives 0 ∷ [])

commit_by_the_account : Answered commits
unfolding compute commits
commit_by_the_account = (refl, refl)

-- ---- before the command, and sessions

-- an answer buffer of 4,095 bytes is 20 before all; no listed form 1 comes before an unknown caller 2, which comes before 12
unlisted : List Case
unlisted =
    "9,nothing" gives 20 ∷
    "9,logout" gives 20 ∷
    "1,logout" gives 20 ∷ []

answer_too_short : AnsweredFrom initial_store initial_abstract 4095 unlisted
unfolding compute unlisted
answer_too_short = (refl, refl)

unknown : List Case
unknown =
    "9,nothing" gives 1 ∷
    "9,add,/u9,/rep,0" gives 1 ∷
    "9,logout" gives 2 ∷
    "9,del,/rep/a" gives 2 ∷
    "1,del,/rep/a" gives 12 ∷ []

form_before_caller : Answered unknown
unfolding compute unknown
form_before_caller = (refl, refl)

-- without a session 12 comes first. A login needs a grant of just these three, and a refused one leaves the session
sessions : List Case
sessions =
    "1,add,/none,/rep/a,0" gives 12 ∷
    "1,co,/rep/a,/" gives 12 ∷
    "1,commit,/none" gives 12 ∷
    "1,up,/none" gives 12 ∷
    "1,del,/rep/a" gives 12 ∷
    "1,login,0,ash" gives 13 ∷
    "1,login,2,oak" gives 13 ∷
    "2,login,0,oak" gives 13 ∷
    "1,del,/rep/a" gives 12 ∷
    "1,login,0,oak" gives 0 ∷
    "1,del,/rep/a" gives 3 ∷
    "2,del,/rep/a" gives 12 ∷
    "1,login,0,elm" gives 13 ∷
    "1,create,/u1/a,0600" gives 0 ∷
    "1,add,/u1/a,/rep/a,0" gives 0 ∷
    "1,login,1,ash" gives 0 ∷
    "1,add,/u1/a,/rep/b,1" gives 5 ∷
    "1,login,0,ash" gives 13 ∷
    "1,del,/rep/a" gives 5 ∷
    "1,logout" gives 0 ∷
    "1,del,/rep/a" gives 12 ∷
    "1,logout" gives 0 ∷ []

sessions_answered : Answered sessions
unfolding compute sessions
sessions_answered = (refl, refl)

-- of two checks that fail the first in document 01's order decides: an `add` where an entry stands is 6 before 5; a stale
-- `commit` and a `del` of a directory that is not empty are 5 to whom may not write, then 14 and 8
orders : List Case
orders =
    all_done "1,login,0,oak\n1,mkdir,/u1/d,0700\n1,add,/u1/d,/rep/d,1\n1,create,/u1/b,0600\n1,add,/u1/b,/rep/d/b,1\n1,add,/u1/b,/rep/b,1\n1,co,/rep/b,/u1/c\n1,commit,/u1/b\n1,login,1,ash" ++ (
    "1,add,/u1/d,/rep/d,1" gives 6 ∷
    "1,commit,/u1/c" gives 5 ∷
    "1,del,/rep/d" gives 5 ∷
    "1,login,0,oak" gives 0 ∷
    "1,commit,/u1/c" gives 14 ∷
    "1,del,/rep/d" gives 8 ∷ [])

first_check_decides : Answered orders
unfolding compute orders
first_check_decides = (refl, refl)

-- whether a `commit` is stale is told to no one who may not read the entry: 5 comes before 14, in the store and in the abstract machine
unreadable : List Case
unreadable =
    all_done "1,login,0,oak\n1,mkdir,/u1/d,0700\n1,add,/u1/d,/rep/d,1\n1,create,/u1/a,0600\n1,add,/u1/a,/rep/d/a,2\n1,co,/rep/d/a,/u1/c\n1,commit,/u1/a\n1,login,1,ash" ++ (
    "1,commit,/u1/c" gives 5 ∷
    "1,commit,/u1/a" gives 5 ∷
    "1,login,0,oak" gives 0 ∷
    "1,commit,/u1/c" gives 14 ∷ [])

unreadable_in_store : InStore unreadable
unfolding compute unreadable
unreadable_in_store = refl

unreadable_in_abstract : InAbstract unreadable
unfolding compute unreadable
unreadable_in_abstract = refl

-- a line for each of the bytes, which stands between the two parts; all are done without a text
for_each : String → String → String → List Case
for_each l names r = map (λ b. answered (bytes l ++ (b ∷ bytes r)) (ok none)) (bytes names)

-- With 10 nodes, 20 entries more, 10 copies of these with their directory, and 16 of one file there are 256. 10 comes last; what is
-- taken out makes room.
filling : List Case
filling =
    all_done "1,login,0,oak\n1,mkdir,/u1/d,0700\n1,mkdir,/u1/d/e,0700\n1,mkdir,/u1/d/e/f,0700\n1,mkdir,/u1/d/e/f/g,0700" ++ (
    all_done "1,create,/u1/a,0600\n1,add,/u1/d,/rep/d,1" ++ (
    for_each "1,add,/u1/a,/rep/d/" "abcdefghijklmnopqrst" ",1" ++ (
    for_each "1,co,/rep/d,/u1/c" "0123456789" "" ++ (
    for_each "1,co,/rep/d/a,/u1/d/e/f/g/" "abcdefghijklmnop" "" ++ (
    "1,add,/u1/a,/rep/b,1" gives 10 ∷
    "1,add,/u1/a,/rep/d/a,1" gives 6 ∷
    "1,co,/rep/d/a,/u1/z" gives 10 ∷
    "1,co,/rep/d,/u1/a/z" gives 4 ∷
    "1,co,/rep/none,/u1/z" gives 3 ∷
    "1,co,/rep/d,/u1/d/e/f/z" gives 10 ∷
    "1,co,/rep/d,/u1/d/e/f/g/z" gives 19 ∷
    "1,create,/u1/z,0600" gives 10 ∷
    "2,create,/u1/z,0600" gives 5 ∷
    "1,login,1,ash" gives 0 ∷
    "1,add,/u1/a,/rep/b,1" gives 5 ∷
    "1,del,/rep/d/a" gives 0 ∷
    "1,add,/u1/a,/rep/d/a,1" gives 0 ∷
    "1,add,/u1/a,/rep/d/z,1" gives 10 ∷
    "1,del,/rep/d/a" gives 0 ∷
    "1,co,/rep/d/b,/u1/z" gives 0 ∷
    "1,co,/rep/d/b,/u1/y" gives 10 ∷
    "1,rm,/u1/z" gives 0 ∷
    "1,create,/u1/y,0600" gives 0 ∷ [])))))

filling_answered : Answered filling
unfolding compute for_each filling
filling_answered = (refl, refl)

-- With 12 nodes, 20 entries more, 10 copies of these with their directory, and 14 of one file there are 256. 10 comes last; what is
-- taken out makes room. `co` counts what it copies: of `/rep/k` with the entry in it, which role 1 may not read, one node.
filling_unread : List Case
filling_unread =
    all_done "1,login,0,oak\n1,mkdir,/u1/d,0700\n1,mkdir,/u1/d/e,0700\n1,mkdir,/u1/d/e/f,0700\n1,mkdir,/u1/d/e/f/g,0700" ++ (
    all_done "1,create,/u1/a,0600\n1,add,/u1/d,/rep/d,1\n1,add,/u1/d,/rep/k,1\n1,add,/u1/a,/rep/k/a,3" ++ (
    for_each "1,add,/u1/a,/rep/d/" "abcdefghijklmnopqrst" ",1" ++ (
    for_each "1,co,/rep/d,/u1/c" "0123456789" "" ++ (
    for_each "1,co,/rep/d/a,/u1/d/e/f/g/" "abcdefghijklmn" "" ++ (
    "1,add,/u1/a,/rep/b,1" gives 10 ∷
    "1,add,/u1/a,/rep/d/a,1" gives 6 ∷
    "1,co,/rep/d/a,/u1/z" gives 10 ∷
    "1,co,/rep/d,/u1/a/z" gives 4 ∷
    "1,co,/rep/none,/u1/z" gives 3 ∷
    "1,co,/rep/d,/u1/d/e/f/z" gives 10 ∷
    "1,co,/rep/d,/u1/d/e/f/g/z" gives 19 ∷
    "1,create,/u1/z,0600" gives 10 ∷
    "2,create,/u1/z,0600" gives 5 ∷
    "1,login,1,ash" gives 0 ∷
    "1,add,/u1/a,/rep/b,1" gives 5 ∷
    "1,del,/rep/d/a" gives 0 ∷
    "1,add,/u1/a,/rep/d/a,1" gives 0 ∷
    "1,add,/u1/a,/rep/d/z,1" gives 10 ∷
    "1,del,/rep/d/a" gives 0 ∷
    "1,co,/rep/d/b,/u1/z" gives 0 ∷
    "1,co,/rep/d/b,/u1/y" gives 10 ∷
    "1,rm,/u1/z" gives 0 ∷
    "1,create,/u1/y,0600" gives 0 ∷
    "1,co,/rep/k,/u1/z" gives 10 ∷
    "1,rm,/u1/y" gives 0 ∷
    "1,co,/rep/k,/u1/z" gives 0 ∷
    "1,create,/u1/y,0600" gives 10 ∷ [])))))

filling_unread_in_store : InStore filling_unread
unfolding compute for_each filling_unread
filling_unread_in_store = refl

filling_unread_in_abstract : InAbstract filling_unread
unfolding compute for_each filling_unread
filling_unread_in_abstract = refl

-- ---- the last revision

-- `/rep/a` is filed from `/u1/a`, and has the revision v
filed : List Case
filed = all_done "1,login,0,oak\n1,create,/u1/a,0600\n1,add,/u1/a,/rep/a,0"

store_with : ℕ → Setup → Store
store_with v u =
    let s = (runs store u (initial_store u) (calls 4096 filed)).state in
    record { tree = update (root ▹ bytes "rep" ▹ bytes "a") (alter (set_revision v)) s.tree; registry = s.registry }

with_revision : ℕ → Entry → Entry
with_revision v x = record { kind = x.kind; role = x.role; revision = v; content = x.content }

abstract_with : ℕ → Setup → Abstract
abstract_with v u = on_entries (at (bytes "a") (alter (with_revision v))) (abstract_runs u (initial_abstract u) (calls 4096 filed)).state

-- a commit makes 9999 of 9998 and nothing of 9999; 14 comes before 16, and 5 before both
last : List Case
last =
    "1,co,/rep/a,/u1/b" gives 0 ∷
    "1,commit,/u1/b" gives 0 ∷
    "1,commit,/u1/a" gives 14 ∷
    "1,commit,/u1/b" gives 16 ∷
    "1,up,/u1/a" gives 0 ∷
    "1,commit,/u1/a" gives 16 ∷
    "1,login,1,ash" gives 0 ∷
    "1,commit,/u1/a" gives 5 ∷ []

last_answered : AnsweredFrom (store_with 9998) (abstract_with 9998) 4096 last
unfolding compute filed store_with with_revision abstract_with last
last_answered = (refl, refl)
