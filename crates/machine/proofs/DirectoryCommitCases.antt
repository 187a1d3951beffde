-- Document 02's `commit` of a directory, computed on both machines: its checks in their order, which of the files below are committed
-- and which are passed over, in what order, the number told, and what is left. The files met, and commits one after another, are alike
-- in both machines' texts, and so out of demand 3's sight.
use Rattle.std.specs.Prelude.{◌≡◌, refl, List, [], ◌∷◌, ◌++◌, ℕ}
use Rattle.std.proofs.Math.Option.{Option, none, some}
use Prim.Native.String.{String}
use Rattle.accounts.specs.Dominance.{BoundedRole}
use Rattle.syntax.specs.Number.{octal}
use Rattle.syntax.specs.Pieces.{bytes}
use Rattle.syntax.specs.Path.{root, ◌▹◌}
use Rattle.setup.specs.Setup.{SetupAnswer, accepted, wrong_line, setup}
use Rattle.tree.specs.declared.Kind.{Kind}
use Rattle.tree.specs.declared.Kind.TheVariants.{File, Directory}
use Rattle.tree.specs.Forest.{Forest, no_nodes, Place, insert, place_at, put, leaf}
use Rattle.tree.specs.Node.{Tag, Node}
use Rattle.shell.proofs.Cases.{Case, ◌gives◌, ◌shows◌, all_done}
use Rattle.store.specs.Initial.{initial_store}
use Rattle.machine.specs.StoreMachine.{entry_node, store}
use Rattle.machine.specs.AbstractMachine.{Entry, abstract_runs, initial_abstract}
use Rattle.machine.specs.Runs.{runs}
use Rattle.machine.proofs.Cases.{calls, roles, InStore, InAbstract, Answered, compute}

-- ---- checks: no session 12; the walk, 3, 4, 5; not readable 5, which is r and x. Nothing below it, or nothing tagged, is 0
checks : List Case
checks =
    all_done "1,mkdir,/u1/r,0400\n1,mkdir,/u1/w,0300\n1,mkdir,/u1/x,0100\n1,mkdir,/u1/d,0500\n1,create,/u1/a,0600" ++ (
    "1,commit,/u1/none" gives 12 ∷
    "1,commit,/u1/r" gives 12 ∷
    "1,commit,/u1" gives 12 ∷
    "1,login,0,oak" gives 0 ∷
    "2,commit,/u2" gives 12 ∷
    "1,commit,/u1/none" gives 3 ∷
    "1,commit,/u1/a/d" gives 4 ∷
    "1,commit,/u1/r/d" gives 5 ∷
    "1,commit,/u1/r" gives 5 ∷
    "1,commit,/u1/w" gives 5 ∷
    "1,commit,/u1/x" gives 5 ∷
    "1,commit,/rep" gives 5 ∷
    "1,commit,/u1/d" shows "0" ∷
    "1,commit,/u1" shows "0" ∷
    "1,cd,/u1" gives 0 ∷
    "1,commit,d" shows "0" ∷
    "1,up,/u1/d" gives 7 ∷ [])

checks_in_store : InStore checks
unfolding compute checks
checks_in_store = refl

checks_in_abstract : InAbstract checks
unfolding compute checks
checks_in_abstract = refl

-- ---- one after another: of two files of one entry the first in path order is committed, whichever was there first; the second is
-- stale at its turn, and what lies behind it is committed all the same
one_entry : List Case
one_entry =
    all_done "1,login,0,oak\n1,mkdir,/u1/d,0700\n1,create,/u1/d/b,0600\n1,add,/u1/d/b,/rep/e,0\n1,co,/rep/e,/u1/d/a\n1,create,/u1/d/c,0600\n1,add,/u1/d/c,/rep/f,0\n1,write,/u1/d/a,s\n1,write,/u1/d/b,t" ++ (
    "1,commit,/u1/d" shows "2" ∷
    "1,commit,/u1/d/b" gives 14 ∷
    "1,read,/u1/d/b" shows "t" ∷
    "1,co,/rep/e,/u1/e" gives 0 ∷
    "1,read,/u1/e" shows "s" ∷
    "1,commit,/u1/d" shows "2" ∷
    "1,commit,/u1/e" gives 14 ∷
    "1,commit,/u1/d/c" gives 0 ∷
    "1,commit,/u1/d/a" gives 0 ∷ [])

one_entry_in_store : InStore one_entry
unfolding compute one_entry
one_entry_in_store = refl

one_entry_in_abstract : InAbstract one_entry
unfolding compute one_entry
one_entry_in_abstract = refl

-- An entry that was deleted and added again is revised twice where tags 1 and 2 stand in that order below one directory, and once
-- where they stand in the other.
revised : List Case
revised =
    all_done "1,login,0,oak\n1,mkdir,/u1/d,0700\n1,mkdir,/u1/e,0700\n1,create,/u1/d/a,0600\n1,add,/u1/d/a,/rep/f,0\n1,co,/rep/f,/u1/d/b\n1,co,/rep/f,/u1/e/b" ++ (
    all_done "1,commit,/u1/d/b\n1,co,/rep/f,/u1/e/a\n1,write,/u1/d/a,s\n1,write,/u1/d/b,t\n1,del,/rep/f\n1,create,/u1/m,0600\n1,add,/u1/m,/rep/f,0" ++ (
    "1,commit,/u1/d" shows "2" ∷
    "1,commit,/u1/d/a" gives 14 ∷
    "1,commit,/u1/d/b" gives 0 ∷
    "1,up,/u1/d/a" gives 0 ∷
    "1,read,/u1/d/a" shows "t" ∷
    "1,del,/rep/f" gives 0 ∷
    "1,add,/u1/m,/rep/f,0" gives 0 ∷
    "1,commit,/u1/e" shows "1" ∷
    "1,commit,/u1/m" gives 14 ∷
    "1,commit,/u1/e/b" gives 0 ∷
    "1,commit,/u1/e/a" gives 14 ∷ []))

revised_answered : Answered revised
unfolding compute revised
revised_answered = (refl, refl)

-- ---- through directories that may be read: one that may not, for want of r or of x, is passed by with all below it, and what lies
-- behind it is met; its file would be committed by itself
between : List Case
between =
    all_done "1,login,0,oak\n1,mkdir,/u1/d,0700\n1,create,/u1/a,0600\n1,add,/u1/d,/rep/d,1\n1,add,/u1/a,/rep/d/a,1\n1,add,/u1/d,/rep/d/k,1\n1,add,/u1/d,/rep/d/k/l,1" ++ (
    all_done "1,add,/u1/a,/rep/d/k/l/b,1\n1,add,/u1/d,/rep/d/m,1\n1,add,/u1/d,/rep/d/m/n,1\n1,add,/u1/a,/rep/d/m/n/c,1\n1,add,/u1/a,/rep/d/z,1\n1,co,/rep/d,/u1/w" ++ (
    "1,commit,/u1/w" shows "4" ∷
    "1,chmod,/u1/w/k,0300" gives 0 ∷
    "1,commit,/u1/w" shows "3" ∷
    "1,commit,/u1/w/k" gives 5 ∷
    "1,commit,/u1/w/k/l" shows "1" ∷
    "1,commit,/u1/w/k/l/b" gives 0 ∷
    "1,chmod,/u1/w/k,0400" gives 0 ∷
    "1,commit,/u1/w" shows "3" ∷
    "1,commit,/u1/w/k/l/b" gives 5 ∷
    "1,chmod,/u1/w/k,0500" gives 0 ∷
    "1,commit,/u1/w" shows "4" ∷
    "1,commit,/u1/w/m" shows "1" ∷
    "1,commit,/u1/w/m/n/c" gives 0 ∷ []))

between_answered : Answered between
unfolding compute between
between_answered = (refl, refl)

-- ---- passed over, while others are committed: no tag, no r, a tag that leads to a directory or to nothing; for role 1 an entry that
-- it may not read, and one in `/rep`
others : List Case
others =
    all_done "1,login,0,oak\n1,mkdir,/u1/d,0700\n1,add,/u1/d,/rep/d,1\n1,create,/u1/d/a,0600\n1,create,/u1/d/b,0600\n1,add,/u1/d/b,/rep/d/b,1\n1,chmod,/u1/d/b,0200\n1,create,/u1/d/c,0600" ++ (
    all_done "1,add,/u1/d/c,/rep/d/c,1\n1,del,/rep/d/c\n1,mkdir,/u1/d/t,0700\n1,add,/u1/d/t,/rep/d/c,1\n1,create,/u1/d/e,0600\n1,add,/u1/d/e,/rep/d/e,1\n1,del,/rep/d/e" ++ (
    all_done "1,create,/u1/d/f,0600\n1,add,/u1/d/f,/rep/d/f,3\n1,create,/u1/d/g,0600\n1,add,/u1/d/g,/rep/g,1\n1,create,/u1/d/h,0600\n1,add,/u1/d/h,/rep/d/h,1\n1,login,1,ash" ++ (
    "1,commit,/u1/d" shows "1" ∷
    "1,login,0,oak" gives 0 ∷
    "1,commit,/u1/d" shows "3" ∷
    "1,commit,/u1/d/a" gives 15 ∷
    "1,commit,/u1/d/b" gives 5 ∷
    "1,commit,/u1/d/c" gives 7 ∷
    "1,commit,/u1/d/e" gives 3 ∷
    "1,chmod,/u1/d/b,0400" gives 0 ∷
    "1,commit,/u1/d" shows "4" ∷ [])))

others_answered : Answered others
unfolding compute others
others_answered = (refl, refl)

-- ---- whose: of `/` and of another's home each file that the person may read and meets; `/rep` is not read
homes : List Case
homes =
    all_done "1,login,0,oak\n2,login,0,fir\n1,create,/u1/a,0644\n1,add,/u1/a,/rep/a,0\n1,create,/u1/b,0600\n1,add,/u1/b,/rep/b,0\n1,mkdir,/u1/p,0700\n1,create,/u1/p/c,0644" ++ (
    all_done "1,add,/u1/p/c,/rep/c,0\n1,mkdir,/u1/q,0755\n1,create,/u1/q/d,0644\n1,add,/u1/q/d,/rep/d,0\n2,create,/u2/e,0600\n2,add,/u2/e,/rep/e,0" ++ (
    "2,commit,/u1" shows "2" ∷
    "2,commit,/" shows "3" ∷
    "2,commit,/u1/p" gives 5 ∷
    "1,commit,/u1/a" gives 0 ∷
    "1,commit,/u1" shows "4" ∷
    "1,commit,/" shows "4" ∷ []))

homes_answered : Answered homes
unfolding compute homes
homes_answered = (refl, refl)

-- root passes every test as a person, and the account of its session's role is judged
of_root : List Case
of_root =
    all_done "1,login,0,oak\n1,mkdir,/u1/d,0700\n1,add,/u1/d,/rep/d,1\n1,create,/u1/d/a,0600\n1,add,/u1/d/a,/rep/d/a,1\n1,create,/u1/d/b,0600\n1,add,/u1/d/b,/rep/b,1\n1,chmod,/u1/d/a,0000\n1,chmod,/u1/d,0000" ++ (
    "0,commit,/" gives 12 ∷
    "0,login,1,yew" gives 0 ∷
    "0,commit,/" shows "1" ∷
    "0,commit,/rep" shows "0" ∷
    "0,commit,/u1/d" shows "1" ∷
    "1,commit,/" shows "0" ∷ [])

of_root_answered : Answered of_root
unfolding compute of_root
of_root_answered = (refl, refl)

-- In the store root meets what it has brought below `/rep`: a working file there, and one that is the very node of its entry. It is
-- committed with the content that it has at its turn.
brought : List Case
brought =
    all_done "1,login,0,oak\n1,mkdir,/u1/d,0700\n1,add,/u1/d,/rep/d,1\n1,create,/u1/a,0600\n1,add,/u1/a,/rep/d/e,1\n1,create,/u1/b,0644\n0,login,1,yew\n0,mv,/u1/b,/rep/d/b" ++ (
    all_done "0,co,/rep/d/b,/a\n0,co,/rep/d/b,/b\n0,commit,/b\n0,chmod,/b,0644\n0,mv,/b,/rep/d/b\n0,write,/a,s\n0,mv,/a,/rep/d/a\n0,mv,/u1/a,/rep/d/f" ++ (
    "0,commit,/rep" shows "3" ∷
    "0,read,/rep/d/b" shows "s" ∷
    "0,commit,/rep/d/a" gives 14 ∷
    "0,commit,/rep/d/e" gives 15 ∷
    "0,commit,/" shows "2" ∷ []))

brought_in_store : InStore brought
unfolding compute brought
brought_in_store = refl

-- ---- a number of two digits
many : List Case
many =
    all_done "1,login,0,oak\n1,mkdir,/u1/d,0700\n1,create,/u1/a,0600\n1,add,/u1/d,/rep/d,1\n1,add,/u1/a,/rep/d/a,1\n1,add,/u1/a,/rep/d/b,1\n1,add,/u1/a,/rep/d/c,1\n1,add,/u1/a,/rep/d/d,1\n1,add,/u1/a,/rep/d/e,1" ++ (
    all_done "1,add,/u1/a,/rep/d/f,1\n1,add,/u1/a,/rep/d/g,1\n1,add,/u1/a,/rep/d/h,1\n1,add,/u1/a,/rep/d/i,1\n1,add,/u1/a,/rep/d/j,1\n1,add,/u1/a,/rep/d/k,1\n1,add,/u1/a,/rep/d/l,1\n1,co,/rep/d,/u1/c" ++ (
    "1,commit,/u1/c" shows "12" ∷
    "1,commit,/u1" shows "12" ∷ []))

many_answered : Answered many
unfolding compute many
many_answered = (refl, refl)

-- ---- what is left: the entry with the first file's content and the next revision, that file's tag with it, and the second's as it was;
-- nor is the directory's own tag, whose entry is gone, asked for or changed
leaving : List Case
leaving =
    all_done "1,login,0,oak\n1,mkdir,/u1/d,0700\n1,create,/u1/d/b,0600\n1,add,/u1/d/b,/rep/e,1\n1,add,/u1/d,/rep/d,1\n1,co,/rep/e,/u1/d/a\n1,write,/u1/d/a,s\n1,write,/u1/d/b,t\n1,del,/rep/d" ++ (
    "1,commit,/u1/d" shows "1" ∷ [])

-- a working file or directory of person 1's
working : Kind → ℕ → String → ℕ → String → Node
working kind mode e revision content =
    let tag : Tag = record { path = record { folder = root; name = bytes e }; revision = revision } in
    record { kind = kind; owner = record { 0 = 1 }; group = record { 0 = 1 }; mode = mode; revision = 0; tag = some tag; content = bytes content }

committed_directory : Place Node
committed_directory =
    put (bytes "a") (leaf (working File (octal 0 6 0 0) "e" 2 "s"))
    (put (bytes "b") (leaf (working File (octal 0 6 0 0) "e" 1 "t"))
    (leaf (working Directory (octal 0 7 0 0) "d" 1 "")))

r₁ : BoundedRole
r₁ = record { role = record { 0 = 1 }; bound = refl }

-- what the directory and the entries are in the store, and in the abstract machine
in_store : SetupAnswer → List Case → Option (Place Node) × Option (Place Node)
in_store (wrong_line n) cases = (none, none)
in_store (accepted u) cases =
    let t = (runs store u (initial_store u) (calls 4096 cases)).state.tree in
    (place_at t (root ▹ bytes "u1" ▹ bytes "d"), place_at t (root ▹ bytes "rep" ▹ bytes "e"))

in_abstract : SetupAnswer → List Case → Option (Place Node) × Forest Entry
in_abstract (wrong_line n) cases = (none, no_nodes)
in_abstract (accepted u) cases =
    let h = (abstract_runs u (initial_abstract u) (calls 4096 cases)).state in
    (place_at h.workspace (root ▹ bytes "u1" ▹ bytes "d"), h.entries)

left_in_store : in_store (setup roles) leaving ≡ (some committed_directory, some (leaf (entry_node File r₁ 2 (bytes "s"))))
unfolding compute place_at leaving working committed_directory r₁ in_store
left_in_store = refl

left_in_abstract : in_abstract (setup roles) leaving ≡ (some committed_directory, insert (bytes "e") (leaf (record { kind = File; role = r₁; revision = 2; content = bytes "s" })) no_nodes)
unfolding compute place_at leaving working committed_directory r₁ in_abstract
left_in_abstract = refl

leaving_answered : Answered leaving
unfolding compute leaving
leaving_answered = (refl, refl)
