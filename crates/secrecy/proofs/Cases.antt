-- Two stores that differ in a secret, and a junior's list of calls, computed: the theorems' hypotheses hold of them, and what the
-- list is answered.
--
-- Person 1 files `/rep/d/a` for role 2, commits it, and checks it out into `/u1/c`, which all may read. Before the second store there
-- is one commit more. Person 2, as role 1, may pass `/rep/d` and write in it.
use Rattle.std.specs.Prelude.{◌≡◌, refl, List, [], ◌∷◌, ◌++◌, true, cond, ℕ}
use Rattle.std.proofs.Common.{sym, ◌∙◌, ap, arith}
use Rattle.std.proofs.Math.Option.{Option, none, some}
use Prim.Native.String.{String}
use Rattle.buffers.specs.Text.{Text, every}
use Rattle.accounts.specs.Dominance.{BoundedRole}
use Rattle.syntax.specs.Pieces.{bytes}
use Rattle.syntax.specs.Number.{octal}
use Rattle.syntax.specs.Path.{Name, root, ◌▹◌, EntryPath, rep, entry_location, in_rep}
use Rattle.setup.specs.Setup.{Setup, SetupAnswer, accepted, wrong_line, setup, no_setup}
use Rattle.tree.specs.declared.Kind.{Kind}
use Rattle.tree.specs.declared.Kind.TheVariants.{File, Directory}
use Rattle.tree.specs.Forest.{Forest, nil, node, place_at}
use Rattle.tree.specs.Node.{is_directory, Tag, Node}
use Rattle.shell.proofs.Cases.{Case, ◌gives◌, ◌shows◌, all_done}
use Rattle.store.specs.State.{Store, state_of}
use Rattle.store.specs.Initial.{top_node, rep_node, initial_registry, initial_store}
use Rattle.store.specs.StoreBytes.{encode}
use Rattle.machine.specs.StoreMachine.{entry_node, store}
use Rattle.machine.specs.Runs.{Call, runs, of_root, root's}
use Rattle.machine.specs.Observed.{without_root, ReachedWithoutRoot}
use Rattle.machine.specs.EntryChanges.{node_of, FiledAs}
use Rattle.machine.proofs.MachineKeepingLaws.{reached_decodes}
use Rattle.machine.proofs.Cases.{calls, replied, compute}
use Rattle.secrecy.specs.Redacted.{is_secret, redacted_node, redacted, DifferOnlyIn, is_senior, without_seniors, admits_senior, is_junior's, by_junior, by_juniors}
use Rattle.secrecy.proofs.SecrecyTheorems.{junior_learns_nothing}

-- ---- two stores

-- role 0 above 1 and 2
text : Text
text = bytes "p,1,1\np,2,2\nr,0,1\nr,0,2\nl,1,0,oak\nl,2,1,elm\nend\n"

taken_from : SetupAnswer → Setup
taken_from (accepted u) = u
taken_from (wrong_line n) = no_setup

u : Setup
u = taken_from (setup text)

r : BoundedRole
r = record { role = record { 0 = 2 }; bound = refl }

r₁ : BoundedRole
r₁ = record { role = record { 0 = 1 }; bound = refl }

filed : List Case
filed = all_done "1,login,0,oak\n1,mkdir,/u1/d,0700\n1,add,/u1/d,/rep/d,1\n1,create,/u1/b,0600\n1,add,/u1/b,/rep/d/b,1\n1,create,/u1/a,0600\n1,add,/u1/a,/rep/d/a,2\n1,write,/u1/a,51\n1,commit,/u1/a\n1,co,/rep/d/a,/u1/c\n1,chmod,/u1/c,0644"

left : List Case
left = all_done "1,rm,/u1/a\n1,logout"

-- the calls that lead to the first store, and to the second
once : List Call
once = calls 4096 (filed ++ left)

again : List Call
again = calls 4096 (filed ++ (all_done "1,write,/u1/a,52 53\n1,commit,/u1/a" ++ left))

s : Store
s = (runs store u (initial_store u) once).state

s' : Store
s' = (runs store u (initial_store u) again).state

unfoldable secrets : Unit {0}
unfolding compute is_secret redacted_node redacted is_senior without_seniors admits_senior is_junior's by_junior by_juniors every of_root root's without_root place_at node_of entry_location in_rep text taken_from u r filed left once again s s'
secrets = tt

reached : ReachedWithoutRoot u s
unfolding secrets
reached = record { reached = record { text = text; taken = refl; calls = once; state = refl }; rootless = refl }

reached' : ReachedWithoutRoot u s'
unfolding secrets
reached' = record { reached = record { text = text; taken = refl; calls = again; state = refl }; rootless = refl }

-- the entry has another revision and another content
entry_a : EntryPath
entry_a = record { folder = root ▹ bytes "d"; name = bytes "a" }

differ : FiledAs s entry_a File r 2 (bytes "51") × FiledAs s' entry_a File r 3 (bytes "52 53")
unfolding secrets entry_a
differ = (refl, refl)

revision_of : Option Node → ℕ
revision_of none = 0
revision_of (some n) = n.revision

two_stores : s ≡ s' → ⊥
unfolding revision_of entry_node
two_stores e =
    let unequal : ◌≡◌ {A = ℕ} 2 3 = ap revision_of (sym differ.0 ∙ ap (λ x. node_of x entry_a) e ∙ differ.1) in
    omega (arith, unequal)

-- a working file or directory of person 1's
working : Kind → ℕ → Name → ℕ → Text → Node
working kind mode n revision content =
    let tag : Tag = record { path = record { folder = cond (is_directory kind) root (root ▹ bytes "d"); name = n }; revision = revision } in
    record { kind = kind; owner = record { 0 = 1 }; group = record { 0 = 1 }; mode = mode; revision = 0; tag = some tag; content = content }

home : ℕ → Node
home v = record { kind = Directory; owner = record { 0 = v }; group = record { 0 = v }; mode = octal 0 7 5 5; revision = 0; tag = none; content = [] }

-- what both are once redacted
entries : Forest Node
entries = node (bytes "a") (entry_node File r 0 []) nil (node (bytes "b") (entry_node File r₁ 1 []) nil nil)

files : Forest Node
files =
    node (bytes "b") (working File (octal 0 6 0 0) (bytes "b") 1 []) nil (
    node (bytes "c") (working File (octal 0 6 4 4) (bytes "a") 2 (bytes "51")) nil (
    node (bytes "d") (working Directory (octal 0 7 0 0) (bytes "d") 1 []) nil nil))

both : Store
both = record {
  tree = record {
    here = top_node;
    below = node rep rep_node (node (bytes "d") (entry_node Directory r₁ 1 []) entries nil) (node (bytes "u1") (home 1) files (node (bytes "u2") (home 2) nil nil));
  };
  registry = initial_registry u;
}

-- and nothing else
first_redacted : redacted r s ≡ both
unfolding secrets working home entries files both r₁
first_redacted = refl

second_redacted : redacted r s' ≡ both
unfolding secrets working home entries files both r₁
second_redacted = refl

same : redacted r s ≡ redacted r s'
same = first_redacted ∙ sym second_redacted

no_senior : without_seniors u r s.registry.sessions ≡ true
unfolding secrets
no_senior = refl

-- ---- a junior's list

-- what may not be read is refused or skipped; a `commit` of the working file that is left is refused for the entry, before it is told
-- whether it is stale, which it is in the second store alone; what is the junior's is done. A directory with that file is committed
-- without it, and so the number is the same in both
junior : List Case
junior =
    "2,del,/rep/d/a" gives 12 ∷
    "2,login,1,elm" gives 0 ∷
    "2,read,/rep/d/a" gives 5 ∷
    "2,co,/rep/d/a,/u2/a" gives 5 ∷
    "2,co,/rep/d,/u2/w" gives 0 ∷
    "2,read,/u2/w" shows "b" ∷
    "2,cd,/rep/d" gives 5 ∷
    "2,cd,/u1" gives 0 ∷
    "2,read,c" shows "51" ∷
    "2,commit,c" gives 5 ∷
    "2,del,/rep/d/a" gives 5 ∷
    "2,write,/u2/w/b,t" gives 0 ∷
    "2,commit,/u2/w/b" gives 0 ∷
    "2,commit,/u1" shows "0" ∷
    "2,commit,/u2/w" shows "1" ∷
    "2,commit,/" shows "1" ∷
    "2,nothing" gives 1 ∷ []

by_junior_alone : by_juniors u r (calls 4096 junior) ≡ true
unfolding secrets junior
by_junior_alone = refl

-- so it is answered in the first store
answers : replied junior (runs store u s (calls 4096 junior)).replies ≡ junior
unfolding secrets junior
answers = refl

-- and by the theorem in the second
learns_nothing : (runs store u s (calls 4096 junior)).replies ≡ (runs store u s' (calls 4096 junior)).replies
learns_nothing = (junior_learns_nothing u r s s' reached reached' same no_senior (calls 4096 junior) by_junior_alone).0

answers' : replied junior (runs store u s' (calls 4096 junior)).replies ≡ junior
answers' = ap (replied junior) (sym learns_nothing) ∙ answers

-- a senior who logs in commits another number of files in each, and reads another text
senior : String → String → List Case
senior count shown =
    "1,login,0,oak" gives 0 ∷
    "1,commit,/u1" shows count ∷
    "1,up,/u1/c" gives 0 ∷
    "1,read,/u1/c" shows shown ∷ []

senior_learns : (replied (senior "2" "51") (runs store u s (calls 4096 (senior "2" "51"))).replies ≡ senior "2" "51")
    × (replied (senior "1" "52 53") (runs store u s' (calls 4096 (senior "1" "52 53"))).replies ≡ senior "1" "52 53")
unfolding secrets senior
senior_learns = (refl, refl)

-- ---- on bytes

bytes_differ : DifferOnlyIn u r (encode (state_of u s)) (encode (state_of u s'))
bytes_differ = record {
  first = s;
  second = s';
  read_first = reached_decodes u s reached.reached;
  read_second = reached_decodes u s' reached'.reached;
  same = same;
}
