-- The initial tree is well-formed, and so is it before each home is put in: its homes have names, each of its own. So are the
-- initial registry and the whole initial store.
use Rattle.std.specs.Prelude.{◌≡◌, List, [], ◌∷◌, Bool, false, ◌&&◌, not, ℕ, zero, suc, ◌+◌, ◌-◌, ◌≤◌, ◌<◌, ltb, length, get_or}
use Rattle.std.proofs.Math.Path.{refl}
use Rattle.std.proofs.Common.{sym, ◌∙◌, ap, arith, zero-add, suc-add, add-zero, add-suc, lt-ltb}
use Rattle.std.proofs.Math.Option.{Option, none, some}
use Rattle.std.proofs.Math.Bool.{true}
use Rattle.std.proofs.lemmas.Bool.{not-true}
use Rattle.buffers.specs.Cases.{and_both}
use Rattle.buffers.specs.Text.{same_text, every}
use Rattle.accounts.specs.declared.Uid.{Uid}
use Rattle.accounts.specs.declared.Gid.{Gid}
use Rattle.syntax.specs.Pieces.{bytes}
use Rattle.syntax.specs.Number.{octal, is_mode, digits_before, decimal_text}
use Rattle.syntax.specs.Path.{Name, rep, root, ◌▹◌, depth, name_byte, is_name, most_names, has_names, is_path}
use Rattle.setup.specs.Setup.{Person, Setup, accounts, person, is_setup}
use Rattle.setup.proofs.SetupLaws.{apart}
use Rattle.tree.specs.declared.Kind.TheVariants.{Directory}
use Rattle.tree.specs.Forest.{Forest, no_nodes, Place, get, insert, leaf, size}
use Rattle.tree.proofs.ForestLaws.{get_nil, get_insert_other, size_insert}
use Rattle.tree.specs.Node.{Node}
use Rattle.tree.specs.WellFormed.{nodes, is_node, is_tree}
use Rattle.tree.proofs.JudgeLaws.{directory_is_one}
use Rattle.tree.proofs.PlaceLaws.{leaf_here, leaf_below, leaf_size, nodes_below}
use Rattle.tree.proofs.UpdateLaws.{leaf_height}
use Rattle.tree.proofs.NodeLaws.{plain_node}
use Rattle.tree.proofs.WellFormedLaws.{leaf_place, leaf_tree}
use Rattle.tree.proofs.ChangeLaws.{keep_insert}
use Rattle.store.specs.State.{state_of, working_directory, is_registry, well_formed}
use Rattle.store.proofs.RegistryLaws.{is_registered, root_is_path}
use Rattle.store.proofs.StateLaws.{formed}
use Rattle.store.proofs.PersonLaws.{person_in_range}
use Rattle.store.specs.Initial.{directory_of, top_node, rep_node, home_node, home_name, with_home, homes, topped, initial_tree, no_sessions, first_directory, first_directories, initial_registry, initial_store}
use Rattle.store.specs.InitialRows.{Open}

-- whether a name is neither `rep` nor the home of an account below k
apart_from : Name → ℕ → Bool
apart_from n zero = not (same_text n rep)
apart_from n (suc k) = not (same_text n (home_name (record { 0 = k }))) && apart_from n k

-- whether the homes of the accounts below k have names, each of its own
home_names : ℕ → Bool
home_names zero = true
home_names (suc k) = (is_name (home_name (record { 0 = k })) && apart_from (home_name (record { 0 = k })) k) && home_names k

all_home_names : home_names 16 ≡ true
unfolding home_names apart_from home_name decimal_text digits_before bytes same_text is_name name_byte every rep
all_home_names = refl

-- the home of account k has a name of its own
home_named : (k : ℕ) → home_names (suc k) ≡ true
    → (is_name (home_name (record { 0 = k })) ≡ true) × (apart_from (home_name (record { 0 = k })) k ≡ true) × (home_names k ≡ true)
unfolding home_names
home_named k h =
    let n = home_name (record { 0 = k }) in
    let i = and_both (is_name n && apart_from n k) (home_names k) h in
    let j = and_both (is_name n) (apart_from n k) i.0 in
    (j.0, j.1, i.1)

-- where those below more accounts have, so have those below fewer
fewer_names : (k m : ℕ) → home_names (k + m) ≡ true → home_names k ≡ true
fewer_names k zero h = ap home_names (sym (add-zero k)) ∙ h
fewer_names k (suc m) h = fewer_names k m (home_named (k + m) (ap home_names (sym (add-suc k m)) ∙ h)).2

names_below : (k : ℕ) → k ≤ 16 → home_names k ≡ true
names_below k b = let e : k + (16 - k) ≡ 16 = omega arith in fewer_names k (16 - k) (ap home_names e ∙ all_home_names)

rep_named : is_name rep ≡ true
unfolding rep bytes is_name name_byte every
rep_named = refl

-- `/` alone is `/` with nothing below it
pub top_alone : leaf top_node ≡ topped no_nodes
top_alone = λ i. record { here = leaf_here top_node i; below = leaf_below top_node i }

-- a name apart from a home's is not used by the home
unused_home : (n : Name) (v : Uid) (p : Option Person) (F : Forest Node) → same_text n (home_name v) ≡ false
    → get n F ≡ none → get n (with_home v p F) ≡ none
unfolding with_home
unused_home n v none F d h = h
unused_home n v (some p) F d h = get_insert_other (home_name v) (leaf (home_node v p)) n d F ∙ h

-- so a name apart from all is not used
unused_name : (u : Setup) (n : Name) (k : ℕ) → apart_from n k ≡ true → get n (homes u k) ≡ none
unfolding apart_from homes
unused_name u n zero h = get_insert_other rep (leaf rep_node) n (not-true (same_text n rep) h) no_nodes ∙ get_nil n
unused_name u n (suc k) h =
    let v : Uid = record { 0 = k } in
    let i = and_both (not (same_text n (home_name v))) (apart_from n k) h in
    unused_home n v (person u v) (homes u k) (not-true (same_text n (home_name v)) i.0) (unused_name u n k i.1)

directory_fits : (v : Uid) (g : Gid) (m : ℕ) → ltb v.0 24 ≡ true → ltb g.0 25 ≡ true → is_mode m ≡ true → is_node (directory_of v g m) ≡ true
unfolding directory_of
directory_fits v g m a b c = plain_node Directory v g m a b c (rw directory_is_one)

-- a well-formed tree with the initial top, of at most so many nodes below it
abbrev Begun : ℕ → Forest Node → Type 0
Begun k F = (is_tree (topped F) ≡ true) × (size F ≤ k)

-- one more directory in it
begun_with : (k : ℕ) (n : Name) (x : Node) (F : Forest Node) → k < 255 → is_name n ≡ true → get n F ≡ none
    → is_node x ≡ true → Begun k F → Begun (suc k) (insert n (leaf x) F)
begun_with k n x F b a free w h =
    let t : Place Node = topped F in (
      keep_insert t n (leaf x) h.0 free a (leaf_place x w) (omega (arith, leaf_height x)) (omega (arith, nodes_below t, leaf_size x, h.1)),
      omega (arith, size_insert n (leaf x) F, leaf_size x, h.1),
    )

begun_top : Begun 0 no_nodes
begun_top =
    (rw top_alone at (leaf_tree top_node top_fits (unfold top_node directory_of in directory_is_one)), omega (arith, rw (leaf_below top_node) at (leaf_size top_node)))
  where
    top_fits : is_node top_node ≡ true
    top_fits = unfold top_node is_mode in directory_fits (record { 0 = 0 }) (record { 0 = 0 }) (octal 0 7 5 5) refl refl refl

begun_rep : Begun 1 (insert rep (leaf rep_node) no_nodes)
unfolding rep_node
begun_rep = begun_with 0 rep rep_node no_nodes (omega arith) rep_named (get_nil rep)
    (directory_fits (record { 0 = 16 }) (record { 0 = 24 }) (octal 0 7 5 0) refl refl (unfold is_mode in refl)) begun_top

begun_home : (k : ℕ) (v : Uid) (p : Option Person) (F : Forest Node) → k < 255 → v.0 < 16 → ((q : Person) → p ≡ some q → q.primary.0 < 16)
    → is_name (home_name v) ≡ true → get (home_name v) F ≡ none → Begun k F → Begun (suc k) (with_home v p F)
unfolding with_home home_node
begun_home k v none F b i r a free h = (h.0, omega (arith, h.1))
begun_home k v (some p) F b i r a free h =
    begun_with k (home_name v) (home_node v p) F b a free
    (directory_fits v p.primary (octal 0 7 5 5) (lt-ltb v.0 24 (omega arith)) (lt-ltb p.primary.0 25 (omega (arith, r p refl))) (unfold is_mode in refl)) h

-- every person's primary group is one of 0 to 15
abbrev pub Primaries : Setup → Type 0
Primaries u = (v : Uid) (p : Person) → person u v ≡ some p → p.primary.0 < 16

pub setup_primaries : (u : Setup) → is_setup u ≡ true → Primaries u
setup_primaries u g v p h = (person_in_range u g v p h).1

begun_homes : (u : Setup) → Primaries u → (k : ℕ) → k ≤ 16 → home_names k ≡ true → Begun (suc k) (homes u k)
unfolding homes
begun_homes u r zero b h = begun_rep
begun_homes u r (suc k) b h =
    let v : Uid = record { 0 = k } in
    let i = home_named k h in
    begun_home (suc k) v (person u v) (homes u k) (omega arith) (omega arith) (r v) i.0 (unused_name u (home_name v) k i.1) (begun_homes u r k (omega arith) i.2)

-- `/` alone is well-formed
pub top_whole : is_tree (topped no_nodes) ≡ true
top_whole = begun_top.0

-- and open to `/rep`
pub rep_open : Open rep (topped no_nodes)
rep_open =
    record {
      room = omega (arith, nodes_below (topped no_nodes), begun_top.1);
      named = rep_named;
      free = get_nil rep;
    }

-- with the homes of the accounts below k it is well-formed
pub homes_whole : (u : Setup) → Primaries u → (k : ℕ) → k < 16 → is_tree (topped (homes u k)) ≡ true
homes_whole u r k b = (begun_homes u r k (omega arith) (home_named k (names_below (suc k) (omega arith))).2).0

-- and open to the home of account k
pub home_open : (u : Setup) → Primaries u → (k : ℕ) → k < 16 → Open (home_name (record { 0 = k })) (topped (homes u k))
home_open u r k b =
    let i = home_named k (names_below (suc k) (omega arith)) in
    let g = begun_homes u r k (omega arith) i.2 in
    record {
      room = omega (arith, nodes_below (topped (homes u k)), g.1);
      named = i.0;
      free = unused_name u (home_name (record { 0 = k })) k i.1;
    }

-- the initial tree is well-formed
initial_is_tree : (u : Setup) → is_setup u ≡ true → is_tree (initial_tree u) ≡ true
unfolding initial_tree accounts
initial_is_tree u g = (begun_homes u (setup_primaries u g) 16 (omega arith) all_home_names).0

-- and has at most 18 nodes
pub initial_few : (u : Setup) → is_setup u ≡ true → nodes (initial_tree u) ≤ 18
unfolding initial_tree accounts
initial_few u g = omega (arith, nodes_below (initial_tree u), (begun_homes u (setup_primaries u g) 16 (omega arith) all_home_names).1)

-- it looks at the persons alone
homes_by_persons : (u v : Setup) → u.persons ≡ v.persons → (k : ℕ) → homes u k ≡ homes v k
unfolding homes person
homes_by_persons u v e zero = refl
homes_by_persons u v e (suc k) =
    let w : Uid = record { 0 = k } in
    ap (λ (l : List (Option Person)). with_home w (get_or l k none) (homes u k)) e
    ∙ ap (with_home w (get_or v.persons k none)) (homes_by_persons u v e k)

pub initial_by_persons : (u v : Setup) → u.persons ≡ v.persons → initial_tree u ≡ initial_tree v
unfolding initial_tree
initial_by_persons u v e = ap topped (homes_by_persons u v e accounts)

-- ---- the first working directories

-- a home has a path's form
home_is_path : (n : Name) → is_name n ≡ true → is_path (root ▹ n) ≡ true
unfolding is_path has_names depth most_names
home_is_path n h = rw h

pub first_is_path : (k : ℕ) → k < 16 → (o : Option Person) → is_path (first_directory (record { 0 = k }) o) ≡ true
unfolding first_directory
first_is_path k l none = root_is_path
first_is_path k l (some who) = home_is_path (home_name (record { 0 = k })) (home_named k (names_below (suc k) (omega arith))).0

pub first_are_paths : (l : List (Option Person)) (k : ℕ) → k + length l ≤ 16 → every is_path (first_directories k l) ≡ true
unfolding every first_directories
first_are_paths [] k b = refl
first_are_paths (o ∷ os) k b = rw (first_is_path k (omega arith) o) (first_are_paths os (suc k) (omega arith))

-- there is one for each account
pub length_first : (l : List (Option Person)) (k : ℕ) → length (first_directories k l) ≡ length l
unfolding first_directories
length_first [] k = refl
length_first (o ∷ os) k = ap suc (length_first os (suc k))

pub initial_registered : (u : Setup) → is_setup u ≡ true → is_registry (initial_registry u) ≡ true
unfolding initial_registry no_sessions accounts
initial_registered u g =
    let n = (apart u g).count in
    is_registered (initial_registry u) (record {
      sessions = refl;
      directories = length_first u.persons 0 ∙ n;
      kept_paths = first_are_paths u.persons 0 (omega arith);
    })

-- the account's own: its home, or `/` where it is no person's
first_at : (l : List (Option Person)) (k i : ℕ) → get_or (first_directories k l) i root ≡ first_directory (record { 0 = k + i }) (get_or l i none)
unfolding first_directories first_directory
first_at [] k i = refl
first_at (o ∷ os) k zero = ap (λ (n : ℕ). first_directory (record { 0 = n }) o) (sym (add-zero k))
first_at (o ∷ os) k (suc i) = first_at os (suc k) i ∙ ap (λ (n : ℕ). first_directory (record { 0 = n }) (get_or os i none)) (suc-add k i ∙ sym (add-suc k i))

pub initial_directory : (u : Setup) (uid : Uid) → working_directory uid (initial_registry u) ≡ first_directory uid (person u uid)
unfolding working_directory initial_registry person
initial_directory u uid = first_at u.persons 0 uid.0 ∙ ap (λ (n : ℕ). first_directory (record { 0 = n }) (get_or u.persons uid.0 none)) (zero-add uid.0)

-- the initial store is well-formed
pub initial_well_formed : (u : Setup) → is_setup u ≡ true → well_formed (state_of u (initial_store u)) ≡ true
unfolding initial_store
initial_well_formed u g = formed u g (initial_store u) (initial_registered u g) (initial_is_tree u g)
