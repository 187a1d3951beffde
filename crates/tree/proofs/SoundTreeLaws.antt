-- A tree that passes the test `is_tree` is sound, and a sound tree passes it; and what soundness says of the place at a path.
use Rattle.std.specs.Prelude.{◌≡◌, refl, List, [], ◌∷◌, Bool, true, false, ◌||◌, ◌≤◌}
use Rattle.std.proofs.Common.{sym, arith, ltb-true, lt-ltb, leb-true, le-leb}
use Rattle.std.proofs.Math.Option.{some}
use Rattle.std.proofs.Math.Bool.{not}
use Rattle.std.proofs.lemmas.Bool.{not-true}
use Rattle.buffers.specs.Cases.{case, and_both, contra}
use Rattle.buffers.specs.Text.{same_text, precedes, every}
use Rattle.buffers.specs.TextLaws.{precedes_asym, precedes_total, precedes_differ, every_implies}
use Rattle.syntax.specs.Number.{set_gid}
use Rattle.syntax.specs.Path.{Name, Path, root, ◌▹◌, depth, is_name}
use Rattle.syntax.proofs.FormLaws.{no_answer, answered, both}
use Rattle.tree.specs.declared.Kind.{Kind}
use Rattle.tree.specs.declared.Kind.TheVariants.{Directory}
use Rattle.tree.specs.Forest.{Forest, nil, node, Place, get, is_empty, place_at, names}
use Rattle.tree.proofs.ForestLaws.{differ_sym}
use Rattle.tree.specs.Node.{is_directory, Node}
use Rattle.tree.specs.WellFormed.{last_revision, is_node, leads, is_forest, is_place, is_tree}
use Rattle.tree.proofs.UpdateLaws.{place_at_parent, height_below}
use Rattle.tree.proofs.NodeLaws.{node_ranges, node_of_ranges}
use Rattle.tree.proofs.WellFormedLaws.{place_parts, place_of_parts, forest_parts, forest_of_parts, tree_parts, tree_of_parts, forest_nil, leads_nil, leads_node, leads_before}
use Rattle.tree.proofs.SizeLaws.{names_are_names}
use Rattle.tree.proofs.JudgeLaws.{a_directory}
use Rattle.tree.specs.SoundTree.{Throughout, Everywhere, no_two, InRange, SoundTree}

-- ---- kinds

test_of : (k : Kind) → k ≡ Directory → is_directory k ≡ true
unfolding is_directory
test_of k e = rw e

-- what only directories have
only : (k : Kind) (b : Bool) → (is_directory k || not b) ≡ true → b ≡ true → k ≡ Directory
only k true h e = case (is_directory k) (a_directory k) (λ f. contra refl (sym (rw f at h)))
only k false h e = contra e refl

test_of_only : (k : Kind) (b : Bool) → (b ≡ true → k ≡ Directory) → (is_directory k || not b) ≡ true
test_of_only k true h = rw (test_of k (h refl))
test_of_only k false h = case (is_directory k) (λ d. rw d) (λ f. rw f)

-- ---- the values of a node

in_range : (n : Node) → is_node n ≡ true → InRange n
in_range n h =
    let r = node_ranges n h in
    record {
      owner = omega (arith, ltb-true n.owner.0 24 r.owner);
      group = omega (arith, ltb-true n.group.0 25 r.group);
      mode = r.mode;
      set_gid_on_directories_only = only n.kind (set_gid n.mode) r.gid;
      revision = leb-true n.revision last_revision r.revision;
      tag = λ t e. let i = r.tag t e in record { path = i.0; revision = leb-true t.revision last_revision i.1 };
      content = r.content;
    }

of_in_range : (n : Node) → InRange n → (n.kind ≡ Directory → n.content ≡ []) → is_node n ≡ true
of_in_range n r bare = node_of_ranges n (record {
  owner = lt-ltb n.owner.0 24 (omega arith);
  group = lt-ltb n.group.0 25 (omega arith);
  mode = r.mode;
  gid = test_of_only n.kind (set_gid n.mode) r.set_gid_on_directories_only;
  revision = le-leb n.revision last_revision r.revision;
  tag = λ t e. let i = r.tag t e in (i.path, le-leb t.revision last_revision i.revision);
  content = r.content;
  bare = λ d. bare (a_directory n.kind d);
})

-- ---- the names of siblings

-- a name that leads precedes each sibling
precedes_all : (n : Name) (F : Forest Node) → is_forest F ≡ true → leads n F ≡ true → every (precedes n) (names F) ≡ true
unfolding every names
precedes_all n nil h l = refl
precedes_all n (node m x cs rest) h l =
    let v = forest_parts m (record { here = x; below = cs }) rest h in
    let p : precedes n m ≡ true = rw (leads_node n m x cs rest) at l in
    rw p (precedes_all n rest v.others (leads_before n m rest p v.leading))

-- so no two siblings stand to each other as no two names in byte order do
none_so : (f : Name → Name → Bool) → ((n m : Name) → precedes n m ≡ true → f n m ≡ false) → (F : Forest Node) → is_forest F ≡ true
    → no_two f (names F) ≡ true
unfolding no_two names
none_so f w nil h = refl
none_so f w (node n x cs rest) h =
    let v = forest_parts n (record { here = x; below = cs }) rest h in
    both (every_implies (precedes n) (λ m. not (f n m)) (λ m p. rw (w n m p)) (names rest) (precedes_all n rest v.others v.leading))
    (none_so f w rest v.others)

-- the names of siblings in a sound tree
record SoundNames (ns : List Name) : Type 0 where
  differ : no_two same_text ns ≡ true
  in_order : no_two (λ earlier later. precedes later earlier) ns ≡ true
  each : every is_name ns ≡ true

module _ (n : Name) (ns : List Name) (w : SoundNames (n ∷ ns)) where
  -- those behind the first
  behind : SoundNames ns
  unfolding every no_two
  behind = record {
    differ = (and_both (every (λ m. not (same_text n m)) ns) (no_two same_text ns) w.differ).1;
    in_order = (and_both (every (λ m. not (precedes m n)) ns) (no_two (λ earlier later. precedes later earlier) ns) w.in_order).1;
    each = (and_both (is_name n) (every is_name ns) w.each).1;
  }

  first_name : is_name n ≡ true
  unfolding every
  first_name = (and_both (is_name n) (every is_name ns) w.each).0

-- the first leads
leading : (n : Name) (F : Forest Node) → SoundNames (n ∷ names F) → leads n F ≡ true
unfolding every no_two names
leading n nil w = leads_nil n
leading n (node m x cs rest) w =
    let ns = names rest in
    let d = (and_both (every (λ k. not (same_text n k)) (m ∷ ns)) (no_two same_text (m ∷ ns)) w.differ).0 in
    let o = (and_both (every (λ k. not (precedes k n)) (m ∷ ns)) (no_two (λ earlier later. precedes later earlier) (m ∷ ns)) w.in_order).0 in
    rw (leads_node n m x cs rest)
    (precedes_total m n
    (differ_sym n m (not-true (same_text n m) (and_both (not (same_text n m)) (every (λ k. not (same_text n k)) ns) d).0))
    (not-true (precedes m n) (and_both (not (precedes m n)) (every (λ k. not (precedes k n)) ns) o).0))

-- ---- every place

module _ (P : Place Node → Type 0) (each : (d : Place Node) → is_place d ≡ true → P d) where
  throughout : (F : Forest Node) → is_forest F ≡ true → Throughout F P
  unfolding Throughout
  throughout nil h = tt
  throughout (node n x cs rest) h =
      let e : Place Node = record { here = x; below = cs } in
      let v = forest_parts n e rest h in
      (each e v.first, (throughout cs (place_parts e v.first).forest, throughout rest v.others))

  -- what holds of every well-formed place holds everywhere in one
  everywhere : (t : Place Node) → is_place t ≡ true → Everywhere t P
  unfolding Everywhere
  everywhere t h = (each t h, throughout t.below (place_parts t h).forest)

module _ (P Q R : Place Node → Type 0) (follows : (d : Place Node) → P d → Q d → R d) where
  joined_throughout : (F : Forest Node) → Throughout F P → Throughout F Q → Throughout F R
  unfolding Throughout
  joined_throughout nil p q = tt
  joined_throughout (node n x cs rest) p q = (
    follows (record { here = x; below = cs }) p.0 q.0,
    (joined_throughout cs p.1.0 q.1.0, joined_throughout rest p.1.1 q.1.1),
  )

  -- what follows from two things that hold everywhere
  joined : (t : Place Node) → Everywhere t P → Everywhere t Q → Everywhere t R
  unfolding Everywhere
  joined t p q = (follows t p.0 q.0, joined_throughout t.below p.1 q.1)

-- ---- the test

-- a tree that passes the test is sound
pub tree_is_sound : (t : Place Node) → is_tree t ≡ true → SoundTree t
tree_is_sound t h =
    let v = tree_parts t h in
    record {
      top_is_a_directory = a_directory t.here.kind v.directory;
      siblings_differ = everywhere _ (λ d i. none_so same_text precedes_differ d.below (place_parts d i).forest) t v.whole;
      siblings_in_order = everywhere _ (λ d i. none_so (λ earlier later. precedes later earlier) precedes_asym d.below (place_parts d i).forest) t v.whole;
      only_directories_have_children = everywhere _ (λ d i e. case (is_directory d.here.kind) (a_directory d.here.kind) (λ f. contra ((place_parts d i).childless f) e)) t v.whole;
      directories_have_no_content = everywhere _ (λ d i e. (node_ranges d.here (place_parts d i).own).bare (test_of d.here.kind e)) t v.whole;
      at_most_6_names = v.low;
      at_most_256_nodes = v.few;
      names_in_range = everywhere _ (λ d i. names_are_names d.below (place_parts d i).forest) t v.whole;
      values_in_range = everywhere _ (λ d i. in_range d.here (place_parts d i).own) t v.whole;
    }

-- what a sound tree has at each place
record SoundPlace (d : Place Node) : Type 0 where
  children : is_empty d.below ≡ false → d.here.kind ≡ Directory
  own : is_node d.here ≡ true
  siblings : SoundNames (names d.below)

sound_places : (t : Place Node) → SoundTree t → Everywhere t SoundPlace
sound_places t s =
    let ordered = joined _ _ (λ d. every is_name (names d.below) ≡ true → SoundNames (names d.below))
    (λ d p q e. record { differ = p; in_order = q; each = e }) t s.siblings_differ s.siblings_in_order in
    let named = joined _ _ (λ d. SoundNames (names d.below)) (λ d f e. f e) t ordered s.names_in_range in
    let own = joined _ _ (λ d. is_node d.here ≡ true) (λ d b r. of_in_range d.here r b) t s.directories_have_no_content s.values_in_range in
    let other = joined _ _ (λ d. SoundNames (names d.below) → SoundPlace d)
    (λ d c o w. record { children = c; own = o; siblings = w }) t s.only_directories_have_children own in
    joined _ _ SoundPlace (λ d f w. f w) t other named

forest_of : (F : Forest Node) → SoundNames (names F) → Throughout F SoundPlace → is_forest F ≡ true
unfolding Throughout names
forest_of nil w p = forest_nil
forest_of (node n x cs rest) w p =
    let e : Place Node = record { here = x; below = cs } in
    forest_of_parts n e rest (record {
      name = first_name n (names rest) w;
      first = place_of_parts e (record {
        own = p.0.own;
        childless = λ f. case (is_empty cs) (λ i. i) (λ i. contra (test_of x.kind (p.0.children i)) f);
        forest = forest_of cs p.0.siblings p.1.0;
      });
      leading = leading n rest w;
      others = forest_of rest (behind n (names rest) w) p.1.1;
    })

-- a sound tree passes the test
pub sound_is_tree : (t : Place Node) → SoundTree t → is_tree t ≡ true
unfolding Everywhere
sound_is_tree t s =
    let p = sound_places t s in
    let k = test_of t.here.kind s.top_is_a_directory in
    tree_of_parts t (record {
      directory = k;
      whole = place_of_parts t (record { own = p.0.own; childless = λ f. contra k f; forest = forest_of t.below p.0.siblings p.1 });
      low = s.at_most_6_names;
      few = s.at_most_256_nodes;
    })

-- ---- the place at a path

module _ {A : Type 0} (P : Place A → Type 0) where
  in_child : (n : Name) (F : Forest A) (d : Place A) → Throughout F P → get n F ≡ some d → Everywhere d P
  unfolding get Throughout Everywhere
  in_child n nil d p e = no_answer e
  in_child n (node m x cs rest) d p e = case (same_text n m)
      (λ t. let q : some (record { here = x; below = cs }) ≡ some d = rw t at e in rw (answered q) (p.0, p.1.0))
      (λ t. in_child n rest d p.1.1 (rw t at e))

  in_place : (t : Place A) → Everywhere t P → (p : Path) (d : Place A) → place_at t p ≡ some d → Everywhere d P
  unfolding place_at Everywhere
  in_place t h root d e = rw (answered e) h
  in_place t h (p ▹ n) d e = let i = place_at_parent t p n d e in in_child n i.0.below d (in_place t h p i.0 i.1).1 i.2

  -- what holds everywhere holds of the place at any path
  pub at_any_path : (t : Place A) → Everywhere t P → (p : Path) (d : Place A) → place_at t p ≡ some d → P d
  unfolding Everywhere
  at_any_path t h p d e = (in_place t h p d e).0

-- and no path in a sound tree passes 6 names
pub no_path_passes_6_names : (t : Place Node) → SoundTree t → (p : Path) (d : Place Node) → place_at t p ≡ some d → depth p ≤ 6
no_path_passes_6_names t s p d e = omega (arith, height_below t p d e, s.at_most_6_names)
