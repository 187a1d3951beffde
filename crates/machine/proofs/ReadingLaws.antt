-- A role dominates another just if its account may read every entry that the other's account may, and more pairs take no
-- permission away.
use Rattle.std.specs.Prelude.{◌≡◌, true, ◌&&◌, ◌≤◌}
use Rattle.std.proofs.Math.Path.{refl, sym, ap}
use Rattle.std.proofs.Common.{◌∙◌, arith, ltb-true}
use mathlib.Core.List.{List, []}
use Rattle.std.proofs.Math.Option.{some}
use Rattle.buffers.specs.Cases.{and_both}
use Rattle.buffers.specs.Text.{every}
use Rattle.accounts.specs.declared.Role.{Role}
use Rattle.accounts.specs.declared.Pair.{Pair}
use Rattle.accounts.specs.Dominance.{BoundedRole, Listed, Dominates, self, down, Falling}
use Rattle.accounts.proofs.DominanceLaws.{all_fall_is, dominates_is, dominates_self, dominates_trans}
use Rattle.syntax.specs.Pieces.{bytes}
use Rattle.syntax.specs.Path.{Path, EntryPath, root, ◌▹◌, depth, rep, in_rep, name_byte, is_name}
use Rattle.syntax.specs.Field.{is_content}
use Rattle.setup.specs.Setup.{Setup, is_setup}
use Rattle.setup.proofs.SetupLaws.{pairs_fall}
use Rattle.tree.specs.declared.Kind.{Kind}
use Rattle.tree.specs.declared.Kind.TheVariants.{File}
use Rattle.tree.specs.Result.{done}
use Rattle.tree.proofs.AgreeLaws.{done_first, done_second}
use Rattle.tree.specs.Forest.{no_nodes, Place, get, insert, update_forest, leaf, map_place}
use Rattle.tree.specs.Node.{is_directory, Node}
use Rattle.tree.specs.Walk.{enter, walk}
use Rattle.tree.proofs.StepLaws.{walk_root, walks_on, walk_more, enters}
use Rattle.tree.proofs.JudgeLaws.{directory_is_one}
use Rattle.tree.proofs.ForestLaws.{get_nil, get_insert, get_map, leaf_map}
use Rattle.tree.proofs.RootedLaws.{rooted_here, rooted_below, update_forest_root}
use Rattle.tree.proofs.PlaceLaws.{leaf_here, leaf_below, leaf_size}
use Rattle.tree.proofs.UpdateLaws.{leaf_height}
use Rattle.tree.proofs.WellFormedLaws.{leaf_place}
use Rattle.tree.proofs.ChangeLaws.{keep_put}
use Rattle.tree.proofs.MapLaws.{map_here}
use Rattle.store.specs.State.{state_of, well_formed}
use Rattle.store.proofs.StateLaws.{parts, formed}
use Rattle.store.specs.Initial.{directory_of, rep_node, initial_store}
use Rattle.store.proofs.InitialLaws.{initial_few, initial_well_formed}
use Rattle.machine.specs.StoreMachine.{entry_node, store}
use Rattle.machine.specs.AbstractMachine.{Entry, Abstract, Filed, top, an_entry, dominated, filed_kind, filed_passes, filed_readable, filed_writable, by_dominance, new_entry, initial_abstract}
use Rattle.machine.specs.AbstractInstance.{abstract}
use Rattle.machine.specs.Embedding.{met, embed}
use Rattle.machine.proofs.EntryJudgeLaws.{passes_law, readable_law, writable_law}
use Rattle.machine.proofs.EntryRangeLaws.{entry_fits}
use Rattle.machine.specs.Simulation.{Kept, Tie}
use Rattle.machine.proofs.SimulationLaws.{stored_is_met, account_walk}
use Rattle.machine.proofs.TieLaws.{file_tie}
use Rattle.machine.proofs.ComparedLaws.{stored_none, initial_tie}
use Rattle.machine.specs.EntryAccess.{MayRead, ReadsAll, MorePairs}

-- ---- dominance

-- the pairs of a setup in range lead down
setup_falls : (u : Setup) → is_setup u ≡ true → Falling u.pairs
setup_falls u s = all_fall_is u.pairs (pairs_fall u s)

role_bound : (z : BoundedRole) → z.role.0 ≤ 7
role_bound z = omega (arith, ltb-true z.role.0 8 z.bound)

wider : {ps qs : List Pair} → ((s j : Role) → Listed s j ps → Listed s j qs) → {s r : Role} → Dominates ps s r → Dominates qs s r
wider more self = self
wider more (down {s = s} {j = j} l d) = down (more s j l) (wider more d)

-- what a role dominates by some pairs it dominates by more
more_dominates : (u u' : Setup) → is_setup u ≡ true → is_setup u' ≡ true → MorePairs u u'
    → (a b : BoundedRole) → dominated u a b ≡ true → dominated u' a b ≡ true
unfolding MorePairs dominated
more_dominates u u' s s' more a b d =
    (dominates_is u'.pairs (setup_falls u' s') a.role b.role (role_bound b)).1
    (wider more ((dominates_is u.pairs (setup_falls u s) a.role b.role (role_bound b)).0 d))

-- ---- judges

module _ (u u' : Setup) (a a' : BoundedRole) (more : (r : BoundedRole) → dominated u a r ≡ true → dominated u' a' r ≡ true) where
  directory_more : (k : Kind) (r : BoundedRole) → (is_directory k && dominated u a r) ≡ true → (is_directory k && dominated u' a' r) ≡ true
  directory_more k r h = let w = and_both (is_directory k) (dominated u a r) h in rw w.0 (more r w.1)

  passes_more : (x : Filed) → (by_dominance u a).passes x ≡ true → (by_dominance u' a').passes x ≡ true
  unfolding by_dominance filed_passes
  passes_more top h = h
  passes_more (an_entry x) h = directory_more x.kind x.role h

  readable_apart : (x : Filed) → (by_dominance u a).readable x ≡ true → (by_dominance u' a').readable x ≡ true
  unfolding by_dominance filed_readable
  readable_apart top h = h
  readable_apart (an_entry x) h = more x.role h

  readable_more : (x : Filed) → (store.judge u a).readable (met x) ≡ true → (store.judge u' a').readable (met x) ≡ true
  readable_more x h = rw (readable_law u' a' x) (readable_apart x (rw (readable_law u a x) at h))

  kind_same : (x : Filed) → (by_dominance u' a').kind x ≡ (by_dominance u a).kind x
  unfolding by_dominance
  kind_same x = refl

  -- who dominates no less may read no less
  reads_more : (h : Abstract) → Kept h → (p : Path) (d : Place Node) → MayRead u a (embed h) p d → MayRead u' a' (embed h) p d
  reads_more h k p d m =
      let w = done_first (account_walk u a h k p) m.walks in
      let e = w.0 in
      let v = done_second (account_walk u' a' h k p) (walk_more (by_dominance u a) (by_dominance u' a') kind_same passes_more (abstract.entries h) p e w.1) in
      let q : d ≡ map_place met e = w.2 in
      let here : d.here ≡ met e.here = ap (λ x. x.here) q ∙ map_here met e in
      record {
        walks = v.1 ∙ ap done (v.2 ∙ sym q);
        reads = rw here (readable_more e.here (rw here at m.reads));
      }

writable_apart : (u u' : Setup) (z : BoundedRole) → ((r : BoundedRole) → dominated u z r ≡ true → dominated u' z r ≡ true)
    → (x : Filed) → (by_dominance u z).writable x ≡ true → (by_dominance u' z).writable x ≡ true
unfolding by_dominance filed_writable
writable_apart u u' z more top h = h
writable_apart u u' z more (an_entry x) h = directory_more u u' z z more x.kind x.role h

-- ---- more pairs

module _ (u u' : Setup) (s : is_setup u ≡ true) (s' : is_setup u' ≡ true) (pairs : MorePairs u u') (z : BoundedRole) where
  module _ (x : Filed) where
    -- more pairs take no entry's x away
    pub more_passes : (store.judge u z).passes (met x) ≡ true → (store.judge u' z).passes (met x) ≡ true
    more_passes h = rw (passes_law u' z x) (passes_more u u' z z (more_dominates u u' s s' pairs z) x (rw (passes_law u z x) at h))

    -- nor its being readable
    pub more_readable : (store.judge u z).readable (met x) ≡ true → (store.judge u' z).readable (met x) ≡ true
    more_readable = readable_more u u' z z (more_dominates u u' s s' pairs z) x

    -- nor its being writable
    pub more_writable : (store.judge u z).writable (met x) ≡ true → (store.judge u' z).writable (met x) ≡ true
    more_writable h = rw (writable_law u' z x) (writable_apart u u' z (more_dominates u u' s s' pairs z) x (rw (writable_law u z x) at h))

  -- nor an entry that may be read
  pub more_may_read : (h : Abstract) → Kept h → (p : Path) (d : Place Node) → MayRead u z (embed h) p d → MayRead u' z (embed h) p d
  more_may_read = reads_more u u' z z (more_dominates u u' s s' pairs z)

-- ---- the witness: the initial state with one file of a role, named `x`, in `/rep`

abbrev filed_path : EntryPath
filed_path = record { folder = root; name = bytes "x" }

module _ (u : Setup) (b : BoundedRole) where
  abbrev filed_entry : Entry
  filed_entry = new_entry File b []

  abbrev filed_node : Node
  filed_node = entry_node File b 1 []

  witness : Abstract
  witness = abstract.file filed_path File b [] (initial_abstract u)

  -- it stands for the initial store with the file put in
  witness_tie : Tie (store.file filed_path File b [] (initial_store u)) witness
  unfolding witness
  witness_tie = file_tie (initial_tie u) filed_path File b []

  -- a walk from `/rep` meets the file
  witness_entry : get (bytes "x") (abstract.entries witness).below ≡ some (leaf (an_entry filed_entry))
  unfolding witness initial_abstract
  witness_entry =
      let F = update_forest root (insert (bytes "x") (leaf filed_entry)) no_nodes in
      let x = bytes "x" in
      rw (rooted_below an_entry top F, get_map an_entry x F, update_forest_root (insert x (leaf filed_entry)) no_nodes, get_insert x (leaf filed_entry) no_nodes (get_nil x)) (
      ap some (sym (leaf_map an_entry filed_entry)))

  -- who dominates the role may read it, and nobody else
  witness_readable : (a : BoundedRole) → (store.judge u a).readable (map_place met (leaf (an_entry filed_entry))).here ≡ dominated u a b
  unfolding by_dominance filed_readable new_entry
  witness_readable a = rw (map_here met (leaf (an_entry filed_entry)), leaf_here (an_entry filed_entry)) (readable_law u a (an_entry filed_entry))

  -- the role's account may read it
  witness_read : MayRead u b (embed witness) (root ▹ bytes "x") (map_place met (leaf (an_entry filed_entry)))
  unfolding by_dominance filed_kind filed_passes dominated
  witness_read =
      let j = by_dominance u b in
      let k = witness_tie.kept in
      let t = abstract.entries witness in
      let e : enter j t.here ≡ done tt = rw (rooted_here an_entry top witness.entries) (enters j top directory_is_one refl) in
      let w = walks_on j t root (bytes "x") (walk_root j t) e witness_entry in
      let v = done_second (account_walk u b witness k (root ▹ bytes "x")) w in
      record { walks = v.1 ∙ ap done v.2; reads = witness_readable b ∙ dominates_self u.pairs b.role b.role refl }

  -- its store is well-formed
  witness_formed : is_setup u ≡ true → well_formed (state_of u (embed witness)) ≡ true
  unfolding in_rep depth is_name name_byte every bytes is_content rep_node directory_of initial_abstract initial_store embed
  witness_formed s =
      let h = initial_abstract u in
      let t = initial_tie u in
      let i = parts (state_of u (initial_store u)) (initial_well_formed u s) in
      let v = done_second (account_walk u b h t.kept root) (walk_root (by_dominance u b) (abstract.entries h)) in
      let d = leaf rep_node in
      let e : v.0 ≡ d = v.2 ∙ sym (stored_is_met no_nodes) ∙ stored_none in
      let to : walk (store.judge u b) (initial_store u).tree (root ▹ rep) ≡ done d = ap (λ t. walk (store.judge u b) t.tree (root ▹ rep)) t.same ∙ v.1 ∙ ap done e in
      rw (← witness_tie.same) (formed u s _ i.registry
      (keep_put (store.judge u b) (initial_store u).tree (root ▹ rep) d (bytes "x") (leaf filed_node) i.tree to
      (rw (leaf_here rep_node) directory_is_one) (rw (leaf_below rep_node) (get_nil (bytes "x"))) refl
      (leaf_place filed_node (entry_fits File b [] refl λ _. refl)) (omega (arith, leaf_height filed_node)) (omega (arith, initial_few u s, leaf_size filed_node))))

-- ---- dominance is reading

module _ (u : Setup) (s : is_setup u ≡ true) (a b : BoundedRole) where
  -- the account of a role may read what those of the roles that it dominates may
  dominance_reads : dominated u a b ≡ true → (h : Abstract) → Kept h → (p : Path) (d : Place Node)
      → MayRead u b (embed h) p d → MayRead u a (embed h) p d
  unfolding dominated
  dominance_reads e = reads_more u u b a
      (λ r i. dominates_trans u.pairs (setup_falls u s) a.role b.role r.role (role_bound b) (role_bound r) e i)

  -- a role whose account may read all that another's may dominates the other
  reading_dominates : ReadsAll u a b → dominated u a b ≡ true
  reading_dominates all =
      let d = map_place met (leaf (an_entry (filed_entry u b))) in
      sym (witness_readable u b a) ∙ (all (witness u b) (witness_tie u b).kept (witness_formed u b s) (root ▹ bytes "x") d (witness_read u b)).reads

  -- so dominance is reading
  pub dominance_is_reading : (dominated u a b ≡ true → ReadsAll u a b) × (ReadsAll u a b → dominated u a b ≡ true)
  dominance_is_reading = (λ e h k _. dominance_reads e h k, reading_dominates)
