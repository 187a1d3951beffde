-- The entries by path, in the abstract machine and in the store, and a person's done command in both.
use Rattle.std.specs.Prelude.{◌≡◌, true, false, not, ℕ, get_or}
use Rattle.std.proofs.Math.Path.{refl, ap}
use Rattle.std.proofs.Common.{sym, ◌∙◌}
use Rattle.std.proofs.Math.Option.{Option, none, some, map, map-eq-some_iff}
use Rattle.buffers.specs.Cases.{case, and_both}
use Rattle.buffers.specs.Text.{Text}
use Rattle.accounts.specs.declared.Caller.{Caller}
use Rattle.accounts.specs.declared.Uid.{Uid}
use Rattle.accounts.specs.Access.{is_root}
use Rattle.accounts.specs.Dominance.{BoundedRole, dominates}
use Rattle.accounts.proofs.DominanceLaws.{same_role_is}
use Rattle.syntax.specs.Path.{Path, ◌▹◌, EntryPath, parent, last, same_path, in_rep, entry_location, below_rep}
use Rattle.syntax.proofs.WithinLaws.{same_path_sound}
use Rattle.syntax.proofs.FormLaws.{no_answer, answered}
use Rattle.commands.specs.Command.{Command}
use Rattle.setup.specs.Setup.{Setup, is_setup}
use Rattle.setup.proofs.SetupLaws.{accepted_is_setup}
use Rattle.tree.specs.declared.Kind.{Kind}
use Rattle.tree.proofs.JudgeLaws.{a_directory}
use Rattle.tree.specs.declared.Cause.TheVariants.{NoSession}
use Rattle.tree.specs.Result.{done, Outcome}
use Rattle.tree.proofs.ResultLaws.{present_some}
use Rattle.tree.proofs.AgreeLaws.{done_first}
use Rattle.tree.specs.Forest.{Place, update, place_at, alter, put, drop, leaf, map_place, Holds}
use Rattle.tree.proofs.ForestLaws.{leaf_map}
use Rattle.tree.proofs.RootedLaws.{rooted_put, rooted_drop, rooted_alter}
use Rattle.tree.specs.Node.{is_directory, Node, set_tag, owns}
use Rattle.tree.specs.Walk.{Judge, by_modes, walk, parent_walk, unused}
use Rattle.tree.proofs.StepLaws.{was_unused, parent_walked}
use Rattle.tree.proofs.UpdateLaws.{by_option, place_at_child, walked_at}
use Rattle.tree.proofs.OtherPathLaws.{changed_at, alter_none}
use Rattle.tree.proofs.MapLaws.{map_here}
use Rattle.tree.specs.WellFormed.{is_tree}
use Rattle.tree.specs.Graft.{Outside}
use Rattle.tree.proofs.HoldsLaws.{holds_altered, holds_alter, place_map, place_inside, place_outside}
use Rattle.store.specs.State.{Store, state_of}
use Rattle.store.proofs.StateLaws.{parts}
use Rattle.store.specs.Callers.{caller}
use Rattle.machine.specs.Working.{tagged}
use Rattle.machine.specs.Machine.{session, run}
use Rattle.machine.specs.StoreMachine.{store}
use Rattle.machine.specs.AbstractMachine.{Abstract, Filed, top, an_entry, dominated, filed_writable, by_dominance, new_entry, next_entry}
use Rattle.machine.specs.AbstractInstance.{abstract}
use Rattle.machine.specs.Embedding.{in_store, stored, met, embed}
use Rattle.machine.specs.Observed.{ReachedWithoutRoot}
use Rattle.machine.proofs.MachineKeepingLaws.{reached_well_formed}
use Rattle.machine.specs.Simulation.{Tie}
use Rattle.machine.proofs.SimulationLaws.{stored_is_met, run_agrees, file_is_outside, owned_is_outside}
use Rattle.machine.proofs.ComparedLaws.{reached_tie}
use Rattle.machine.specs.EntryChanges.{node_of, entry_of, WritesIn, in_top, in_directory, Rightful}

-- ---- entries and places

-- entry paths with one path below `/rep` are one
pub same_entry : (e e' : EntryPath) → below_rep e ≡ below_rep e' → e ≡ e'
unfolding below_rep parent last
same_entry e e' s = λ i. record { folder = parent (s i); name = last (s i) }

-- an entry stands at its place
pub holds_of : (h : Abstract) (e : EntryPath) (x : Filed) → entry_of h e ≡ some x → Holds (abstract.entries h) (below_rep e) x
unfolding entry_of
holds_of h e x i =
    let k = (map-eq-some_iff (λ (d : Place Filed). d.here) (place_at (abstract.entries h) (below_rep e))).0 i in
    record { place = k.0; stands = k.1; here = k.2 }

-- and what stands there is the entry
pub of_holds : (h : Abstract) (e : EntryPath) (x : Filed) → Holds (abstract.entries h) (below_rep e) x → entry_of h e ≡ some x
unfolding entry_of
of_holds h e x k = (map-eq-some_iff (λ (d : Place Filed). d.here) (place_at (abstract.entries h) (below_rep e))).1 (k.place, k.stands, k.here)

-- where no place is, there is no entry
pub of_none : (h : Abstract) (e : EntryPath) → place_at (abstract.entries h) (below_rep e) ≡ none → entry_of h e ≡ none
unfolding entry_of
of_none h e i = ap (map (λ d. d.here)) i

map_none : {A B : Type 0} (f : A → B) (o : Option A) → map f o ≡ none → o ≡ none
map_none f none i = refl
map_none f (some a) i = no_answer (sym i)

-- and where no entry is, there is no place
pub no_entry_place : (h : Abstract) (e : EntryPath) → entry_of h e ≡ none → place_at (abstract.entries h) (below_rep e) ≡ none
unfolding entry_of
no_entry_place h e i = map_none (λ d. d.here) (place_at (abstract.entries h) (below_rep e)) i

-- where a walk finds the name unused there is no entry
pub free : (j : Judge Filed) (t : Place Filed) (e : EntryPath) (f : Place Filed)
    → parent_walk j t (below_rep e) ≡ done f → unused e.name f.below ≡ done tt
    → place_at t (e.folder ▹ e.name) ≡ none
unfolding below_rep parent
free j t e f w i = place_at_child t e.folder e.name f (walked_at t j e.folder f (parent_walked j t (e.folder ▹ e.name) w).0) ∙ was_unused e.name f.below i

-- ---- what a walk meets after a change of the entries

-- what is met with new content and the next revision; `/rep` is never revised
unfoldable pub next_filed : Text → Filed → Filed
next_filed content top = top
next_filed content (an_entry x) = an_entry (next_entry content x)

-- an entry filed
pub filed_after : (e : EntryPath) (kind : Kind) (r : BoundedRole) (content : Text) (h : Abstract)
    → abstract.entries (abstract.file e kind r content h)
    ≡ update e.folder (put e.name (leaf (an_entry (new_entry kind r content)))) (abstract.entries h)
filed_after e kind r content h =
    rw (leaf_map an_entry (new_entry kind r content)) (sym (rooted_put an_entry top e.folder e.name (leaf (new_entry kind r content)) h.entries))

-- an entry revised
pub revised_after : (e : EntryPath) (content : Text) (h : Abstract)
    → abstract.entries (abstract.revise e content h) ≡ update (below_rep e) (alter (next_filed content)) (abstract.entries h)
unfolding below_rep next_filed
revised_after e content h = sym (rooted_alter an_entry top (next_filed content) (next_entry content) (λ x. refl) e.folder e.name h.entries)

-- an entry taken out
pub removed_after : (e : EntryPath) (h : Abstract)
    → abstract.entries (abstract.remove e h) ≡ update e.folder (drop e.name) (abstract.entries h)
removed_after e h = sym (rooted_drop an_entry top e.folder e.name h.entries)

-- ---- rights

-- the caller's session has a role that dominates r and writes in the directory of e, as the abstract machine judges it
pub record RightfulApart (u : Setup) (h : Abstract) (c : Caller) (e : EntryPath) (r : BoundedRole) : Type 0 where
  pub role : BoundedRole
  pub session : get_or h.registry.sessions c.account.uid.0 none ≡ some role
  pub dominates : dominated u role r ≡ true
  pub folder : Place Filed
  pub stands : place_at (abstract.entries h) e.folder ≡ some folder
  pub writes : filed_writable u role folder.here ≡ true

pub by_session : (u : Setup) (h : Abstract) (c : Caller) (z : BoundedRole) → session abstract u h c ≡ done z
    → (e : EntryPath) (f : Place Filed) → place_at (abstract.entries h) e.folder ≡ some f → (by_dominance u z).writable f.here ≡ true
    → (r : BoundedRole) → dominated u z r ≡ true → RightfulApart u h c e r
unfolding session by_dominance
by_session u h c z i e f there w r b = record {
  role = z;
  session = present_some (get_or h.registry.sessions c.account.uid.0 none) NoSession i;
  dominates = b;
  folder = f;
  stands = there;
  writes = w;
}

module _ (u : Setup) (c : Caller) (e : EntryPath) where
  -- a role of the same number is dominated alike
  pub same_role_right : {h : Abstract} {q r : BoundedRole} → q.role ≡ r.role → RightfulApart u h c e q → RightfulApart u h c e r
  unfolding dominated
  same_role_right same k = record {
    role = k.role;
    session = k.session;
    dominates = ap (dominates u.pairs k.role.role) (sym same) ∙ k.dominates;
    folder = k.folder;
    stands = k.stands;
    writes = k.writes;
  }

  -- an entry that is revised is written in by the same roles
  next_writable : (z : BoundedRole) (content : Text) (x : Filed) → filed_writable u z (next_filed content x) ≡ filed_writable u z x
  unfolding filed_writable next_filed next_entry
  next_writable z content top = refl
  next_writable z content (an_entry x) = refl

  -- so who has the right after an entry was revised had it before
  pub revised_right : (h h' : Abstract) (e' : EntryPath) (content : Text) → h'.registry ≡ h.registry
      → abstract.entries h' ≡ update (below_rep e') (alter (next_filed content)) (abstract.entries h)
      → (r : BoundedRole) → RightfulApart u h' c e r → RightfulApart u h c e r
  revised_right h h' e' content kept made r k =
      let t = abstract.entries h in
      let g = next_filed content in
      let stands : place_at (update (below_rep e') (alter g) t) e.folder ≡ some k.folder = rw (← made) k.stands in
      by_option (place_at t e.folder)
      (λ n. no_answer (sym (alter_none t e.folder (below_rep e') g n) ∙ stands))
      (λ f there.
      let holds : Holds t e.folder f.here = record { place = f; stands = there; here = refl } in
      let writes : filed_writable u k.role f.here ≡ true = case (same_path e.folder (below_rep e'))
      (λ s.
      let x = holds_altered e.folder holds g in
      let q : k.folder.here ≡ g f.here = ap (λ (d : Place Filed). d.here) (answered (sym x.stands ∙ (rw (← same_path_sound e.folder (below_rep e') s) at stands))) ∙ x.here in
      sym (next_writable k.role content f.here) ∙ ap (filed_writable u k.role) (sym q) ∙ k.writes)
      (λ s.
      let x = holds_alter e.folder (below_rep e') holds g s in
      let q : k.folder.here ≡ f.here = ap (λ (d : Place Filed). d.here) (answered (sym x.stands ∙ stands)) ∙ x.here in
      ap (filed_writable u k.role) (sym q) ∙ k.writes) in
      record {
        role = k.role;
        session = ap (λ x. get_or x.sessions c.account.uid.0 none) (sym kept) ∙ k.session;
        dominates = k.dominates;
        folder = f;
        stands = there;
        writes = writes;
      })

-- ---- a store that holds what the abstract machine holds

here_map : (o : Option (Place Filed)) → map (λ d. d.here) (map (map_place met) o) ≡ map met (map (λ d. d.here) o)
here_map none = refl
here_map (some d) = ap some (map_here met d)

-- below `/rep` stands what a walk from there meets
met_tied : {s : Store} {h : Abstract} → Tie s h → (p : Path) → place_at s.tree (in_rep p) ≡ map (map_place met) (place_at (abstract.entries h) p)
unfolding embed
met_tied {h} t p =
    ap (λ s. place_at s.tree (in_rep p)) t.same
    ∙ rw (place_inside (stored h.entries) h.workspace t.kept.there p, stored_is_met h.entries) (place_map met (abstract.entries h) p)

-- so the node at an entry path is how the entry stands in the store
pub node_tied : {s : Store} {h : Abstract} → Tie s h → (e : EntryPath) → node_of s e ≡ map met (entry_of h e)
unfolding node_of entry_of entry_location below_rep in_rep
node_tied {h} t e =
    let p = e.folder ▹ e.name in
    ap (map (λ d. d.here)) (met_tied t p) ∙ here_map (place_at (abstract.entries h) p)

-- where no node is there is no place
pub no_node : (s : Store) (e : EntryPath) → node_of s e ≡ none → place_at s.tree (entry_location e) ≡ none
unfolding node_of
no_node s e i = map_none (λ d. d.here) (place_at s.tree (entry_location e)) i

-- and no entry
pub none_tied : {s : Store} {h : Abstract} → Tie s h → (e : EntryPath) → node_of s e ≡ none → entry_of h e ≡ none
none_tied {h} t e i = map_none met (entry_of h e) (sym (node_tied t e) ∙ i)

-- outside `/rep` it has the people's tree
place_tied : {s : Store} {h : Abstract} → Tie s h → {w : Path} → Outside w → place_at s.tree w ≡ place_at h.workspace w
unfolding embed
place_tied {h} t {w} o = ap (λ s. place_at s.tree w) t.same ∙ place_outside o (stored h.entries) h.workspace

-- and so it has what a tag is put on
pub tagged_tied : {s s' : Store} {h h' : Abstract} → Tie s h → Tie s' h' → {w : Path} → Outside w
    → (e : EntryPath) (revision : ℕ) → h'.workspace ≡ tagged w e revision h.workspace
    → (d : Place Node) → place_at h.workspace w ≡ some d
    → (place_at s.tree w ≡ some d) × (place_at s'.tree w ≡ some (alter (set_tag (record { path = e; revision = revision })) d))
tagged_tied {h} t t' {w} o e revision made d there = (
  place_tied t o ∙ there,
  place_tied t' o ∙ ap (λ b. place_at b w) made ∙ changed_at h.workspace w (alter (set_tag (record { path = e; revision = revision }))) d there,
)

-- a role writes in the store where the abstract machine says so
writes_met : (u : Setup) (z : BoundedRole) (x : Filed) → filed_writable u z x ≡ true → WritesIn u z (met x)
unfolding filed_writable met in_store
writes_met u z top b = in_top (ap (λ r. r.0) (same_role_is z.role (record { 0 = 0 }) b))
writes_met u z (an_entry x) b =
    let k = and_both (is_directory x.kind) (dominated u z x.role) b in
    rw (a_directory x.kind k.0) (in_directory x.role x.revision x.content k.1)

-- the sessions are the same, and roles of one number dominate alike
pub rightful_tied : (u : Setup) {s : Store} {h : Abstract} → Tie s h → (c : Caller) (e : EntryPath) (q r : BoundedRole) → q.role ≡ r.role
    → RightfulApart u h c e q → Rightful u s c e r
unfolding embed dominated
rightful_tied u t c e q r same k = record {
  role = k.role;
  session = ap (λ s. get_or s.registry.sessions c.account.uid.0 none) t.same ∙ k.session;
  dominates = ap (dominates u.pairs k.role.role) (sym same) ∙ k.dominates;
  folder = map_place met k.folder;
  stands = met_tied t e.folder ∙ ap (map (map_place met)) k.stands;
  writes = rw (map_here met k.folder) (writes_met u k.role k.folder.here k.writes);
}

-- ---- a person's done command

-- done in a store and in the abstract machine
pub record InBoth (s : Store) (c : Caller) (s' : Store) : Type 0 where
  pub apart : Abstract
  pub tie : Tie s apart
  -- what a person walks to is outside `/rep` if it is a file or the person's own
  pub file_outside : (w : Path) (d : Place Node) → walk (by_modes c.account) apart.workspace w ≡ done d
      → not (is_directory d.here.kind) ≡ true → Outside w
  pub owned_outside : (w : Path) (d : Place Node) → walk (by_modes c.account) apart.workspace w ≡ done d
      → owns c.account d.here ≡ true → Outside w
  pub outcome : Outcome Abstract
  pub tie_after : Tie s' outcome.state

module _ (u : Setup) (setup : is_setup u ≡ true) (v : Uid) (c : Caller) (n : is_root v ≡ false) (i : caller u v ≡ done c) where
  -- done in the abstract machine with an outcome that stands for the store's
  abbrev pub both_done : {s : Store} {h : Abstract} → Tie s h → {s' : Store} (o : Outcome Abstract) → Tie s' o.state → InBoth s c s'
  both_done {h = h} t o t' = record {
    apart = h;
    tie = t;
    file_outside = file_is_outside u setup v c n i h t.kept;
    owned_outside = owned_is_outside u setup v c n i h t.kept;
    outcome = o;
    tie_after = t';
  }

-- and so is every one in a store reached without root, which is well-formed
pub in_both : (u : Setup) (s : Store) → ReachedWithoutRoot u s → (v : Uid) (c : Caller) → is_root v ≡ false → caller u v ≡ done c
    → (command : Command) (o : Outcome Store) → run store u s c command ≡ done o
    → (b : InBoth s c o.state) × (run abstract u b.apart c command ≡ done b.outcome) × (is_tree s.tree ≡ true)
in_both u s reached v c n i command o ran =
    let setup = accepted_is_setup reached.reached.text u reached.reached.taken in
    let t = reached_tie u s reached in
    let a = done_first (run_agrees u setup v c n i t.0 t.1.kept command) (ap (λ b. run store u b c command) (sym t.1.same) ∙ ran) in
    (both_done u setup v c n i t.1 a.0 a.2.state, a.1, (parts (state_of u s) (reached_well_formed u s reached.reached)).tree)
