-- A command of the abstract machine leaves an entry as it is, or changes it by right; and how that stands in the store. Commits one
-- after another, and any command of a person, are in EntryRevisionLaws.
use Rattle.std.specs.Prelude.{◌≡◌, Bool, true, false, ◌⊎◌, ℕ, suc, eqb}
use Rattle.std.proofs.Math.Path.{refl, sym, ap}
use Rattle.std.proofs.Common.{◌∙◌, arith, eqb-true}
use Rattle.std.proofs.Math.Option.{none, some, map}
use Rattle.std.proofs.Math.Bool.{not}
use Rattle.std.proofs.Math.Logic.{inl, inr}
use Rattle.std.proofs.lemmas.Bool.{not-true}
use Rattle.buffers.specs.Cases.{case, contra}
use Rattle.buffers.specs.Text.{Text}
use Rattle.accounts.specs.declared.Caller.{Caller}
use Rattle.accounts.specs.declared.Right.TheVariants.{R, W}
use Rattle.accounts.specs.Dominance.{BoundedRole}
use Rattle.accounts.proofs.ServiceLaws.{service_role}
use Rattle.syntax.specs.Path.{Path, EntryPath, same_path, in_rep, entry_location, below_rep}
use Rattle.syntax.proofs.WithinLaws.{same_path_sound}
use Rattle.syntax.proofs.FormLaws.{answered}
use Rattle.commands.specs.Command.{login, logout, cd, add, co, commit, up, del, Command, shell, account, entry}
use Rattle.setup.specs.Setup.{Setup}
use Rattle.tree.specs.declared.Kind.{Kind}
use Rattle.tree.specs.declared.Kind.TheVariants.{File, Directory}
use Rattle.tree.specs.declared.Cause.TheVariants.{Access, WrongKind, NotEmpty, Reserved, Full, NoGrant, Stale, Untagged, RevisionsSpent, TooDeep}
use Rattle.tree.specs.Result.{done, present, Outcome}
use Rattle.tree.proofs.ResultLaws.{present_some}
use Rattle.tree.specs.Outcomes.{gives, Ensures}
use Rattle.tree.proofs.GivesLaws.{any_outcome, done_with, then_step, then_check, then_guard, then_do}
use Rattle.tree.specs.Forest.{Place, Holds}
use Rattle.tree.specs.Node.{is_directory, Node, set_content}
use Rattle.tree.specs.Walk.{by_modes, walk, parent_walk, unused, room}
use Rattle.tree.proofs.UpdateLaws.{walked_at}
use Rattle.tree.specs.WellFormed.{is_tree}
use Rattle.tree.proofs.JudgeLaws.{directory_is_one, set_revision_is, set_content_is}
use Rattle.tree.proofs.OtherPathLaws.{drop_gone}
use Rattle.tree.proofs.HoldsLaws.{holds_altered, holds_alter, holds_put, holds_drop}
use Rattle.shell.specs.Steps.{run_shell}
use Rattle.store.specs.State.{Store}
use Rattle.store.specs.Initial.{directory_of, rep_node}
use Rattle.machine.specs.Working.{Working, tagged}
use Rattle.machine.specs.Machine.{run_login, run_logout, run_cd, session, run_add, run_co, working_file, original, commit_found, commit_file, run_up, run_del, run_account, run_entry, run}
use Rattle.machine.specs.StoreMachine.{entry_mode, entry_node, next_node, store}
use Rattle.machine.specs.AbstractMachine.{Entry, Abstract, Filed, top, an_entry, filed_kind, filed_readable, by_dominance, filed_revision, next_entry}
use Rattle.machine.specs.AbstractInstance.{abstract}
use Rattle.machine.specs.Embedding.{in_store, met, embed}
use Rattle.machine.proofs.EntryJudgeLaws.{next_law}
use Rattle.machine.proofs.TieLaws.{remove_tie}
use Rattle.machine.specs.EntryChanges.{node_of, FiledAs, entry_of, Rightful, Committed, Change, by_commit, by_del}
use Rattle.machine.proofs.EntryPlacesLaws.{same_entry, holds_of, of_holds, free, next_filed, filed_after, revised_after, removed_after, RightfulApart, by_session, same_role_right, node_tied, tagged_tied, rightful_tied, InBoth}

-- ---- one command of the abstract machine

-- a commit, of a file or of a directory
unfoldable pub is_commit : Command → Bool
is_commit (shell command) = false
is_commit (account command) = false
is_commit (entry (add w e r)) = false
is_commit (entry (co e d)) = false
is_commit (entry (commit w)) = true
is_commit (entry (up w)) = false
is_commit (entry (del e)) = false

-- where the walk to a working file led, and what was found there
pub record Worked (h : Abstract) (c : Caller) (w : Path) (k : Working) : Type 0 where
  place : Place Node
  led : walk (by_modes c.account) h.workspace w ≡ done place
  here : place.here ≡ k.node
  a_file : not (is_directory place.here.kind) ≡ true
  tag : place.here.tag ≡ some k.tag

worked : (u : Setup) (h : Abstract) (c : Caller) (w : Path) (d : Place Node) → walk (by_modes c.account) h.workspace w ≡ done d
    → Ensures (Worked h c w) (working_file abstract u h c R d)
unfolding working_file
worked u h c w d i =
    then_check WrongKind tt _ λ b.
    then_check Access tt _ λ _.
    then_do (present d.here.tag Untagged) λ t j.
    gives (record { place = d; led = i; here = refl; a_file = b; tag = present_some d.here.tag Untagged j })

-- the account's walk to a tag's entry led there, to a file that it may read
record Original (u : Setup) (h : Abstract) (z : BoundedRole) (e : EntryPath) (a : Place Filed) : Type 0 where
  walked : walk (by_dominance u z) (abstract.entries h) (below_rep e) ≡ done a
  a_file : not (is_directory ((by_dominance u z).kind a.here)) ≡ true
  readable : (by_dominance u z).readable a.here ≡ true

original_found : (u : Setup) (h : Abstract) (c : Caller) (z : BoundedRole) (e : EntryPath)
    → Ensures (Original u h z e) (original abstract u h c z e)
unfolding original
original_found u h c z e =
    then_do (walk (by_dominance u z) (abstract.entries h) (below_rep e)) λ a w.
    then_check WrongKind tt _ λ b.
    then_check Access tt _ λ r.
    gives (record { walked = w; a_file = b; readable = r })

-- what is no directory is a file
file_kind : (k : Kind) → not (is_directory k) ≡ true → k ≡ File
file_kind File b = refl
file_kind Directory b = contra directory_is_one (not-true (is_directory Directory) b)

-- how a command that takes h to h' changes the entry x at e
pub data Changed (h : Abstract) (c : Caller) (e : EntryPath) (x : Entry) (h' : Abstract) : Command → Type 0 where
  commits : {w : Path} {k : Working} → Worked h c w k → k.tag ≡ record { path = e; revision = x.revision } → x.kind ≡ File
      → entry_of h' e ≡ some (an_entry (next_entry k.node.content x)) → h'.workspace ≡ tagged w e (suc x.revision) h.workspace
      → Changed h c e x h' (entry (commit w))
  deletes : h' ≡ abstract.remove e h → Changed h c e x h' (entry (del e))

module _ (u : Setup) (h : Abstract) (c : Caller) (e : EntryPath) (x : Entry) (same : entry_of h e ≡ some (an_entry x)) where
  -- the entry stays, or is changed in a session whose role dominates its own
  unfoldable pub Guarded : Command → Outcome Abstract → Type 0
  Guarded command o = (entry_of o.state e ≡ some (an_entry x)) ⊎ (Changed h c e x o.state command × RightfulApart u h c e x.role)

  -- the place where it stands
  there : Holds (abstract.entries h) (below_rep e) (an_entry x)
  there = holds_of h e (an_entry x) same

  -- it is what a walk there meets
  its_entry : (z : BoundedRole) (a : Place Filed) → walk (by_dominance u z) (abstract.entries h) (below_rep e) ≡ done a → a.here ≡ an_entry x
  its_entry z a w = ap (λ d. d.here) (answered (sym there.stands ∙ walked_at (abstract.entries h) (by_dominance u z) (below_rep e) a w)) ∙ there.here

  -- where the session's role reads the entry, it dominates the entry's
  rightful : (z : BoundedRole) → session abstract u h c ≡ done z → (a : Place Filed)
      → walk (by_dominance u z) (abstract.entries h) (below_rep e) ≡ done a
      → (by_dominance u z).readable a.here ≡ true
      → (f : Place Filed) → walk (by_dominance u z) (abstract.entries h) e.folder ≡ done f
      → (by_dominance u z).writable f.here ≡ true → RightfulApart u h c e x.role
  unfolding by_dominance filed_readable
  rightful z i a w b f v m =
      by_session u h c z i e f (walked_at (abstract.entries h) (by_dominance u z) e.folder f v) m x.role (ap (filed_readable u z) (sym (its_entry z a w)) ∙ b)

  add_guarded : (w : Path) (e' : EntryPath) (role' : BoundedRole)
      → Ensures (Guarded (entry (add w e' role'))) (run_add abstract u h c w e' role')
  unfolding run_add Guarded
  add_guarded w e' role' =
      then_do (session abstract u h c) λ z _.
      then_do (walk (by_modes c.account) h.workspace w) λ d _.
      then_check Reserved tt _ λ _.
      then_check Access tt _ λ _.
      then_check Reserved tt _ λ _.
      then_do (parent_walk (by_dominance u z) (abstract.entries h) (below_rep e')) λ f i.
      then_guard (any_outcome (unused e'.name f.below)) λ j.
      then_check Access tt _ λ _.
      then_check Full tt _ λ _.
      gives (inl (of_holds _ e (an_entry x) (rw (filed_after e' d.here.kind role' d.here.content h)
      (holds_put (below_rep e) e'.folder there e'.name _ (free (by_dominance u z) (abstract.entries h) e' f i j)))))

  co_guarded : (e' : EntryPath) (d : Path) → Ensures (Guarded (entry (co e' d))) (run_co abstract u h c e' d)
  unfolding run_co entry_of Guarded
  co_guarded e' d =
      then_do (session abstract u h c) λ z _.
      then_do (room (by_modes c.account) h.workspace d) λ f _.
      then_do (walk (by_dominance u z) (abstract.entries h) (below_rep e')) λ a _.
      then_check Access tt _ λ _.
      then_check TooDeep tt _ λ _.
      then_check Full tt _ λ _.
      gives (inl same)

  -- a commit of a working file of the entry, with what it was done after
  own_commit : (w : Path) (k : Working) → Worked h c w k → (z : BoundedRole) → session abstract u h c ≡ done z
      → (a : Place Filed) → Original u h z k.tag.path a
      → (d : Place Filed) → walk (by_dominance u z) (abstract.entries h) k.tag.path.folder ≡ done d → (by_dominance u z).writable d.here ≡ true
      → eqb k.tag.revision (filed_revision a.here) ≡ true
      → below_rep e ≡ below_rep k.tag.path
      → (t : Abstract)
      → t ≡ abstract.on_workspace (tagged w k.tag.path (suc (filed_revision a.here))) (abstract.revise k.tag.path k.node.content h)
      → Changed h c e x t (entry (commit w)) × RightfulApart u h c e x.role
  unfolding by_dominance filed_kind filed_revision next_filed
  own_commit w k g z j a f d led may fresh q t made =
      let s : k.tag.path ≡ e = sym (same_entry e k.tag.path q) in
      let v : walk (by_dominance u z) (abstract.entries h) (below_rep e) ≡ done a = rw q f.walked in
      let y = its_entry z a v in
      let r : filed_revision a.here ≡ x.revision = ap filed_revision y in (
        commits g
            (λ m. record { path = s m; revision = (eqb-true k.tag.revision (filed_revision a.here) fresh ∙ r) m })
            (file_kind x.kind (ap (λ n. not (is_directory (filed_kind n))) (sym y) ∙ f.a_file))
            (rw (made, s) (of_holds _ e _ (rw (revised_after e k.node.content h) (holds_altered (below_rep e) there (next_filed k.node.content)))))
            (rw (made, s, r)),
        rightful z j a v f.readable d (rw (← s) led) may,
      )

  pub file_guarded : (w : Path) → Ensures (Guarded (entry (commit w))) (commit_file abstract u h c w)
  unfolding commit_file commit_found Guarded
  file_guarded w =
      then_do (session abstract u h c) λ z j.
      then_do (walk (by_modes c.account) h.workspace w) λ y i.
      then_step (worked u h c w y i) λ k g.
      then_step (original_found u h c z k.tag.path) λ a f.
      then_do (walk (by_dominance u z) (abstract.entries h) k.tag.path.folder) λ d led.
      then_check Access tt _ λ may.
      then_check Stale tt _ λ fresh.
      then_check RevisionsSpent tt _ λ _.
      gives (case (same_path (below_rep e) (below_rep k.tag.path))
      (λ s. inr (own_commit w k g z j a f d led may fresh (same_path_sound (below_rep e) (below_rep k.tag.path) s) _ refl))
      (λ s. inl (of_holds _ e (an_entry x) (rw (revised_after k.tag.path k.node.content h) (holds_alter (below_rep e) (below_rep k.tag.path) there _ s)))))

  up_guarded : (w : Path) → Ensures (Guarded (entry (up w))) (run_up abstract u h c w)
  unfolding run_up entry_of Guarded
  up_guarded w =
      then_do (session abstract u h c) λ z _.
      then_do (walk (by_modes c.account) h.workspace w) λ y _.
      then_do (working_file abstract u h c W y) λ k _.
      then_do (original abstract u h c z k.tag.path) λ a _.
      gives (inl same)

  del_guarded : (e' : EntryPath) → Ensures (Guarded (entry (del e'))) (run_del abstract u h c e')
  unfolding run_del Guarded below_rep
  del_guarded e' =
      then_do (session abstract u h c) λ z i.
      then_do (walk (by_dominance u z) (abstract.entries h) (below_rep e')) λ a w.
      then_check Access tt _ λ b.
      then_do (walk (by_dominance u z) (abstract.entries h) e'.folder) λ f v.
      then_check Access tt _ λ m.
      then_check NotEmpty tt _ λ alone.
      gives (case (same_path (below_rep e) (below_rep e'))
      (λ s.
      let q = same_path_sound (below_rep e) (below_rep e') s in
      inr (rw (← same_entry e e' q) (deletes refl), rightful z i a (rw q w) b f (rw (same_entry e e' q) v) m))
      (λ s. inl (of_holds _ e (an_entry x) (rw (removed_after e' h)
      (holds_drop (below_rep e) e'.folder there e'.name a (walked_at (abstract.entries h) (by_dominance u z) (below_rep e') a w) alone s)))))

  -- any command but a commit leaves the entry, or changes it by right
  run_guarded : (command : Command) → is_commit command ≡ false → Ensures (Guarded command) (run abstract u h c command)
  unfolding run run_account run_entry run_login run_logout run_cd entry_of Guarded is_commit
  run_guarded (shell command) n = then_do (run_shell c _ h.workspace command) λ o _. gives (inl same)
  run_guarded (account (login z password)) n = then_check NoGrant tt _ λ _. gives (inl same)
  run_guarded (account logout) n = gives (inl same)
  run_guarded (account (cd p)) n = then_do _ λ d _. then_check WrongKind tt _ λ _. then_check Access tt _ λ _. gives (inl same)
  run_guarded (entry (add w e' role')) n = add_guarded w e' role'
  run_guarded (entry (co e' d)) n = co_guarded e' d
  run_guarded (entry (commit w)) n = contra refl n
  run_guarded (entry (up w)) n = up_guarded w
  run_guarded (entry (del e')) n = del_guarded e'

-- an entry stays under a done command that is no commit, or is changed by right
pub entry_changed : (u : Setup) (h : Abstract) (c : Caller) (command : Command) → is_commit command ≡ false → (o : Outcome Abstract)
    → run abstract u h c command ≡ done o → (e : EntryPath) (x : Entry) → entry_of h e ≡ some (an_entry x)
    → (entry_of o.state e ≡ some (an_entry x)) ⊎ (Changed h c e x o.state command × RightfulApart u h c e x.role)
unfolding Guarded
entry_changed u h c command n o i e x same = done_with (run_guarded u h c e x same command n) i

-- ---- one command of the store

-- no node stands where an entry was taken out
removed_node : (s : Store) → is_tree s.tree ≡ true → (e : EntryPath) → node_of (store.remove e s) e ≡ none
unfolding node_of entry_location in_rep
removed_node s whole e = ap (map (λ d. d.here)) (drop_gone s.tree whole (in_rep e.folder) e.name)

-- an entry's mode is not that of `/rep`
rep_mode : {P : Type 0} (kind : Kind) → rep_node.mode ≡ entry_mode kind → P
unfolding rep_node directory_of entry_mode
rep_mode File i = let z : ⊥ = omega arith in absurd z
rep_mode Directory i = let z : ⊥ = omega arith in absurd z

module _ (kind : Kind) (r : BoundedRole) (revision : ℕ) (content : Text) where
  -- what stands as an entry's node is an entry of that role
  pub met_role : (x : Filed) → met x ≡ entry_node kind r revision content → (y : Entry) × (x ≡ an_entry y) × (y.role.role ≡ r.role)
  unfolding met in_store entry_node
  met_role top i = rep_mode kind (ap (λ a. a.mode) i)
  met_role (an_entry y) i =
      (y, refl, service_role y.role.role r.role (ap (λ a. a.owner) i))

  -- with new content it has the next revision
  next_entry_node : (content' : Text) → next_node content' (entry_node kind r revision content) ≡ entry_node kind r (suc revision) content'
  unfolding next_node entry_node
  next_entry_node content' =
      let n = entry_node kind r revision content in
      rw (set_revision_is (set_content content' n) (suc n.revision), set_content_is n content')

  module _ (u : Setup) {s s' : Store} {c : Caller} (b : InBoth s c s') (e : EntryPath) (y : Entry) (i : met (an_entry y) ≡ entry_node kind r revision content) where
    abbrev h : Abstract
    h = b.apart

    abbrev h' : Abstract
    h' = b.outcome.state

    -- the entry committed in both
    committed_tied : {w : Path} → Changed h c e y h' (entry (commit w)) → Committed s s' e kind r revision w
    unfolding met in_store entry_node
    committed_tied (commits {w = w} {k = k} g tag a_file next workspace) =
        let d = g.place in
        let v : y.revision ≡ revision = ap (λ n. n.revision) i in
        let content' = k.node.content in
        let o = b.file_outside w d g.led g.a_file in
        let retagged = workspace ∙ ap (λ v. tagged w e (suc v) h.workspace) v in
        let t = tagged_tied b.tie b.tie_after o e (suc revision) retagged d (walked_at h.workspace (by_modes c.account) w d g.led) in
        record {
          working = d;
          stood = t.0;
          working_is_file = file_kind d.here.kind g.a_file;
          was_tagged = g.tag ∙ ap some tag ∙ ap (λ v. some (record { path = e; revision = v })) v;
          entry_is_file = ap (λ n. n.kind) (sym i) ∙ a_file;
          revised = node_tied b.tie_after e ∙ ap (map met) next
              ∙ ap some (sym (next_law content' y) ∙ ap (next_node content') i ∙ next_entry_node content')
              ∙ ap (λ n. some (entry_node kind r (suc revision) n.content)) (sym g.here);
          is_tagged = t.1;
        }

    -- the entry changed in both
    change_tied : is_tree s.tree ≡ true → {by : Command} → Changed h c e y h' by → Change s s' e kind r revision by
    change_tied whole (commits g tag a_file next workspace) = by_commit (committed_tied (commits g tag a_file next workspace))
    change_tied whole (deletes gone) = by_del (ap (λ b. node_of b e) (b.tie_after.same ∙ ap embed gone ∙ sym (remove_tie b.tie e).same) ∙ removed_node s whole e)

    -- or left in both
    left_tied : entry_of h' e ≡ some (an_entry y) → FiledAs s' e kind r revision content
    left_tied k = node_tied b.tie_after e ∙ ap (map met) k ∙ ap some i

    module _ (same : y.role.role ≡ r.role) where
      pub either_tied : is_tree s.tree ≡ true → {command : Command}
          → (entry_of h' e ≡ some (an_entry y)) ⊎ (Changed h c e y h' command × RightfulApart u h c e y.role)
          → FiledAs s' e kind r revision content ⊎ (Change s s' e kind r revision command × Rightful u s c e r)
      either_tied whole (inl k) = inl (left_tied k)
      either_tied whole (inr k) = inr (change_tied whole k.0, rightful_tied u b.tie c e y.role r same k.1)

      -- by a single commit
      pub file_tied : {w : Path} → (entry_of h' e ≡ some (an_entry y)) ⊎ (Changed h c e y h' (entry (commit w)) × RightfulApart u h c e y.role)
          → FiledAs s' e kind r revision content ⊎ (Committed s s' e kind r revision w × RightfulApart u h c e r)
      file_tied (inl k) = inl (left_tied k)
      file_tied (inr k) = inr (committed_tied k.0, same_role_right u c e same k.1)
