-- Where no entry is, a person's done command leaves none, or makes one as `Making` says and by right.
use Rattle.std.specs.Prelude.{◌≡◌, true, false, ◌⊎◌}
use Rattle.std.proofs.Math.Path.{refl, ap}
use Rattle.std.proofs.Common.{sym, ◌∙◌}
use Rattle.std.proofs.Math.Option.{none, some, map}
use Rattle.std.proofs.Math.Logic.{inl, inr}
use Rattle.buffers.specs.Cases.{case}
use Rattle.accounts.specs.declared.Caller.{Caller}
use Rattle.accounts.specs.declared.Uid.{Uid}
use Rattle.accounts.specs.declared.Right.TheVariants.{R, W}
use Rattle.accounts.specs.Access.{is_root}
use Rattle.accounts.specs.Dominance.{BoundedRole}
use Rattle.syntax.specs.Path.{Path, ◌▹◌, EntryPath, parent, same_path, in_rep, entry_location, below_rep}
use Rattle.syntax.proofs.WithinLaws.{same_path_sound}
use Rattle.commands.specs.Command.{login, logout, cd, add, co, commit, up, del, Command, shell, account, entry}
use Rattle.setup.specs.Setup.{Setup}
use Rattle.tree.specs.declared.Cause.TheVariants.{Access, WrongKind, NotEmpty, Reserved, Full, NoGrant, Stale, RevisionsSpent, TooDeep}
use Rattle.tree.specs.Result.{done, Outcome}
use Rattle.tree.specs.Outcomes.{gives, Ensures}
use Rattle.tree.proofs.GivesLaws.{any_outcome, done_with, weaker, then_check, then_guard, then_do}
use Rattle.tree.specs.Forest.{Place, update, place_at, put, leaf}
use Rattle.tree.specs.Node.{Node, owns}
use Rattle.tree.specs.Walk.{by_modes, walk, parent_walk, unused, room}
use Rattle.tree.specs.WellFormed.{is_tree}
use Rattle.tree.proofs.StepLaws.{parent_walked}
use Rattle.tree.proofs.UpdateLaws.{walked_at}
use Rattle.tree.proofs.PlaceLaws.{leaf_here}
use Rattle.tree.proofs.OtherPathLaws.{put_stands, alter_none}
use Rattle.tree.proofs.HoldsLaws.{put_leaf_none, drop_still_none}
use Rattle.shell.specs.Steps.{run_shell}
use Rattle.store.specs.State.{Store}
use Rattle.store.specs.Callers.{caller}
use Rattle.machine.specs.Working.{tagged}
use Rattle.machine.specs.Machine.{run_login, run_logout, run_cd, session, run_add, run_co, working_file, original, commit_found, commit_file, run_up, run_del, run_account, run_entry, run}
use Rattle.machine.proofs.DirectoryCommitLaws.{commit_keeps_all}
use Rattle.machine.specs.StoreMachine.{store}
use Rattle.machine.specs.AbstractMachine.{Abstract, Filed, an_entry, dominated, by_dominance, new_entry}
use Rattle.machine.specs.AbstractInstance.{abstract}
use Rattle.machine.specs.Embedding.{in_store, met}
use Rattle.machine.specs.Observed.{ReachedWithoutRoot}
use Rattle.machine.proofs.TieLaws.{remove_tie}
use Rattle.machine.specs.EntryChanges.{node_of, entry_of, Making, by_add}
use Rattle.machine.proofs.EntryPlacesLaws.{same_entry, of_holds, of_none, no_entry_place, free, filed_after, revised_after, RightfulApart, by_session, node_tied, no_node, none_tied, tagged_tied, rightful_tied, InBoth, in_both}

-- ---- one command of the abstract machine

-- how a command that takes h to h' makes an entry at e
data Made (u : Setup) (h : Abstract) (c : Caller) (e : EntryPath) (h' : Abstract) : Command → Type 0 where
  adds : {w : Path} {r : BoundedRole} (d : Place Node) → walk (by_modes c.account) h.workspace w ≡ done d → owns c.account d.here ≡ true
      → entry_of h' e ≡ some (an_entry (new_entry d.here.kind r d.here.content)) → h'.workspace ≡ tagged w e 1 h.workspace
      → RightfulApart u h c e r → Made u h c e h' (entry (add w e r))

-- a single commit makes no entry
file_unmade : (u : Setup) (h : Abstract) (c : Caller) (e : EntryPath) → entry_of h e ≡ none → (w : Path)
    → Ensures (λ o. entry_of o.state e ≡ none) (commit_file abstract u h c w)
unfolding commit_file commit_found
file_unmade u h c e missing w =
    then_do (session abstract u h c) λ z _.
    then_do (walk (by_modes c.account) h.workspace w) λ f _.
    then_do (working_file abstract u h c R f) λ k _.
    then_do (original abstract u h c z k.tag.path) λ a _.
    then_do (walk (by_dominance u z) (abstract.entries h) k.tag.path.folder) λ d _.
    then_check Access tt _ λ _.
    then_check Stale tt _ λ _.
    then_check RevisionsSpent tt _ λ _.
    gives (of_none _ e (rw (revised_after k.tag.path k.node.content h)
    (alter_none (abstract.entries h) (below_rep e) (below_rep k.tag.path) _ (no_entry_place h e missing))))

module _ (u : Setup) (h : Abstract) (c : Caller) (e : EntryPath) (missing : entry_of h e ≡ none)
    (still : (e' : EntryPath) → entry_of (abstract.remove e' h) e ≡ none) where
  -- there is still no entry, or it is made in a session whose role dominates its own
  Unmade : Command → Outcome Abstract → Type 0
  Unmade command o = (entry_of o.state e ≡ none) ⊎ Made u h c e o.state command

  -- a new entry at the path, or at another
  filed_there : (e' : EntryPath) (f : Place Filed) → place_at (abstract.entries h) e'.folder ≡ some f
      → place_at (abstract.entries h) (e'.folder ▹ e'.name) ≡ none
      → (x : Filed) (h' : Abstract) → abstract.entries h' ≡ update e'.folder (put e'.name (leaf x)) (abstract.entries h)
      → (entry_of h' e ≡ none) ⊎ ((e ≡ e') × (entry_of h' e ≡ some x))
  unfolding below_rep
  filed_there e' f folder unfiled x h' made = case (same_path (below_rep e) (below_rep e'))
      (λ s.
      let q = same_entry e e' (same_path_sound (below_rep e) (below_rep e') s) in
      inr (
        q,
        rw q (of_holds h' e' x (record {
          place = leaf x;
          stands = rw made (put_stands (abstract.entries h) e'.folder f e'.name (leaf x) folder unfiled);
          here = leaf_here x;
        })),
      ))
      (λ s. inl (of_none h' e (rw made (put_leaf_none (abstract.entries h) (below_rep e) e'.folder e'.name x f folder unfiled s (no_entry_place h e missing)))))

  own_add : (w : Path) (e' : EntryPath) (r : BoundedRole) (d : Place Node)
      → walk (by_modes c.account) h.workspace w ≡ done d → owns c.account d.here ≡ true
      → RightfulApart u h c e' r → (h' : Abstract) → h'.workspace ≡ tagged w e' 1 h.workspace
      → (entry_of h' e ≡ none) ⊎ ((e ≡ e') × (entry_of h' e ≡ some (an_entry (new_entry d.here.kind r d.here.content))))
      → (entry_of h' e ≡ none) ⊎ Made u h c e h' (entry (add w e' r))
  own_add w e' r d led owned right h' workspace (inl k) = inl k
  own_add w e' r d led owned right h' workspace (inr k) =
      inr (rw (← k.0) (adds d led owned k.1 (workspace ∙ ap (λ p. tagged w p 1 h.workspace) (sym k.0)) (rw k.0 right)))

  add_unmade : (w : Path) (e' : EntryPath) (r : BoundedRole) → Ensures (Unmade (entry (add w e' r))) (run_add abstract u h c w e' r)
  unfolding run_add Unmade dominated below_rep parent
  add_unmade w e' r =
      then_do (session abstract u h c) λ z i.
      then_do (walk (by_modes c.account) h.workspace w) λ d led.
      then_check Reserved tt _ λ owned.
      then_check Access tt _ λ _.
      then_check Reserved tt _ λ right.
      then_do (parent_walk (by_dominance u z) (abstract.entries h) (below_rep e')) λ f j.
      then_guard (any_outcome (unused e'.name f.below)) λ k.
      then_check Access tt _ λ may.
      then_check Full tt _ λ _.
      let t = abstract.entries h in
      let folder = walked_at t (by_dominance u z) e'.folder f (parent_walked (by_dominance u z) t (e'.folder ▹ e'.name) j).0 in
      gives (own_add w e' r d led owned (by_session u h c z i e' f folder may r right) _ refl
      (filed_there e' f folder (free (by_dominance u z) t e' f j k) (an_entry (new_entry d.here.kind r d.here.content)) _ (filed_after e' d.here.kind r d.here.content h)))

  co_unmade : (e' : EntryPath) (d : Path) → Ensures (Unmade (entry (co e' d))) (run_co abstract u h c e' d)
  unfolding run_co entry_of Unmade
  co_unmade e' d =
      then_do (session abstract u h c) λ z _.
      then_do (room (by_modes c.account) h.workspace d) λ f _.
      then_do (walk (by_dominance u z) (abstract.entries h) (below_rep e')) λ a _.
      then_check Access tt _ λ _.
      then_check TooDeep tt _ λ _.
      then_check Full tt _ λ _.
      gives (inl missing)

  up_unmade : (w : Path) → Ensures (Unmade (entry (up w))) (run_up abstract u h c w)
  unfolding run_up entry_of Unmade
  up_unmade w =
      then_do (session abstract u h c) λ z _.
      then_do (walk (by_modes c.account) h.workspace w) λ f _.
      then_do (working_file abstract u h c W f) λ k _.
      then_do (original abstract u h c z k.tag.path) λ a _.
      gives (inl missing)

  del_unmade : (e' : EntryPath) → Ensures (Unmade (entry (del e'))) (run_del abstract u h c e')
  unfolding run_del Unmade
  del_unmade e' =
      then_do (session abstract u h c) λ z _.
      then_do (walk (by_dominance u z) (abstract.entries h) (below_rep e')) λ a _.
      then_check Access tt _ λ _.
      then_do (walk (by_dominance u z) (abstract.entries h) e'.folder) λ f _.
      then_check Access tt _ λ _.
      then_check NotEmpty tt _ λ _.
      gives (inl (still e'))

  -- any command leaves no entry there, or makes it by right
  run_unmade : (command : Command) → Ensures (Unmade command) (run abstract u h c command)
  unfolding run run_account run_entry run_login run_logout run_cd entry_of Unmade
  run_unmade (shell command) = then_do (run_shell c _ h.workspace command) λ o _. gives (inl missing)
  run_unmade (account (login z password)) = then_check NoGrant tt _ λ _. gives (inl missing)
  run_unmade (account logout) = gives (inl missing)
  run_unmade (account (cd p)) = then_do _ λ d _. then_check WrongKind tt _ λ _. then_check Access tt _ λ _. gives (inl missing)
  run_unmade (entry (add w e' r)) = add_unmade w e' r
  run_unmade (entry (co e' d)) = co_unmade e' d
  run_unmade (entry (commit w)) = weaker (λ _ k. inl k) (commit_keeps_all abstract u c (λ x. entry_of x e ≡ none) (λ x m p. file_unmade u x c e m p) h missing w)
  run_unmade (entry (up w)) = up_unmade w
  run_unmade (entry (del e')) = del_unmade e'

-- no entry is there after a done command, or it is made by right
entry_made : (u : Setup) (h : Abstract) (c : Caller) (e : EntryPath) → entry_of h e ≡ none
    → ((e' : EntryPath) → entry_of (abstract.remove e' h) e ≡ none)
    → (command : Command) (o : Outcome Abstract) → run abstract u h c command ≡ done o
    → (entry_of o.state e ≡ none) ⊎ Made u h c e o.state command
unfolding Unmade
entry_made u h c e missing still command o i = done_with (run_unmade u h c e missing still command) i

-- ---- one command of the store

-- where no node is, none is after an entry is taken out
removed_none : (s : Store) → is_tree s.tree ≡ true → (e e' : EntryPath) → place_at s.tree (entry_location e) ≡ none
    → node_of (store.remove e' s) e ≡ none
unfolding node_of
removed_none s whole e e' i = ap (map (λ d. d.here)) (drop_still_none s.tree whole (entry_location e) (in_rep e'.folder) e'.name i)

module _ (u : Setup) {s s' : Store} {c : Caller} (b : InBoth s c s') (e : EntryPath) where
  -- an entry made in both
  made_tied : {by : Command} → Made u b.apart c e b.outcome.state by → Making u s s' c e by
  unfolding met in_store new_entry
  made_tied (adds {w = w} {r = r} d led owned made workspace right) =
      let h = b.apart in
      let t = tagged_tied b.tie b.tie_after (b.owned_outside w d led owned) e 1 workspace d (walked_at h.workspace (by_modes c.account) w d led) in
      by_add (record { working = d; stood = t.0; made = node_tied b.tie_after e ∙ ap (map met) made; is_tagged = t.1 })
      (rightful_tied u b.tie c e r r refl right)

  -- or in neither
  either_tied : {command : Command} → (entry_of b.outcome.state e ≡ none) ⊎ Made u b.apart c e b.outcome.state command
      → (node_of s' e ≡ none) ⊎ Making u s s' c e command
  either_tied (inl k) = inl (node_tied b.tie_after e ∙ ap (map met) k)
  either_tied (inr k) = inr (made_tied k)

-- where no node is at an entry path, none is after a person's done command, or an entry is made there by right
pub stored_entry_made : (u : Setup) (s : Store) → ReachedWithoutRoot u s → (v : Uid) (c : Caller) → is_root v ≡ false → caller u v ≡ done c
    → (command : Command) (o : Outcome Store) → run store u s c command ≡ done o → (e : EntryPath) → node_of s e ≡ none
    → (node_of o.state e ≡ none) ⊎ Making u s o.state c e command
stored_entry_made u s reached v c n i command o ran e missing =
    let both = in_both u s reached v c n i command o ran in
    let b = both.0 in
    either_tied u b e (entry_made u b.apart c e (none_tied b.tie e missing)
    (λ e'. none_tied (remove_tie b.tie e') e (removed_none s both.2 e e' (no_node s e missing))) command b.outcome both.1)
