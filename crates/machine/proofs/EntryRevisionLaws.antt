-- Single commits one after another leave an entry as it is, or revise it by right. So a person's done command leaves an entry as it
-- is, or changes it as `Change` says and by right.
use Rattle.std.specs.Prelude.{◌≡◌, true, false, ◌⊎◌, ℕ, suc, ◌<◌}
use Rattle.std.proofs.Math.Path.{refl, ap, ap₂}
use Rattle.std.proofs.Common.{sym, ◌∙◌, arith}
use mathlib.Core.List.{List, [], ◌∷◌}
use Rattle.std.proofs.Math.Option.{some, map-eq-some_iff}
use Rattle.std.proofs.Math.Logic.{inl, inr, ⊎_elim}
use Rattle.buffers.specs.Cases.{and_both}
use Rattle.buffers.specs.Text.{Text, every}
use Rattle.accounts.specs.declared.Caller.{Caller}
use Rattle.accounts.specs.declared.Uid.{Uid}
use Rattle.accounts.specs.declared.Right.TheVariants.{R}
use Rattle.accounts.specs.Access.{is_root}
use Rattle.accounts.specs.Dominance.{BoundedRole}
use Rattle.syntax.specs.Path.{Path, EntryPath, within}
use Rattle.syntax.proofs.WithinLaws.{itself, lies_within}
use Rattle.commands.specs.Command.{add, co, commit, up, del, Command, shell, account, entry}
use Rattle.setup.specs.Setup.{Setup, is_setup}
use Rattle.setup.proofs.SetupLaws.{accepted_is_setup}
use Rattle.tree.specs.declared.Kind.{Kind}
use Rattle.tree.specs.declared.Cause.TheVariants.{Access, Stale, RevisionsSpent}
use Rattle.tree.specs.Result.{Result, done, Outcome}
use Rattle.tree.proofs.ResultLaws.{by_result}
use Rattle.tree.specs.Outcomes.{gives, Ensures}
use Rattle.tree.proofs.GivesLaws.{done_with, then_check, then_do}
use Rattle.tree.proofs.AgreeLaws.{done_first}
use Rattle.tree.specs.Walk.{by_modes, walk}
use Rattle.tree.specs.Files.{files_below}
use Rattle.tree.proofs.FilesLaws.{files_within}
use Rattle.store.specs.State.{Store}
use Rattle.store.specs.Callers.{caller}
use Rattle.machine.specs.Working.{then_commits, commit_each}
use Rattle.machine.specs.Machine.{session, working_file, original, commit_found, commit_file, run_entry, run}
use Rattle.machine.proofs.DirectoryCommitLaws.{commit_done}
use Rattle.machine.specs.StoreMachine.{entry_node, store}
use Rattle.machine.specs.AbstractMachine.{Abstract, by_dominance}
use Rattle.machine.specs.AbstractInstance.{abstract}
use Rattle.machine.specs.Embedding.{met}
use Rattle.machine.specs.Observed.{ReachedWithoutRoot}
use Rattle.machine.specs.Simulation.{Tie}
use Rattle.machine.proofs.SimulationLaws.{kept_out, file_agrees}
use Rattle.machine.proofs.ComparedLaws.{reached_tie}
use Rattle.machine.specs.EntryChanges.{FiledAs, entry_of, Rightful, Committed, Revised, no_more, another's, its_own, Change, by_commit, by_directory}
use Rattle.machine.proofs.EntryPlacesLaws.{revised_after, RightfulApart, revised_right, node_tied, rightful_tied, both_done, in_both}
use Rattle.machine.proofs.EntryChangesLaws.{is_commit, Guarded, file_guarded, entry_changed, met_role, either_tied, file_tied}

-- a right that is there after a single commit was there before it
file_right : (u : Setup) (h : Abstract) (c : Caller) (e : EntryPath) (r : BoundedRole) (w : Path)
    → Ensures (λ o. RightfulApart u o.state c e r → RightfulApart u h c e r) (commit_file abstract u h c w)
unfolding commit_file commit_found
file_right u h c e r w =
    then_do (session abstract u h c) λ z _.
    then_do (walk (by_modes c.account) h.workspace w) λ f _.
    then_do (working_file abstract u h c R f) λ k _.
    then_do (original abstract u h c z k.tag.path) λ a _.
    then_do (walk (by_dominance u z) (abstract.entries h) k.tag.path.folder) λ d _.
    then_check Access tt _ λ _.
    then_check Stale tt _ λ _.
    then_check RevisionsSpent tt _ λ _.
    gives (revised_right u c e h _ k.tag.path k.node.content refl (revised_after k.tag.path k.node.content h) r)

module _ (u : Setup) (g : is_setup u ≡ true) (v : Uid) (c : Caller) (n : is_root v ≡ false) (i : caller u v ≡ done c) (e : EntryPath) (kind : Kind) (r : BoundedRole) where
  -- what a single commit leaves: a state of the abstract machine that stands for the store, with no right that was not there; the entry
  -- as it is, or committed by right
  record Left (s : Store) (h : Abstract) (w : Path) (s' : Store) : Type 0 where
    apart : Abstract
    tie : Tie s' apart
    right : RightfulApart u apart c e r → RightfulApart u h c e r
    entry : (revision : ℕ) (content : Text) → FiledAs s e kind r revision content
        → FiledAs s' e kind r revision content ⊎ (Committed s s' e kind r revision w × RightfulApart u h c e r)

  file_leaves : (s : Store) (h : Abstract) → Tie s h → (w : Path) (o : Outcome Store) → commit_file store u s c w ≡ done o → Left s h w o.state
  unfolding Guarded
  file_leaves s h t w o ran =
      let a = done_first (file_agrees u c (kept_out u g v c n i) h t.kept w) (ap (λ x. commit_file store u x c w) (sym t.same) ∙ ran) in
      record {
        apart = a.0.state;
        tie = a.2.state;
        right = done_with (file_right u h c e r w) a.1;
        entry = λ revision content stood.
            let x = (map-eq-some_iff met (entry_of h e)).0 (sym (node_tied t e) ∙ stood) in
            let y = met_role kind r revision content x.0 x.2 in
            file_tied kind r revision content u (both_done u g v c n i t a.0 a.2.state) e y.0 (ap met (sym y.1) ∙ x.2) y.2
            (done_with (file_guarded u h c e y.0 (x.1 ∙ ap some y.1) w) a.1);
      }

  -- the entry after several, one after another
  record Went (w : Path) (s : Store) (h : Abstract) (revision : ℕ) (content : Text) (s' : Store) : Type 0 where
    v' : ℕ
    content' : Text
    filed : FiledAs s' e kind r v' content'
    chain : Revised e kind r w s revision s' v'
    how : ((v' ≡ revision) × (content' ≡ content)) ⊎ ((revision < v') × RightfulApart u h c e r)

  -- one more in front of them
  went_on : (w p : Path) → within w p ≡ true → {s t s' : Store} {h h' : Abstract} → (RightfulApart u h' c e r → RightfulApart u h c e r)
      → {revision : ℕ} {content : Text} → FiledAs s e kind r revision content
      → FiledAs t e kind r revision content ⊎ (Committed s t e kind r revision p × RightfulApart u h c e r)
      → ((revision' : ℕ) (content' : Text) → FiledAs t e kind r revision' content' → Went w t h' revision' content' s') → Went w s h revision content s'
  went_on w p l before {revision} {content} stood (inl k) rest =
      let x = rest revision content k in
      record {
        v' = x.v';
        content' = x.content';
        filed = x.filed;
        chain = another's content stood k x.chain;
        how = ⊎_elim inl (λ m. inr (m.0, before m.1)) x.how;
      }
  went_on w p l before {revision} {content} stood (inr k) rest =
      let x = rest (suc revision) k.0.working.here.content k.0.revised in
      record {
        v' = x.v';
        content' = x.content';
        filed = x.filed;
        chain = its_own l k.0 x.chain;
        how = inr (⊎_elim (λ m. omega (arith, m.0)) (λ m. omega (arith, m.0)) x.how, k.1);
      }

  abbrev single : Store → Path → Result (Outcome Store)
  single s p = commit_file store u s c p

  each_leaves : (w : Path) (ws : List Path) → every (within w) ws ≡ true → (s : Store) (h : Abstract) → Tie s h → (revision : ℕ) (content : Text)
      → FiledAs s e kind r revision content → Went w s h revision content (commit_each single ws s).state
  unfolding commit_each then_commits every
  each_leaves w [] l s h t revision content stood = record { v' = revision; content' = content; filed = stood; chain = no_more; how = inl (refl, refl) }
  each_leaves w (p ∷ ws) l s h t revision content stood =
      let m = and_both (within w p) (every (within w) ws) l in
      by_result (single s p)
      (λ why k. rw k (each_leaves w ws m.1 s h t revision content stood))
      (λ o k.
      let f = file_leaves s h t p o k in
      rw k (went_on w p m.0 f.right stood (f.entry revision content stood) (each_leaves w ws m.1 o.state f.apart f.tie)))

  -- a commit, of a file or of a directory
  commit_changed : (s : Store) (h : Abstract) → Tie s h → (w : Path) (o : Outcome Store) → run store u s c (entry (commit w)) ≡ done o
      → (revision : ℕ) (content : Text) → FiledAs s e kind r revision content
      → FiledAs o.state e kind r revision content ⊎ (Change s o.state e kind r revision (entry (commit w)) × Rightful u s c e r)
  unfolding run run_entry
  commit_changed s h t w o ran revision content stood = ⊎_elim
      (λ k. ⊎_elim inl (λ m. inr (by_commit m.0, rightful_tied u t c e r r refl m.1)) ((file_leaves s h t w o k).entry revision content stood))
      (λ k.
      let ws = files_below (by_modes c.account) w k.0.below in
      let x = each_leaves w ws (files_within (by_modes c.account) w w k.0.below (lies_within itself)) s h t revision content stood in
      rw k.1 (⊎_elim
      (λ m. inl (x.filed ∙ ap₂ (λ a b. some (entry_node kind r a b)) m.0 m.1))
      (λ m. inr (by_directory x.chain m.0, rightful_tied u t c e r r refl m.1))
      x.how))
      (commit_done store u c s w o ran)

-- a command is a commit or not
commit_or_not : (command : Command) → ((w : Path) × (command ≡ entry (commit w))) ⊎ (is_commit command ≡ false)
unfolding is_commit
commit_or_not (shell command) = inr refl
commit_or_not (account command) = inr refl
commit_or_not (entry (add w e r)) = inr refl
commit_or_not (entry (co e d)) = inr refl
commit_or_not (entry (commit w)) = inl (w, refl)
commit_or_not (entry (up w)) = inr refl
commit_or_not (entry (del e)) = inr refl

-- an entry's node stays under a person's done command, or is changed by right
pub stored_entry_changed : (u : Setup) (s : Store) → ReachedWithoutRoot u s → (v : Uid) (c : Caller) → is_root v ≡ false → caller u v ≡ done c
    → (command : Command) (o : Outcome Store) → run store u s c command ≡ done o
    → (e : EntryPath) (kind : Kind) (r : BoundedRole) (revision : ℕ) (content : Text) → FiledAs s e kind r revision content
    → FiledAs o.state e kind r revision content ⊎ (Change s o.state e kind r revision command × Rightful u s c e r)
stored_entry_changed u s reached v c n i command o ran e kind r revision content stood = ⊎_elim
    (λ k.
    let t = reached_tie u s reached in
    let g = accepted_is_setup reached.reached.text u reached.reached.taken in
    let m = commit_changed u g v c n i e kind r s t.0 t.1 k.0 o (rw k.1 at ran) revision content stood in
    rw k.1 m)
    (λ k.
    let both = in_both u s reached v c n i command o ran in
    let b = both.0 in
    let x = (map-eq-some_iff met (entry_of b.apart e)).0 (sym (node_tied b.tie e) ∙ stood) in
    let y = met_role kind r revision content x.0 x.2 in
    either_tied kind r revision content u b e y.0 (ap met (sym y.1) ∙ x.2) y.2 both.2
    (entry_changed u b.apart c command k b.outcome both.1 e y.0 (x.1 ∙ ap some y.1)))
    (commit_or_not command)
