-- The commands on entries leave the registry of the store as it was.
use Rattle.std.specs.Prelude.{◌≡◌}
use Rattle.std.proofs.Math.Path.{refl}
use Rattle.std.proofs.Common.{◌∙◌}
use Rattle.accounts.specs.declared.Caller.{Caller}
use Rattle.accounts.specs.Dominance.{BoundedRole}
use Rattle.syntax.specs.Path.{Path, EntryPath}
use Rattle.commands.specs.Command.{EntryAction, add, co, commit, up, del}
use Rattle.setup.specs.Setup.{Setup}
use Rattle.tree.specs.declared.Cause.TheVariants.{Access, NotEmpty, Reserved, Full, Stale, RevisionsSpent, TooDeep}
use Rattle.tree.specs.Result.{Result, done, Outcome}
use Rattle.tree.specs.Outcomes.{gives, Ensures}
use Rattle.tree.proofs.GivesLaws.{any_outcome, done_with, weaker, then_check, then_guard, then_do}
use Rattle.store.specs.State.{Store}
use Rattle.machine.specs.Machine.{run_add, run_co, commit_found, commit_file, run_up, run_del, run_entry}
use Rattle.machine.proofs.DirectoryCommitLaws.{commit_keeps_all}
use Rattle.machine.specs.StoreMachine.{store}

module _ (u : Setup) (s : Store) (c : Caller) where
  abbrev KeepsRegistry : Result (Outcome Store) → Type 0
  KeepsRegistry r = Ensures (λ o. o.state.registry ≡ s.registry) r

  add_registry : (w : Path) (e : EntryPath) (r : BoundedRole) → KeepsRegistry (run_add store u s c w e r)
  unfolding run_add
  add_registry w e r =
      then_do _ λ z _.
      then_do _ λ d _.
      then_check Reserved tt _ λ _.
      then_check Access tt _ λ _.
      then_check Reserved tt _ λ _.
      then_do _ λ f _.
      then_guard (any_outcome _) λ _.
      then_check Access tt _ λ _.
      then_check Full tt _ λ _.
      gives refl

  co_registry : (e : EntryPath) (d : Path) → KeepsRegistry (run_co store u s c e d)
  unfolding run_co
  co_registry e d =
      then_do _ λ z _.
      then_do _ λ f _.
      then_do _ λ a _.
      then_check Access tt _ λ _.
      then_check TooDeep tt _ λ _.
      then_check Full tt _ λ _.
      gives refl

  pub file_registry : (w : Path) → KeepsRegistry (commit_file store u s c w)
  unfolding commit_file commit_found
  file_registry w =
      then_do _ λ z _.
      then_do _ λ d _.
      then_do _ λ k _.
      then_do _ λ a _.
      then_do _ λ f _.
      then_check Access tt _ λ _.
      then_check Stale tt _ λ _.
      then_check RevisionsSpent tt _ λ _.
      gives refl

  up_registry : (w : Path) → KeepsRegistry (run_up store u s c w)
  unfolding run_up
  up_registry w =
      then_do _ λ z _.
      then_do _ λ d _.
      then_do _ λ k _.
      then_do _ λ a _.
      gives refl

  del_registry : (e : EntryPath) → KeepsRegistry (run_del store u s c e)
  unfolding run_del
  del_registry e =
      then_do _ λ z _.
      then_do _ λ d _.
      then_check Access tt _ λ _.
      then_do _ λ f _.
      then_check Access tt _ λ _.
      then_check NotEmpty tt _ λ _.
      gives refl

module _ (u : Setup) (s : Store) (c : Caller) where
  pub entry_registry : (command : EntryAction) → KeepsRegistry u s c (run_entry store u s c command)
  unfolding run_entry
  entry_registry (add w e r) = add_registry u s c w e r
  entry_registry (co e d) = co_registry u s c e d
  entry_registry (commit w) =
      commit_keeps_all store u c (λ t. t.registry ≡ s.registry) (λ t h p. weaker (λ _ k. k ∙ h) (file_registry u t c p)) s refl w
  entry_registry (up w) = up_registry u s c w
  entry_registry (del e) = del_registry u s c e

  pub entry_keeps_registry : (command : EntryAction) {o : Outcome Store} → run_entry store u s c command ≡ done o → o.state.registry ≡ s.registry
  entry_keeps_registry command q = done_with (entry_registry command) q
