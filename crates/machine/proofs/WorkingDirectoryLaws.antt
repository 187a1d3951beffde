-- Only a done `cd` moves a working directory, and that of its caller alone.
use Rattle.std.specs.Prelude.{◌≡◌, refl, eqb}
use Rattle.std.proofs.Common.{ap, inr, eqb-true}
use Rattle.std.proofs.Math.Logic.{inl}
use Rattle.std.proofs.lemmas.Bool.{eqb-false}
use Rattle.buffers.specs.Cases.{case}
use Rattle.accounts.specs.declared.Caller.{Caller}
use Rattle.syntax.specs.Path.{Path}
use Rattle.commands.specs.Command.{AccountAction, login, logout, cd, Command, shell, account, entry}
use Rattle.setup.specs.Setup.{Setup}
use Rattle.tree.specs.declared.Cause.TheVariants.{Access, WrongKind, NoGrant}
use Rattle.tree.specs.Result.{done, Outcome}
use Rattle.tree.specs.Outcomes.{gives, Ensures}
use Rattle.tree.proofs.GivesLaws.{done_with, weaker, then_check, then_do}
use Rattle.store.specs.State.{Registry, working_directory, set_directory, Store}
use Rattle.store.proofs.RegistryLaws.{session_keeps_working_directory, directory_of_another}
use Rattle.machine.specs.Machine.{run_login, run_logout, run_cd, run_account, run}
use Rattle.machine.specs.StoreMachine.{store}
use Rattle.machine.proofs.ActingLaws.{entry_registry}
use Rattle.machine.specs.WorkingDirectory.{MovedByCd}

module _ (u : Setup) (s : Store) (c : Caller) where
  abbrev Moves : Command → Outcome Store → Type 0
  Moves command o = MovedByCd c command s.registry o.state.registry

  -- where the registry stays all directories do
  stays : (command : Command) {after : Registry} → after ≡ s.registry → MovedByCd c command s.registry after
  stays command e uid = inl (ap (working_directory uid) e)

  -- `cd` sets that of its caller
  cd_sets : (p : Path) → MovedByCd c (account (cd p)) s.registry (set_directory c.account.uid p s.registry)
  cd_sets p uid = case (eqb uid.0 c.account.uid.0)
      (λ e. inr ((λ i. record { 0 = eqb-true uid.0 c.account.uid.0 e i }), record { to = p; named = refl; set = refl }))
      (λ e. inl (directory_of_another s.registry c.account.uid p uid (eqb-false uid.0 c.account.uid.0 e)))

  account_moves : (command : AccountAction) → Ensures (Moves (account command)) (run_account store u s c command)
  unfolding run_account run_login run_logout run_cd
  account_moves (login z password) = then_check NoGrant tt _ λ _. gives λ uid. inl (session_keeps_working_directory s.registry c.account.uid _ uid)
  account_moves logout = gives λ uid. inl (session_keeps_working_directory s.registry c.account.uid _ uid)
  account_moves (cd p) = then_do _ λ d _. then_check WrongKind tt _ λ _. then_check Access tt _ λ _. gives (cd_sets p)

  run_moves : (command : Command) → Ensures (Moves command) (run store u s c command)
  unfolding run
  run_moves (shell command) = then_do _ λ o _. gives (stays (shell command) refl)
  run_moves (account command) = account_moves command
  run_moves (entry command) = weaker (λ o. stays (entry command)) (entry_registry u s c command)

-- a done command leaves each account's working directory, or is a `cd` and the account its caller's
pub only_cd_moves : (u : Setup) (s : Store) (c : Caller) (command : Command) (o : Outcome Store) → run store u s c command ≡ done o
    → MovedByCd c command s.registry o.state.registry
only_cd_moves u s c command o e = done_with (run_moves u s c command) e
