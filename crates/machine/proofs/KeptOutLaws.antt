-- A person's shell line with a path below `/rep` is refused, and so is a `cd` to `/rep` or below: the person may not pass `/rep`, so no
-- walk leads below it.
use Rattle.std.specs.Prelude.{◌≡◌, true, false}
use Rattle.std.proofs.Common.{◌∙◌, ap}
use Rattle.std.proofs.Math.Option.{some}
use Rattle.buffers.specs.Cases.{contra}
use Rattle.accounts.specs.declared.Caller.{Caller}
use Rattle.accounts.specs.declared.Uid.{Uid}
use Rattle.accounts.specs.declared.Right.TheVariants.{X}
use Rattle.accounts.specs.Access.{is_root}
use Rattle.syntax.specs.Path.{Path, root, ◌▹◌, rep, within}
use Rattle.commands.specs.Command.{ShellAction, cd, shell, account}
use Rattle.setup.specs.Setup.{Setup}
use Rattle.setup.proofs.SetupLaws.{accepted_is_setup}
use Rattle.tree.specs.declared.Cause.{Cause}
use Rattle.tree.specs.declared.Cause.TheVariants.{Access, WrongKind}
use Rattle.tree.specs.Result.{refused, done}
use Rattle.tree.proofs.GivesLaws.{never_done, then_step, then_check, then_do}
use Rattle.tree.specs.Forest.{Place, place_at}
use Rattle.tree.specs.Node.{Node, allows}
use Rattle.tree.specs.Walk.{by_modes, walk}
use Rattle.tree.proofs.JudgeLaws.{passes_by_modes}
use Rattle.tree.proofs.PlaceLaws.{leaf_here}
use Rattle.tree.proofs.UpdateLaws.{place_at_root, place_at_child}
use Rattle.tree.proofs.OtherPathLaws.{walk_outside}
use Rattle.tree.specs.Graft.{graft}
use Rattle.tree.proofs.GraftLaws.{get_graft}
use Rattle.shell.proofs.ShutLaws.{never_run}
use Rattle.store.specs.State.{Store}
use Rattle.store.specs.Initial.{rep_node}
use Rattle.store.specs.Callers.{caller}
use Rattle.machine.specs.Machine.{run_cd, run_account, run}
use Rattle.machine.specs.StoreMachine.{store}
use Rattle.machine.specs.AbstractMachine.{Abstract}
use Rattle.machine.specs.Embedding.{stored, embed}
use Rattle.machine.specs.Observed.{ReachedWithoutRoot}
use Rattle.machine.proofs.CallerLaws.{person_rep}
use Rattle.machine.specs.Simulation.{Kept}
use Rattle.machine.proofs.SimulationLaws.{rep_alike}
use Rattle.machine.proofs.ComparedLaws.{reached_tie}
use Rattle.machine.specs.EntryAccess.{names_entry}

-- the entries stand at `/rep`
entries_at : (h : Abstract) → Kept h → place_at (embed h).tree (root ▹ rep) ≡ some (stored h.entries)
unfolding embed
entries_at h k =
    let t = graft (stored h.entries) h.workspace in
    place_at_child t root rep t (place_at_root t) ∙ get_graft (stored h.entries) h.workspace k.there

-- `/rep` with what lies below it, which the person may not pass
pub record ShutRep (s : Store) (c : Caller) : Type 0 where
  pub rep_place : Place Node
  pub there : place_at s.tree (root ▹ rep) ≡ some rep_place
  pub shut : allows c.account X rep_place.here ≡ false

rep_shut : (u : Setup) (s : Store) → ReachedWithoutRoot u s → (v : Uid) (c : Caller) → is_root v ≡ false → caller u v ≡ done c → ShutRep s c
rep_shut u s reached v c r i =
    let h = reached_tie u s reached in
    let k = h.1.kept in
    let setup = accepted_is_setup reached.reached.text u reached.reached.taken in
    record {
      rep_place = stored h.0.entries;
      there = ap (λ a. place_at a.tree (root ▹ rep)) h.1.same ∙ entries_at h.0 k;
      shut = ap (allows c.account X) (rep_alike h.0 k ∙ leaf_here rep_node) ∙ (person_rep u setup v c r i).0 X;
    }

module _ (u : Setup) (s : Store) (reached : ReachedWithoutRoot u s) (v : Uid) (c : Caller) (r : is_root v ≡ false) (i : caller u v ≡ done c) where
  -- a person's shell line with a path below `/rep` is refused
  pub shell_refused : (command : ShellAction) → names_entry command ≡ true → (why : Cause) × (run store u s c (shell command) ≡ refused why)
  unfolding names_entry run
  shell_refused command names =
      let h = rep_shut u s reached v c r i in
      never_done (then_step (never_run c s.tree (root ▹ rep) h.rep_place h.there h.shut 0 command names) λ o z. absurd z)

  -- a directory with x for the person is outside `/rep`
  pub cd_refused : (p : Path) → within (root ▹ rep) p ≡ true → (why : Cause) × (run store u s c (account (cd p)) ≡ refused why)
  unfolding run run_account run_cd
  cd_refused p inside =
      let h = rep_shut u s reached v c r i in
      let j = by_modes c.account in
      let passed = passes_by_modes c.account h.rep_place.here ∙ h.shut in
      never_done (
      then_do (walk j s.tree p) λ d w.
      then_check WrongKind tt _ λ _.
      then_check Access tt _ λ x.
      contra inside (walk_outside j s.tree (root ▹ rep) h.rep_place h.there passed p d w (allows c.account X) h.shut x))
