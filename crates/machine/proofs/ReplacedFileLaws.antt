-- What a done `mv` leaves of a store where something stands at its target: a file replaced by a file, or all as it was.
use Rattle.std.specs.Prelude.{◌≡◌, true, false}
use Rattle.std.proofs.Common.{ap}
use Rattle.std.proofs.Math.Option.{some}
use Rattle.accounts.specs.declared.Caller.{Caller}
use Rattle.syntax.specs.Path.{Path, same_path}
use Rattle.commands.specs.Command.{mv, shell}
use Rattle.setup.specs.Setup.{Setup}
use Rattle.tree.specs.Result.{done, Outcome}
use Rattle.tree.specs.Outcomes.{gives, Ensures}
use Rattle.tree.proofs.GivesLaws.{done_with, then_do}
use Rattle.tree.specs.Forest.{Place, place_at}
use Rattle.tree.specs.Node.{Node}
use Rattle.tree.specs.WellFormed.{is_tree}
use Rattle.shell.specs.Steps.{run_shell}
use Rattle.shell.specs.Replaced.{Replaced}
use Rattle.shell.proofs.ReplacedLaws
use Rattle.store.specs.State.{Store}
use Rattle.machine.specs.Machine.{run}
use Rattle.machine.specs.StoreMachine.{store}

module _ (u : Setup) (s : Store) (c : Caller) where
  mv_replaces : (a b : Path) (d g : Place Node) → is_tree s.tree ≡ true → place_at s.tree a ≡ some d → place_at s.tree b ≡ some g
      → same_path a b ≡ false → Ensures (λ o. Replaced s.tree a b d g o.state.tree) (run store u s c (shell (mv a b)))
  unfolding run run_shell
  mv_replaces a b d g whole here there off = then_do _ λ o e. gives (ReplacedLaws.replaced c 0 s.tree a b o d g whole e here there off)

  mv_stays : (a : Path) → Ensures (λ o. o.state ≡ s) (run store u s c (shell (mv a a)))
  unfolding run run_shell
  mv_stays a = then_do _ λ o e. gives (ap (λ (t : Place Node). record { tree = t; registry = s.registry }) (ReplacedLaws.stays c 0 s.tree a o e))

  -- a done `mv` onto what stands at another path replaces a file by a file
  pub replaced_file : (a b : Path) (o : Outcome Store) (d g : Place Node) → is_tree s.tree ≡ true → run store u s c (shell (mv a b)) ≡ done o
      → place_at s.tree a ≡ some d → place_at s.tree b ≡ some g → same_path a b ≡ false → Replaced s.tree a b d g o.state.tree
  replaced_file a b o d g whole e here there off = done_with (mv_replaces a b d g whole here there off) e

  -- and one onto itself leaves the store as it was
  pub moved_onto_itself : (a : Path) (o : Outcome Store) → run store u s c (shell (mv a a)) ≡ done o → o.state ≡ s
  moved_onto_itself a o e = done_with (mv_stays a) e
