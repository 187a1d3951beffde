-- What a done `commit` of a directory comes to, on any machine.
use Rattle.std.proofs.Math.Option.{some}
use Rattle.accounts.specs.declared.Caller.{Caller}
use Rattle.syntax.specs.Number.{decimal_text}
use Rattle.syntax.specs.Path.{Path}
use Rattle.setup.specs.Setup.{Setup}
use Rattle.tree.specs.Result.{Outcome}
use Rattle.tree.specs.Forest.{Place}
use Rattle.tree.specs.Node.{Node}
use Rattle.tree.specs.Walk.{by_modes}
use Rattle.tree.specs.Files.{files_below}
use Rattle.machine.specs.Working.{Commits, commit_each}
use Rattle.machine.specs.Machine.{Machine, commit_file}

module _ {S A : Type 0} (M : Machine S A) (u : Setup) (c : Caller) where
  -- the commits of the files below a directory
  abbrev pub commits_below : S → Path → Place Node → Commits S
  commits_below s w found = commit_each (λ t p. commit_file M u t c p) (files_below (by_modes c.account) w found.below) s

  -- and the outcome of its commit
  abbrev pub of_directory : S → Path → Place Node → Outcome S
  of_directory s w found = record { text = some (decimal_text (commits_below s w found).count); state = (commits_below s w found).state }
