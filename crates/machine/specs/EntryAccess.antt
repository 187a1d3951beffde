-- Who reaches entries: a shell command that names one, and what the account of a role may read.
use Rattle.std.specs.Prelude.{◌≡◌, Bool, true}
use Rattle.accounts.specs.declared.Role.{Role}
use Rattle.accounts.specs.Dominance.{BoundedRole, Listed}
use Rattle.syntax.specs.Path.{Path, root, ◌▹◌, rep, in_rep, lies_below}
use Rattle.commands.specs.Command.{ShellAction, some_path}
use Rattle.setup.specs.Setup.{Setup}
use Rattle.tree.specs.Result.{done}
use Rattle.tree.specs.Forest.{Place}
use Rattle.tree.specs.Node.{Node}
use Rattle.tree.specs.Walk.{walk}
use Rattle.store.specs.State.{Store, state_of, well_formed}
use Rattle.machine.specs.StoreMachine.{store}
use Rattle.machine.specs.AbstractMachine.{Abstract}
use Rattle.machine.specs.Embedding.{embed}
use Rattle.machine.specs.Simulation.{Kept}

-- whether a path of the command lies below `/rep`
unfoldable pub names_entry : ShellAction → Bool
names_entry = some_path (lies_below (root ▹ rep))

-- the account of a role walks from `/` to the entry at a path below `/rep`, and may read it
pub record MayRead (u : Setup) (z : BoundedRole) (s : Store) (p : Path) (d : Place Node) : Type 0 where
  pub walks : walk (store.judge u z) s.tree (in_rep p) ≡ done d
  pub reads : (store.judge u z).readable d.here ≡ true

-- in every well-formed store that an abstract machine stands for, the first role's account may read what the second's may
abbrev pub ReadsAll : Setup → BoundedRole → BoundedRole → Type 0
ReadsAll u a b = (h : Abstract) → Kept h → well_formed (state_of u (embed h)) ≡ true
    → (p : Path) (d : Place Node) → MayRead u b (embed h) p d → MayRead u a (embed h) p d

-- every pair of the one is a pair of the other
unfoldable pub MorePairs : Setup → Setup → Type 0
MorePairs u u' = (s j : Role) → Listed s j u.pairs → Listed s j u'.pairs
