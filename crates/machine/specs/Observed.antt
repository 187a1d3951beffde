-- What demand 3 compares after a list of calls, and the stores that such lists reach.
use Rattle.std.specs.Prelude.{◌≡◌, List, Bool, true, not}
use Rattle.std.proofs.Math.Option.{Option, some}
use Rattle.buffers.specs.Text.{Text, every}
use Rattle.syntax.specs.Path.{root, ◌▹◌, rep}
use Rattle.setup.specs.Setup.{Setup, accepted, setup}
use Rattle.tree.specs.Forest.{Place, get, update, leaf}
use Rattle.tree.specs.Node.{Node}
use Rattle.store.specs.State.{Store}
use Rattle.store.specs.Initial.{initial_store}
use Rattle.machine.specs.StoreMachine.{store}
use Rattle.machine.specs.AbstractMachine.{Abstract}
use Rattle.machine.specs.Embedding.{stored}
use Rattle.machine.specs.Runs.{Call, Ran, runs, root's}

-- the people's tree in the store: all nodes outside the repository, `/rep` as an empty directory
unfoldable pub workspace_of : Store → Place Node
workspace_of s = update (root ▹ rep) (λ d. leaf d.here) s.tree

-- `/rep` with all that lies below it
unfoldable pub filed_in : Store → Option (Place Node)
filed_in s = get rep s.tree.below

-- Each call's reply with its text and, after the list, the people's tree, the sessions, the working directories and the entries:
-- below `/rep` stand the nodes of the entries, and no other.
pub record Compared (a : Ran Store) (b : Ran Abstract) : Type 0 where
  pub replies : a.replies ≡ b.replies
  pub workspace : workspace_of a.state ≡ b.state.workspace
  pub sessions : a.state.registry.sessions ≡ b.state.registry.sessions
  pub directories : a.state.registry.directories ≡ b.state.registry.directories
  pub entries : filed_in a.state ≡ some (stored b.state.entries)

-- none of the lines is root's
unfoldable pub without_root : List Call → Bool
without_root calls = every (λ call. not (root's call)) calls

-- a store reached from that of an accepted setup by calls of anyone
pub record Reached (u : Setup) (s : Store) : Type 0 where
  pub text : Text
  pub taken : setup text ≡ accepted u
  pub calls : List Call
  pub state : s ≡ (runs store u (initial_store u) calls).state

-- a store reached without root
pub record ReachedWithoutRoot (u : Setup) (s : Store) : Type 0 where
  pub reached : Reached u s
  pub rootless : without_root reached.calls ≡ true
