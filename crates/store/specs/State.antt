-- The state of a store: the setup, what is kept for each account, and the tree; and what is in range of it.
use Rattle.std.specs.Prelude.{List, Bool, ◌&&◌, eqb, length, get_or, set}
use Rattle.std.proofs.Math.Option.{Option}
use Rattle.buffers.specs.Text.{every}
use Rattle.accounts.specs.declared.Uid.{Uid}
use Rattle.accounts.specs.Dominance.{BoundedRole}
use Rattle.syntax.specs.Path.{Path, root, is_path}
use Rattle.setup.specs.Setup.{Setup, accounts, is_setup}
use Rattle.tree.specs.Forest.{Place}
use Rattle.tree.specs.Node.{Node}
use Rattle.tree.specs.WellFormed.{is_tree}

-- one role or none for each account
abbrev pub Sessions : Type 0
Sessions = List (Option BoundedRole)

-- what is kept for each account beside the tree: the session, and the working directory (document 02's kept path)
pub record Registry : Type 0 where
  pub sessions : Sessions
  pub directories : List Path

unfoldable pub set_session : Uid → Option BoundedRole → Registry → Registry
set_session uid z r = record { sessions = set r.sessions uid.0 z; directories = r.directories }

unfoldable pub working_directory : Uid → Registry → Path
working_directory uid r = get_or r.directories uid.0 root

unfoldable pub set_directory : Uid → Path → Registry → Registry
set_directory uid p r = record { sessions = r.sessions; directories = set r.directories uid.0 p }

-- what commands change: the tree and the registry
pub record Store : Type 0 where
  pub tree : Place Node
  pub registry : Registry

-- a setup with the store that stands on it
pub record State : Type 0 where
  pub setup : Setup
  pub store : Store

abbrev pub state_of : Setup → Store → State
state_of u s = record { setup = u; store = s }

-- 16 sessions, and 16 working directories that have a path's form
unfoldable pub is_registry : Registry → Bool
is_registry r = eqb (length r.sessions) accounts && (eqb (length r.directories) accounts && every is_path r.directories)

-- well-formed (document 01's sound): every value of the setup in range, a well-formed registry, a well-formed tree
unfoldable pub well_formed : State → Bool
well_formed s = is_setup s.setup && (is_registry s.store.registry && is_tree s.store.tree)
