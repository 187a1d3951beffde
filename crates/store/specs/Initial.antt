-- The initial state (document 01's fresh store): `/`, `/rep`, a home for each person, who works there, and no sessions.
use Rattle.std.specs.Prelude.{List, [], ◌∷◌, ◌++◌, ℕ, zero, suc, replicate}
use Rattle.std.proofs.Math.Option.{Option, none, some}
use Rattle.accounts.specs.declared.Uid.{Uid}
use Rattle.accounts.specs.declared.Gid.{Gid}
use Rattle.syntax.specs.Pieces.{bytes}
use Rattle.syntax.specs.Number.{octal, decimal_text}
use Rattle.syntax.specs.Path.{Name, rep, Path, root, ◌▹◌}
use Rattle.setup.specs.Setup.{Person, Setup, accounts, person}
use Rattle.tree.specs.declared.Kind.TheVariants.{Directory}
use Rattle.tree.specs.Forest.{Forest, no_nodes, Place, insert, leaf}
use Rattle.tree.specs.Node.{Node}
use Rattle.store.specs.State.{Sessions, Registry, Store}

unfoldable pub directory_of : Uid → Gid → ℕ → Node
directory_of owner group mode = record { kind = Directory; owner = owner; group = group; mode = mode; revision = 0; tag = none; content = [] }

-- owner 0, group 0, 0755
unfoldable pub top_node : Node
top_node = directory_of (record { 0 = 0 }) (record { 0 = 0 }) (octal 0 7 5 5)

-- owner 16, group 24, 0750
unfoldable pub rep_node : Node
rep_node = directory_of (record { 0 = 16 }) (record { 0 = 24 }) (octal 0 7 5 0)

-- the person's, in the primary group, 0755
unfoldable pub home_node : Uid → Person → Node
home_node uid who = directory_of uid who.primary (octal 0 7 5 5)

-- `u` followed by the uid
unfoldable pub home_name : Uid → Name
home_name uid = bytes "u" ++ decimal_text uid.0

unfoldable pub with_home : Uid → Option Person → Forest Node → Forest Node
with_home uid none f = f
with_home uid (some who) f = insert (home_name uid) (leaf (home_node uid who)) f

-- `/rep` and the homes of the accounts below k
unfoldable pub homes : Setup → ℕ → Forest Node
homes setup zero = insert rep (leaf rep_node) no_nodes
homes setup (suc k) = with_home (record { 0 = k }) (person setup (record { 0 = k })) (homes setup k)

-- `/` with a forest below it
abbrev pub topped : Forest Node → Place Node
topped f = record { here = top_node; below = f }

unfoldable pub initial_tree : Setup → Place Node
initial_tree setup = topped (homes setup accounts)

unfoldable pub no_sessions : Sessions
no_sessions = replicate accounts none

-- a person begins at home; root, and an account that is no person's, at `/`
unfoldable pub first_directory : Uid → Option Person → Path
first_directory uid none = root
first_directory uid (some who) = root ▹ home_name uid

-- of the accounts from k on
unfoldable pub first_directories : ℕ → List (Option Person) → List Path
first_directories k [] = []
first_directories k (o ∷ os) = first_directory (record { 0 = k }) o ∷ first_directories (suc k) os

unfoldable pub initial_registry : Setup → Registry
initial_registry setup = record { sessions = no_sessions; directories = first_directories 0 setup.persons }

unfoldable pub initial_store : Setup → Store
initial_store setup = record { tree = initial_tree setup; registry = initial_registry setup }
