-- A directory of mode 0700 that is another's, and what may become of it by a command.
use Rattle.std.specs.Prelude.{◌≡◌, Bool, true, false}
use Rattle.std.proofs.Math.Option.{none, some}
use Rattle.accounts.specs.declared.Right.TheVariants.{W}
use Rattle.accounts.specs.declared.Account.{Account}
use Rattle.accounts.specs.Access.{is_root, same_uid}
use Rattle.syntax.specs.Number.{octal}
use Rattle.syntax.specs.Path.{Path, parent, within, carried}
use Rattle.commands.specs.Command.{ShellAction, create, mkdir, read, write, rm, rmdir, mv, chmod, chgrp, chown, Command, shell}
use Rattle.tree.specs.Forest.{Place, is_empty, place_at}
use Rattle.tree.specs.Node.{is_directory, Node, allows}

-- a directory of mode 0700, for an account that is neither its owner nor root
pub record Private (a : Account) (d : Place Node) : Type 0 where
  pub not_root : is_root a.uid ≡ false
  pub foreign : same_uid a.uid d.here.owner ≡ false
  pub mode : d.here.mode ≡ octal 0 7 0 0
  pub directory : is_directory d.here.kind ≡ true

-- an account that may write in what stands at the path
pub record Writes (a : Account) (t : Place Node) (p : Path) : Type 0 where
  pub place : Place Node
  pub stands : place_at t p ≡ some place
  pub allowed : allows a W place.here ≡ true

-- The directory d of the path p in the tree s, in the tree t after a command of the account: the same with all below it, at p or where
-- a `mv` of p or of a path above it carries it; or nothing lay below it, and `rmdir` took it out. The account may write in the directory
-- from which it moves or takes out.
pub data Unaltered (account : Account) (s d : Place Node) (p : Path) : Command → (t : Place Node) → Type 0 where
  in_place : {command : Command} {t : Place Node} → place_at t p ≡ some d → Unaltered account s d p command t
  moved_along : {a b : Path} {t : Place Node} → Writes account s (parent a) → within a p ≡ true → place_at t (carried a b p) ≡ some d
      → Unaltered account s d p (shell (mv a b)) t
  taken_out : {t : Place Node} → Writes account s (parent p) → is_empty d.below ≡ true
      → place_at t p ≡ none → Unaltered account s d p (shell (rmdir p)) t

-- whether the command walks before it refuses a path other than `/`
unfoldable pub walks_first : ShellAction → Bool
walks_first (create p mode) = true
walks_first (mkdir p mode) = true
walks_first (read p) = true
walks_first (write p content) = true
walks_first (rm p) = false
walks_first (rmdir p) = false
walks_first (mv a b) = false
walks_first (chmod p mode) = true
walks_first (chgrp p group) = true
walks_first (chown p owner) = true
