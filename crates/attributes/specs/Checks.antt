-- The checks of the commands on one place: the walk, then the tests of its node, in document 01's order.
use Rattle.std.specs.Prelude.{List, Bool, ◌&&◌, ◌||◌, not, cond, ℕ}
use Rattle.buffers.specs.Text.{Text}
use Rattle.accounts.specs.declared.Account.{Account}
use Rattle.accounts.specs.declared.Gid.{Gid}
use Rattle.accounts.specs.declared.Right.TheVariants.{R, W, X}
use Rattle.accounts.specs.Groups.{member}
use Rattle.accounts.specs.Access.{is_root, same_uid}
use Rattle.syntax.specs.Number.{set_gid}
use Rattle.syntax.specs.Path.{Path}
use Rattle.tree.specs.declared.Cause.{Cause}
use Rattle.tree.specs.declared.Cause.TheVariants.{Access, WrongKind, Reserved}
use Rattle.tree.specs.Result.{Result, done, ◌>>=◌, ◌>>◌, require}
use Rattle.tree.specs.Forest.{Place}
use Rattle.tree.specs.Node.{is_directory, Node, allows, owns}
use Rattle.tree.specs.Walk.{by_modes, walk}
use Rattle.tree.specs.RowAt.{row_at, all_rows}
use Rattle.walks.specs.declared.Spot.{Spot}
use Rattle.walks.specs.RowBelow.{child_text_in}
use Rattle.walks.specs.WalkBytes.{spot_of}
use Rattle.attributes.specs.declared.Deed.{Deed}
use Rattle.attributes.specs.declared.Deed.TheVariants.{Read, Write, Chmod, Chgrp, Chown, Enter}

-- two tests, the first of which that fails tells its cause
abbrev pub two_tests : Bool → Cause → Bool → Cause → Result (Unit {0})
two_tests first cause second other = do
  require first cause
  require second other

-- root may give any group, an owner any of the own groups
unfoldable pub may_give : Account → Gid → Node → Bool
may_give a group n = is_root a.uid || (same_uid a.uid n.owner && member group a.groups)

unfoldable pub tests : Account → Deed → Node → Result (Unit {0})
tests a Read n = require (allows a R n) Access
tests a Write n = two_tests (not (is_directory n.kind)) WrongKind (allows a W n) Access
tests a (Chmod mode) n = two_tests (is_directory n.kind || not (set_gid mode)) WrongKind (owns a n) Reserved
tests a (Chgrp group) n = require (may_give a group n) Reserved
tests a Chown n = require (is_root a.uid) Reserved
tests a Enter n = two_tests (is_directory n.kind) WrongKind (allows a X n) Access

-- the place at a path, if the account may come there and do the deed
unfoldable pub may_do : Account → Deed → Place Node → Path → Result (Place Node)
may_do a deed t p = do
  d ← walk (by_modes a) t p
  tests a deed d.here
  done d

-- the rows of the place at a path and of the directory above it, if the account may come there and do the deed
abbrev pub may_do_at : Account → Deed → Place Node → Path → Result Spot
may_do_at a deed t p = may_do a deed t p >>= λ d. done (spot_of t p)

-- the text of a row: a file's content, or the names of a directory's children
unfoldable pub row_text : List ℕ → ℕ → Text
row_text b i = cond (is_directory (row_at b i).here.kind) (child_text_in (all_rows b) i) (row_at b i).here.content
