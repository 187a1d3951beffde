-- The room for a new node.
use Rattle.std.specs.Prelude.{◌≡◌, true, false}
use Rattle.std.proofs.Math.Option.{none}
use Rattle.accounts.specs.declared.Account.{Account}
use Rattle.syntax.specs.Path.{Path, parent, last, is_top}
use Rattle.tree.specs.Result.{done}
use Rattle.tree.specs.Forest.{Place, get}
use Rattle.tree.specs.Node.{is_directory, Node}
use Rattle.tree.specs.Walk.{by_modes, walk}

-- a directory for a new node at p: the walk to the parent leads there, and the name is not used
pub record Roomed (a : Account) (t : Place Node) (p : Path) (d : Place Node) : Type 0 where
  pub led : walk (by_modes a) t (parent p) ≡ done d
  pub enterable : is_directory d.here.kind ≡ true
  pub free : get (last p) d.below ≡ none
  pub below_top : is_top p ≡ false
