use Prim.Native.Nat.{ℕ, ◌<◌}
use mathlib.Core.Path.{◌≡◌}
use mathlib.Core.List.{List}
use lib.ListN.{length}
use Rattle.accounts.specs.declared.Account.{Account}
use Rattle.syntax.specs.Parts.{names_from}
use Rattle.tree.specs.RowAt.{row_count, all_rows}
use Rattle.walks.specs.RowWalk.{Spot, walk_names_in, walk_in}
use Rattle.walks.proofs.along.walk.Given as goal

-- the walk along the names left, from where it is now, is the walk along all
pub record Going (tree : List ℕ) (account : Account) (path : List ℕ) (spot : Spot) (text : List ℕ) (at : ℕ) : Type 0 where
  pub row_in : spot.row < row_count tree
  pub above_in : spot.above < row_count tree
  pub goes : walk_names_in account (all_rows tree) spot (names_from text at) ≡ walk_in account (all_rows tree) path

abbrev pub invariant-loop-name : goal.invariant-loop-name
invariant-loop-name l = Going l.tree l.account l.path l.spot l.names.path.now l.names.at

abbrev pub decreases-loop-name : goal.decreases-loop-name
decreases-loop-name l = length (names_from l.names.path.now l.names.at)
