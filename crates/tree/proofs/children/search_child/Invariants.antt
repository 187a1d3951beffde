use Prim.Native.Nat.{ℕ, suc, ◌≤◌, ◌<◌, ◌-◌, ◌+◌, ◌*◌}
use mathlib.Core.Path.{◌≡◌}
use mathlib.Core.List.{List}
use lib.ListN.{length}
use Rattle.buffers.specs.Text.{Text}
use Rattle.tree.specs.Layout.{most_rows, name_width}
use Rattle.tree.specs.RowScan.{child_in}
use Rattle.tree.specs.Search.{steps_in}
use Rattle.tree.proofs.ComparedLaws.{Compared}
use Rattle.tree.specs.RowAt.{row_count, row_at, all_rows}
use Rattle.tree.specs.TreeBytes.{HasRow}
use Rattle.tree.proofs.SearchLaws.{child_left, steps_left}
use Rattle.tree.proofs.children.search_child.Given as goal

-- before the row i what is left of the search, with the steps so far, gives the whole
pub record Going (tree : List ℕ) (at : ℕ) (name : Text) (n depth steps i : ℕ) : Type 0 where
  pub le : i ≤ n
  pub all : n ≡ row_count tree
  pub few : n ≤ most_rows
  pub small : steps ≤ suc name_width * i
  pub goes : child_left tree depth name i ≡ child_in (all_rows tree) at name
  pub sums : steps + steps_left tree depth name i ≡ steps_in (all_rows tree) at name

-- at a child's row the first k bytes of its name are alike
pub record Inner (tree : List ℕ) (at : ℕ) (name : Text) (n depth i₀ steps i k : ℕ) : Type 0 where
  pub same : i ≡ i₀
  pub lt : i < n
  pub row : HasRow tree i
  pub level : (row_at tree i).depth ≡ depth
  pub compared : Compared (row_at tree i).name name k
  pub outer : Going tree at name n depth steps i

abbrev pub invariant-bytes : goal.invariant-bytes
invariant-bytes l = Inner l.tree l.at l.name l.n l.depth l.initial.i l.steps l.i l.k

abbrev pub decreases-bytes : goal.decreases-bytes
decreases-bytes l = length l.name - l.k

abbrev pub invariant-children : goal.invariant-children
invariant-children l = Going l.tree l.at l.name l.n l.depth l.steps l.i

abbrev pub decreases-children : goal.decreases-children
decreases-children l = l.n - l.i
