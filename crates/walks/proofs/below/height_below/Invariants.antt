use Prim.Native.Nat.{ℕ, ◌≤◌, ◌<◌, ◌-◌, ◌+◌}
use mathlib.Core.Path.{◌≡◌}
use mathlib.Core.List.{List}
use lib.ListN.{drop}
use Rattle.tree.specs.RowAt.{row_count, row_at, all_rows}
use Rattle.walks.specs.RowBelow.{front_below, deepest_in}
use Rattle.walks.proofs.below.height_below.Given as goal

pub record Going (tree : List ℕ) (at n depth most i : ℕ) : Type 0 where
  pub le : i ≤ n
  pub all : n ≡ row_count tree
  pub from : at < row_count tree
  pub level : depth ≡ (row_at tree at).depth
  pub least : depth ≤ most
  pub byte : most ≤ 255
  pub goes : deepest_in most (front_below depth (drop i (all_rows tree))) ≡ deepest_in depth (front_below depth (drop (at + 1) (all_rows tree)))

abbrev pub invariant-loop-i : goal.invariant-loop-i
invariant-loop-i l = Going l.tree l.at l.n l.depth l.most l.i

abbrev pub decreases-loop-i : goal.decreases-loop-i
decreases-loop-i l = l.n - l.i
