use Prim.Native.Nat.{ℕ, ◌≤◌, ◌<◌, ◌-◌, ◌+◌}
use mathlib.Core.Path.{◌≡◌}
use mathlib.Core.List.{List}
use Rattle.tree.specs.RowScan.{is_deeper}
use Rattle.tree.specs.RowAt.{row_count, row_at}
use Rattle.tree.proofs.RowAtLaws.{Scanned}
use Rattle.tree.proofs.scan.subtree_end.Given as goal

pub record Going (tree : List ℕ) (at n depth i : ℕ) : Type 0 where
  pub le : i ≤ n
  pub all : n ≡ row_count tree
  pub from : at < row_count tree
  pub level : depth ≡ (row_at tree at).depth
  pub goes : Scanned tree (is_deeper depth) (at + 1) i

abbrev pub invariant-loop-i : goal.invariant-loop-i
invariant-loop-i l = Going l.tree l.at l.n l.depth l.i

abbrev pub decreases-loop-i : goal.decreases-loop-i
decreases-loop-i l = l.n - l.i
