use Prim.Native.Nat.{ℕ, suc, ◌≤◌, ◌<◌, ◌-◌, ◌+◌, ◌*◌}
use mathlib.Core.Path.{◌≡◌}
use mathlib.Core.List.{List, ◌++◌}
use lib.ListN.{length, drop}
use Rattle.buffers.specs.Text.{Text}
use Rattle.tree.specs.RowAt.{row_count, row_at, all_rows}
use Rattle.walks.specs.RowBelow.{front_below, names_in}
use Rattle.walks.specs.NamesWritten.{NamesWritten}
use Rattle.walks.proofs.below.child_names.Given as goal

-- the names of the children from a row on
abbrev pub left : List ℕ → ℕ → ℕ → List Text
left tree at i = names_in (suc (row_at tree at).depth) (front_below (row_at tree at).depth (drop i (all_rows tree)))

pub record Going (tree : List ℕ) (at : ℕ) (answer₀ : List ℕ) (n depth : ℕ) (answer : List ℕ) (place i : ℕ) : Type 0 where
  pub le : i ≤ n
  pub all : n ≡ row_count tree
  pub from : at < row_count tree
  pub level : depth ≡ suc (row_at tree at).depth
  pub few : place + 9 * (at + 1) ≤ 9 * i
  pub len : length answer ≡ length answer₀
  pub done : List Text
  pub named : NamesWritten answer₀ done answer place
  pub goes : done ++ left tree at i ≡ left tree at (at + 1)

abbrev pub invariant-loop-i : goal.invariant-loop-i
invariant-loop-i l = Going l.tree l.at l.initial.answer l.n l.depth l.answer l.place l.i

abbrev pub decreases-loop-i : goal.decreases-loop-i
decreases-loop-i l = l.n - l.i
