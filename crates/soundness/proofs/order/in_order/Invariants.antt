use Prim.Native.Nat.{ℕ, ◌≤◌, ◌-◌}
use mathlib.Core.Path.{◌≡◌}
use mathlib.Core.List.{List, []}
use mathlib.Core.Bool.{true}
use lib.Dec.{ltb}
use lib.ListN.{length}
use Rattle.buffers.specs.Text.{every}
use Rattle.tree.specs.RowAt.{row_at}
use Rattle.soundness.specs.Tests.{rest_in_order}
use Rattle.soundness.specs.OrderTestLaws.{names_to}
use Rattle.soundness.proofs.order.in_order.Given as goal

pub record Going (b last : List ℕ) (i : ℕ) : Type 0 where
  pub some : 1 ≤ i
  pub size : length last ≡ 7
  pub held : every (λ j. ltb j 256) last ≡ true
  pub goes : rest_in_order b i (names_to b last (row_at b (i - 1)).depth) (row_at b (i - 1)).here.kind ≡ rest_in_order b 1 [] (row_at b 0).here.kind

abbrev pub invariant-loop-i : goal.invariant-loop-i
invariant-loop-i l = Going l.tree l.last l.i
