use Prim.Native.Nat.{ℕ, ◌≤◌, ◌-◌}
use mathlib.Core.Path.{◌≡◌}
use mathlib.Core.List.{List}
use mathlib.Core.Bool.{◌&&◌}
use lib.Dec.{eqb}
use Rattle.buffers.specs.Fields.{zeros_at}
use Rattle.buffers.proofs.fields.is_zero.Given as goal

pub record Going (s : List ℕ) (from to all i : ℕ) : Type 0 where
  pub le : i ≤ to
  pub from_le : from ≤ i
  pub goes : (eqb all 0 && zeros_at i (to - i) s) ≡ zeros_at from (to - from) s

abbrev pub invariant-loop-i : goal.invariant-loop-i
invariant-loop-i l = Going l.s l.from l.to l.all l.i
