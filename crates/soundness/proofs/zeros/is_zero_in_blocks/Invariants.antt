use mathlib.Core.Path.{◌≡◌}
use mathlib.Core.List.{List}
use Prim.Native.Nat.{ℕ, ◌≤◌, ◌-◌}
use Rattle.buffers.specs.Fields.{zeros_at}
use Rattle.soundness.proofs.zeros.is_zero_in_blocks.Given as goal

pub record Going (s : List ℕ) (from to end : ℕ) : Type 0 where
  pub begun : from ≤ end
  pub le : end ≤ to
  pub goes : zeros_at from (end - from) s ≡ zeros_at from (to - from) s

abbrev pub invariant-loop-end : goal.invariant-loop-end
invariant-loop-end l = Going l.s l.from l.to l.end

abbrev pub decreases-loop-end : goal.decreases-loop-end
decreases-loop-end l = l.end
