use Rattle.std.proofs.Common.{◌≡◌, true, ℕ, ◌^◌, ◌<◌, List, drop}
use Rattle.buffers.specs.Text.{every}
use Rattle.syntax.specs.Number.{digit, value_after}
use Rattle.syntax.proofs.numerals.value.Given as goal

pub record Going (s : List ℕ) (base n i : ℕ) : Type 0 where
  pub small : n < 10 ^ i
  pub digits : every (digit base) (drop i s) ≡ true
  pub goes : value_after base n (drop i s) ≡ value_after base 0 s

abbrev pub invariant-loop-b : goal.invariant-loop-b
invariant-loop-b l = Going l.s l.base l.n l.b-index
