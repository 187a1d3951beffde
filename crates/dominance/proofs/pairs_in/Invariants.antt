use mathlib.Core.Path.{◌≡◌}
use mathlib.Core.List.{List, ◌++◌}
use Prim.Native.Nat.{ℕ, ◌≤◌, ◌-◌}
use lib.ListN.{replicate}
use Rattle.accounts.specs.declared.Pair.{Pair}
use Rattle.accounts.specs.PairBytes.{no_pair}
use Rattle.dominance.specs.PairsIn.{pairs_in}
use Rattle.dominance.proofs.pairs_in.Given as goal

pub record Filled (b : List ℕ) (n : ℕ) (all : List Pair) (k : ℕ) : Type 0 where
  pub le : k ≤ n
  pub are : all ≡ pairs_in k b ++ replicate (28 - k) no_pair

abbrev pub invariant-loop-k : goal.invariant-loop-k
invariant-loop-k l = Filled l.bytes l.n l.all l.k
