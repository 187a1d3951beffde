-- Before a turn the rows are those of the pairs before the index.
use Rattle.std.proofs.Common.{◌≡◌, take}
use Rattle.accounts.specs.Closure.{rows_of}
use Rattle.dominance.proofs.closed.Given as goal

abbrev pub invariant-loop-pair : goal.invariant-loop-pair
invariant-loop-pair l = l.dominance.rows ≡ rows_of (take l.pair-index l.pairs)
