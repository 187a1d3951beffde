use Rattle.std.proofs.Common.{◌≡◌, ◌++◌, map, take, drop}
use Rattle.accounts.specs.Closure.{grown_row}
use Rattle.accounts.proofs.Dominance.with.Given as goal

abbrev pub invariant-loop-row : goal.invariant-loop-row
invariant-loop-row l =
    let grown = grown_row l.pair.senior l.add in
    l.row-items ≡ map grown (take l.row-index l.fn.self.rows) ++ drop l.row-index l.fn.self.rows
