-- `dominance::closed` meets its contract: each pair in turn is one pair more.
use Rattle.std.proofs.Common.{arith}
use Rattle.accounts.specs.PairBytes.{no_pair}
use Rattle.dominance.proofs.ClosingLaws.{rows_begin, rows_grow_on, rows_end}
use Rattle.dominance.proofs.closed.Goals as goal

pub loop-pair-init : goal.loop-pair-init
loop-pair-init c = rows_begin c.args.pairs.now c.own-dominance.result.rows c.own-dominance.ensures

pub loop-pair-preserved : goal.loop-pair-preserved
loop-pair-preserved c =
    rows_grow_on c.args.pairs.now c.requires c.loop-pair.pair-index no_pair c.loop-pair.dominance.rows c.with-dominance.result.rows (omega arith) c.loop-pair.invariant c.with-dominance.ensures

pub returns : goal.returns
returns c = rows_end c.args.pairs.now c.loop-pair.pair-index c.loop-pair.dominance.rows (omega arith) c.loop-pair.invariant
