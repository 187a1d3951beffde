-- `nodes::moves::judge_into` meets its contract: one law of the checks for each return.
use Rattle.std.proofs.Common.{arith}
use Rattle.nodes.specs.MoveChecksLaws.{into_shut, into_within, into_deep, into_done}
use Rattle.nodes.proofs.moves.judge_into.Goals as goal

pub returns-then-not-writable : goal.returns-then-not-writable
returns-then-not-writable c = into_shut _ _ _ _ c.if-not-writable.true

pub returns-then-inside : goal.returns-then-inside
returns-then-inside c = into_within _ _ _ _ c.if-not-writable.false c.if-inside.true

pub returns-then-depth_at-height_below-gt-MOST_NAMES : goal.returns-then-depth_at-height_below-gt-MOST_NAMES
returns-then-depth_at-height_below-gt-MOST_NAMES c =
    into_deep _ _ _ _ c.if-not-writable.false c.if-inside.false
    (omega (arith, c.if-depth_at-height_below-gt-MOST_NAMES.true, c.depth_at.ensures, c.height_below.ensures.0))

pub returns : goal.returns
returns c =
    into_done _ _ _ _ c.if-not-writable.false c.if-inside.false
    (omega (arith, c.if-depth_at-height_below-gt-MOST_NAMES.false, c.depth_at.ensures, c.height_below.ensures.0))
