-- `soundness::row::all_stand` meets its contract: what is left, with what was seen, is the whole.
use native.Mathlib.Omega.{arith}
use Rattle.syntax.specs.Field.{content_byte}
use Rattle.soundness.specs.Tests.{may_stand}
use Rattle.soundness.specs.NeighbourLaws.{begins, one_more, ends}
use Rattle.soundness.proofs.row.all_stand.Goals as goal

pub loop-i-init : goal.loop-i-init
loop-i-init c = let a = c.args in begins (may_stand content_byte) a.s.now a.at a.n

pub loop-i-preserved : goal.loop-i-preserved
loop-i-preserved c =
    let a = c.args in
    one_more (may_stand content_byte) a.s.now a.at a.n c.may_stand-all.result c.loop-i.invariant (omega arith) c.may_stand-all.ensures

pub returns : goal.returns
returns c =
    let a = c.args in
    ends (may_stand content_byte) a.s.now a.at a.n c.loop-i.invariant (omega arith)
