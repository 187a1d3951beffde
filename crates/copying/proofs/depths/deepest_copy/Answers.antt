-- `copying::depths::deepest_copy` meets its contract: the greatest depth so far and the rows left give that of all.
use Rattle.std.proofs.Common.{◌∙◌, ap, ℕ, max, ◌+◌, ◌-◌, arith}
use Rattle.walks.specs.RowBelowLaws.{larger_is_max}
use Rattle.copying.specs.CopyRows.{deepest_from}
use Rattle.copying.proofs.DepthLaws.{deepest_again, deepest_done}
use Rattle.copying.proofs.depths.deepest_copy.Goals as goal

pub loop-i-preserved : goal.loop-i-preserved
loop-i-preserved c =
    let b = c.args.out.now in
    let n = c.args.n in
    let l = c.loop-i in
    let e = c.max-most.ensures ∙ ap (max l.most) c.depth_at.ensures ∙ larger_is_max l.most _ in
    ap (λ (m : ℕ). deepest_from b m (l.i + 1) (n - (l.i + 1))) e ∙ deepest_again b l.most l.i n (omega arith) ∙ l.invariant

pub returns : goal.returns
returns c = let l = c.loop-i in deepest_done _ l.most l.i _ (omega arith) ∙ l.invariant
