-- `walks::below::has_children` meets its contract: the answer goes by the depth of the next row, if there is one.
use Rattle.std.proofs.Common.{arith, sym, ◌∙◌, ◌+◌, nat_lt}
use Rattle.std.proofs.lemmas.Bool.{le-ltb}
use mathlib.Core.Path.{ap₂}
use Rattle.walks.specs.RowBelowLaws.{children_by_next, no_next}
use Rattle.walks.proofs.below.has_children.Goals as goal

pub returns-then-at-count : goal.returns-then-at-count
returns-then-at-count c =
    let a = c.args in
    ap₂ nat_lt c.depth_at.ensures c.depth_at-then-at-count.ensures ∙ sym (children_by_next a.tree.now a.at (omega arith) (omega arith))

pub returns-else-at-count : goal.returns-else-at-count
returns-else-at-count c =
    let a = c.args in
    le-ltb (a.at + 1) c.count.result c.if-at-count.false ∙ sym (no_next a.tree.now a.at (omega arith) (omega arith))
