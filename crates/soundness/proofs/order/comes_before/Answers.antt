-- `soundness::order::comes_before` meets its contract: bytes that differ tell, a zero in both ends both names, any other byte
-- in both leaves it to those behind.
use mathlib.Core.Path.{◌∙◌}
use native.Mathlib.Omega.{arith}
use Rattle.tree.specs.Layout.{name_width}
use Rattle.soundness.specs.NameOrderLaws.{begins, one_more, ends_differ, ends_zero, ends_same, name_start, names_in_rows}
use Rattle.soundness.proofs.order.comes_before.Goals as goal

pub loop-k-init : goal.loop-k-init
loop-k-init c = let a = c.args in begins a.tree.now (name_start a.i) (name_start a.j) name_width

pub returns-then-x-y : goal.returns-then-x-y
returns-then-x-y c =
    let a = c.args in
    ends_differ a.tree.now (name_start a.i) (name_start a.j) name_width c.loop-k.invariant (omega arith) (omega arith) (omega arith) (λ e. omega arith)
    ∙ names_in_rows a.tree.now a.i a.j

pub returns-then-x-eq0 : goal.returns-then-x-eq0
returns-then-x-eq0 c =
    let a = c.args in
    ends_zero a.tree.now (name_start a.i) (name_start a.j) name_width c.loop-k.invariant (omega arith) (omega arith) (omega arith) (omega arith) (omega arith)
    ∙ names_in_rows a.tree.now a.i a.j

pub loop-k-preserved : goal.loop-k-preserved
loop-k-preserved c =
    let a = c.args in
    one_more a.tree.now (name_start a.i) (name_start a.j) name_width c.loop-k.invariant (omega arith) (omega arith) (omega arith) (omega arith) (λ e. omega arith)

pub returns : goal.returns
returns c =
    let a = c.args in
    ends_same a.tree.now (name_start a.i) (name_start a.j) name_width c.loop-k.invariant (omega arith)
    ∙ names_in_rows a.tree.now a.i a.j
