-- `soundness::row::has_name` meets its contract: what is left, with what was seen, is the whole, and the first byte tells whether
-- there is a name.
use mathlib.Core.Path.{sym, ◌∙◌, ap}
use mathlib.Core.Bool.{Bool, ◌&&◌, not}
use Prim.Native.Nat.{◌+◌}
use native.Mathlib.Omega.{arith}
use lib.Dec.{eqb}
use lib.ListN.{get_or}
use Rattle.tree.specs.Layout.{row_start, name_offset, name_width}
use Rattle.soundness.specs.Tests.{may_name}
use Rattle.soundness.specs.NeighbourLaws.{begins, one_more, ends}
use Rattle.soundness.specs.FieldTestLaws.{name_in_row}
use Rattle.soundness.proofs.row.has_name.Goals as goal

pub loop-n-init : goal.loop-n-init
loop-n-init c = let a = c.args in begins may_name a.tree.now (row_start a.i + name_offset) name_width

pub loop-n-preserved : goal.loop-n-preserved
loop-n-preserved c =
    let a = c.args in
    let at = row_start a.i + name_offset in
    one_more may_name a.tree.now at name_width c.may_name-all.result c.loop-n.invariant (omega arith) (c.may_name-all.ensures (get_or a.tree.now (at + c.loop-n.n + 1) 0))

pub returns : goal.returns
returns c =
    let a = c.args in
    let t = a.tree.now in
    let at = row_start a.i + name_offset in
    ap (λ (b : Bool). b && not (eqb (get_or t at 0) 0)) (ends may_name t at name_width c.loop-n.invariant (omega arith))
    ∙ sym (name_in_row t a.i (omega arith) c.requires.i_value)
