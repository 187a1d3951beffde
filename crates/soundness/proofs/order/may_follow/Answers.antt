-- `soundness::order::may_follow` meets its contract: each return by the depth, the name, the kind of the row before, or the order of the names.
use mathlib.Core.Path.{sym, ◌∙◌, ap}
use Prim.Native.Nat.{◌-◌}
use native.Mathlib.Omega.{arith}
use Rattle.std.proofs.Common.{ne_eqb}
use Rattle.buffers.specs.Cases.{answers_false, answers_true}
use Rattle.tree.specs.Node.{is_directory}
use Rattle.tree.specs.RowAt.{row_at}
use Rattle.soundness.specs.OrderTestLaws.{follow_name, follow_top, follow_far, follow_below, follow_beside}
use Rattle.soundness.proofs.order.may_follow.Goals as goal
use Rattle.soundness.proofs.order.may_follow.Goals.{then-depth-eq0-via-then-depth-eq0, then-depth-eq0-via-else-depth-eq0+then-not-has_name}

pub returns-then-depth-eq0 : goal.returns-then-depth-eq0
returns-then-depth-eq0 c =
    let a = c.args in
    let t = a.tree.now in
    let p = row_at t (a.i - 1) in
    elim c.then-depth-eq0.branch [
      | then-depth-eq0-via-then-depth-eq0 w ↦ sym (follow_top p.depth p.here.kind (row_at t a.beside).name (row_at t a.i) (omega arith))
      | then-depth-eq0-via-else-depth-eq0+then-not-has_name w ↦
          sym (follow_name p.depth p.here.kind (row_at t a.beside).name (row_at t a.i) (answers_false w.has_name.ensures w.if-not-has_name.true-raw))
    ]

pub returns-then-depth-before-eq1 : goal.returns-then-depth-before-eq1
returns-then-depth-before-eq1 c =
    let a = c.args in
    let t = a.tree.now in
    let p = row_at t (a.i - 1) in
    let name = answers_true c.has_name.ensures c.if-not-has_name.false-raw in
    c.is_directory.ensures ∙ ap is_directory c.kind_at.ensures ∙ sym (follow_below p.depth p.here.kind (row_at t a.beside).name (row_at t a.i) name (omega arith) (omega arith) (omega arith))

pub returns-else-depth-before-eq1 : goal.returns-else-depth-before-eq1
returns-else-depth-before-eq1 c =
    let a = c.args in
    let t = a.tree.now in
    let p = row_at t (a.i - 1) in
    ne_eqb (c.depth_at-depth.result - c.depth_at-before.result) 1 (λ e. omega arith)
    ∙ sym (follow_far p.depth p.here.kind (row_at t a.beside).name (row_at t a.i) (omega arith))

pub returns : goal.returns
returns c =
    let a = c.args in
    let t = a.tree.now in
    let p = row_at t (a.i - 1) in
    let name = answers_true c.has_name.ensures c.if-not-has_name.false-raw in
    c.comes_before.ensures ∙ sym (follow_beside p.depth p.here.kind (row_at t a.beside).name (row_at t a.i) name (omega arith) (omega arith) (omega arith))
