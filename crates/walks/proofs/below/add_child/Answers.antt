-- `walks::below::add_child` meets its contract: a row at the depth adds its name, another none.
use mathlib.Core.Path.{◌∙◌, ap}
use mathlib.Core.List.{append-nil}
use native.Mathlib.Omega.{arith}
use lib.ListN.{length}
use Rattle.tree.specs.RowAt.{row_at}
use Rattle.tree.proofs.RowAtLaws.{row_name_fits}
use Rattle.walks.specs.RowBelowLaws.{name_there, name_elsewhere}
use Rattle.walks.proofs.below.add_child.Goals as goal

pub returns-then-depth_at-depth : goal.returns-then-depth_at-depth
returns-then-depth_at-depth c =
    let g = c.args in
    let None-more = name_elsewhere g.depth (row_at g.tree.now g.i) (λ e. c.if-depth_at-depth.true (c.depth_at.ensures ∙ e)) in
    (λ a ns v. rw (None-more, append-nil ns) v, omega arith)

pub add_name-requires : goal.add_name-requires
add_name-requires c =
    let g = c.args in
    let short = row_name_fits g.tree.now g.i in
    let same = ap length c.name_at.ensures in
    omega arith

pub returns : goal.returns
returns c =
    let w = c.add_name in
    let q = c.name_at in
    let g = c.args in
    let one_more = name_there g.depth (row_at g.tree.now g.i) (omega arith) in
    (λ a ns v. rw (one_more, ← q.ensures) (w.ensures.0 a ns v), w.ensures.1)
