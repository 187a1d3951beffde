-- `placing::placement::put_copies` meets its contract: what is lent from the buffer's third byte on is all behind the first two.
use mathlib.Core.Path.{◌∙◌, ap}
use Prim.Native.Nat.{◌-◌}
use native.Mathlib.Omega.{arith}
use lib.ListN.{length, drop, length-drop}
use lib.Seq.{take_all}
use Rattle.edits.specs.Changes.{rows_put}
use Rattle.placing.proofs.placement.put_copies.Goals as goal

pub slice_bounds-put_rows-count : goal.slice_bounds-put_rows-count
slice_bounds-put_rows-count c = omega (arith, c.requires.n_in_bounds)

pub slice_bounds-put_rows-start : goal.slice_bounds-put_rows-start
slice_bounds-put_rows-start c = omega (arith, c.requires.n_in_bounds)

pub slice_bounds-put_rows-end : goal.slice_bounds-put_rows-end
slice_bounds-put_rows-end c = omega arith

pub shape_of-tree : goal.shape_of-tree
shape_of-tree c = c.put_rows.auto.tree

pub returns : goal.returns
returns c =
    let a = c.args in
    let o = a.out.now in
    c.put_rows.ensures ∙ ap (rows_put a.tree.now a.at a.n) (take_all (length o - 2) (drop 2 o) (omega (arith, length-drop 2 o)))
