-- `moving::subtree::take_held` meets its contract: what is written are the first bytes of all from the row on.
use mathlib.Core.Path.{◌∙◌}
use Prim.Native.Nat.{◌*◌}
use native.Mathlib.Omega.{arith}
use Rattle.buffers.specs.PasteLaws.{paste_part}
use Rattle.tree.specs.Layout.{row_width, row_start}
use Rattle.moving.proofs.subtree.take_held.Goals as goal

pub returns : goal.returns
returns c =
    let a = c.args in record {
      tree_after = c.take_rows.ensures;
      held_after = c.write.ensures ∙ paste_part a.held.now a.tree.now 0 (row_start a.at) (row_width * a.n) (omega arith);
    }
