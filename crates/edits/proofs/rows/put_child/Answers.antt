-- `edits::rows::put_child` meets its contract: the rows behind move up, the row is written, and the count.
use mathlib.Core.Path.{ap, ◌∙◌}
use mathlib.Core.List.{List}
use Prim.Native.Nat.{ℕ, ◌+◌}
use native.Mathlib.Omega.{arith}
use lib.Seq.{paste}
use Rattle.buffers.specs.Fields.{two_bytes}
use Rattle.tree.specs.Layout.{row_width, row_start}
use Rattle.tree.specs.Encoding.{row_bytes}
use Rattle.edits.specs.Changes.{fresh_node}
use Rattle.edits.specs.WrittenLaws.{put_written}
use Rattle.edits.proofs.rows.put_child.Goals as goal

pub returns : goal.returns
returns c =
    let k = c.count-c in
    let a = c.args in
    let r = row_bytes (record { depth = a.depth; name = a.name.now; here = fresh_node a.node }) in
    c.write_number.ensures
    ∙ ap (λ (l : List ℕ). paste l 0 (two_bytes (k.result + 1)) 2) c.write_row.ensures
    ∙ ap (λ (l : List ℕ). paste (paste l (row_start a.at) r row_width) 0 (two_bytes (k.result + 1)) 2) c.move_bytes.ensures
    ∙ put_written a.tree.now r a.at 1 k.result (omega arith) k.ensures (omega arith) (omega arith)
