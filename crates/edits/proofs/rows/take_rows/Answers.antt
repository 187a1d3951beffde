-- `edits::rows::take_rows` meets its contract: the rows behind move down, zeros follow them, and the count is written.
use mathlib.Core.Path.{ap, ◌∙◌}
use mathlib.Core.List.{List}
use Prim.Native.Nat.{ℕ, ◌-◌, ◌*◌}
use native.Mathlib.Omega.{arith}
use lib.ListN.{replicate}
use lib.Seq.{paste}
use Rattle.buffers.specs.Fields.{two_bytes}
use Rattle.tree.specs.Layout.{row_width, row_start}
use Rattle.edits.specs.WrittenLaws.{taken_written}
use Rattle.edits.proofs.rows.take_rows.Goals as goal

pub returns : goal.returns
returns c =
    let k = c.count-c in
    let a = c.args in
    let left = row_width * a.n in
    c.write_number.ensures
    ∙ ap (λ (l : List ℕ). paste l 0 (two_bytes (k.result - a.n)) 2) c.clear.ensures
    ∙ ap (λ (l : List ℕ). paste (paste l (row_start (k.result - a.n)) (replicate left 0) left) 0 (two_bytes (k.result - a.n)) 2) c.move_bytes.ensures
    ∙ taken_written a.tree.now a.at a.n k.result (omega arith) k.ensures (omega arith) (omega arith)
