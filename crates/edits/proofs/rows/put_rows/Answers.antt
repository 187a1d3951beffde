-- `edits::rows::put_rows` meets its contract: the rows behind move up, the gap is filled, and the count is written.
use mathlib.Core.Path.{ap, ◌∙◌}
use mathlib.Core.List.{List}
use Prim.Native.Nat.{ℕ, ◌+◌, ◌*◌}
use native.Mathlib.Omega.{arith}
use lib.Seq.{paste}
use Rattle.buffers.specs.Fields.{two_bytes}
use Rattle.buffers.specs.PasteLaws.{paste_taken}
use Rattle.tree.specs.Layout.{row_width, row_start}
use Rattle.edits.specs.WrittenLaws.{put_written}
use Rattle.edits.proofs.rows.put_rows.Goals as goal

pub returns : goal.returns
returns c =
    let k = c.count-c in
    let a = c.args in
    let start = row_start a.at in
    c.write_number.ensures
    ∙ ap (λ (l : List ℕ). paste l 0 (two_bytes (k.result + a.n)) 2)
    (c.write.ensures ∙ paste_taken c.move_bytes.new.b a.rows.now start (row_width * a.n) c.requires.n_in_bounds)
    ∙ ap (λ (l : List ℕ). paste (paste l start a.rows.now (row_width * a.n)) 0 (two_bytes (k.result + a.n)) 2) c.move_bytes.ensures
    ∙ put_written a.tree.now a.rows.now a.at a.n k.result (omega arith) k.ensures (omega arith) (omega arith)
