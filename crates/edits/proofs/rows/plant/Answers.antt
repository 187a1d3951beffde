-- `edits::rows::plant` meets its contract: zeros everywhere, then the count and the row of `/`.
use mathlib.Core.Path.{ap, ◌∙◌}
use mathlib.Core.List.{List, []}
use Prim.Native.Nat.{ℕ}
use native.Mathlib.Omega.{arith}
use lib.Seq.{paste}
use Rattle.buffers.specs.Fields.{two_bytes}
use Rattle.tree.specs.Layout.{row_width}
use Rattle.tree.specs.Encoding.{row_bytes}
use Rattle.edits.specs.Changes.{fresh_node}
use Rattle.edits.specs.WrittenLaws.{planted_tree}
use Rattle.edits.proofs.rows.plant.Goals as goal

pub returns : goal.returns
returns c =
    let a = c.args in
    let r = row_bytes (record { depth = 0; name = []; here = fresh_node a.top }) in
    c.write_row.ensures
    ∙ ap (λ (l : List ℕ). paste l 2 r row_width) c.write_number.ensures
    ∙ ap (λ (l : List ℕ). paste (paste l 0 (two_bytes 1) 2) 2 r row_width) c.clear.ensures
    ∙ planted_tree a.tree.now a.top (omega arith)
