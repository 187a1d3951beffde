-- `edits::rows::write_row` meets its contract: the fields before the name, the name, and zeros.
use mathlib.Core.Path.{ap, ◌∙◌}
use mathlib.Core.List.{List}
use Prim.Native.Nat.{ℕ, ◌+◌}
use native.Mathlib.Omega.{arith}
use lib.ListN.{replicate}
use lib.Seq.{paste}
use Rattle.buffers.specs.Fields.{padded}
use Rattle.tree.specs.Layout.{name_width, name_offset, behind_name_width, tag_offset}
use Rattle.edits.specs.WrittenLaws.{row_written}
use Rattle.edits.proofs.rows.write_row.Goals as goal

pub returns : goal.returns
returns c =
    let a = c.args in
    c.clear.ensures
    ∙ ap (λ (l : List ℕ). paste l (a.at + tag_offset) (replicate behind_name_width 0) behind_name_width) c.write_padded.ensures
    ∙ ap (λ (l : List ℕ). paste (paste l (a.at + name_offset) (padded name_width a.name.now) name_width) (a.at + tag_offset) (replicate behind_name_width 0) behind_name_width) c.write_head.ensures
    ∙ row_written a.depth a.name.now a.node a.tree.now a.at (omega arith) (omega arith)
