-- `edits::fields::set_tag` meets its contract: a text and the number behind it.
use mathlib.Core.Path.{ap, ◌∙◌}
use mathlib.Core.List.{List}
use Prim.Native.Nat.{ℕ, ◌+◌}
use native.Mathlib.Omega.{arith}
use lib.Seq.{paste}
use Rattle.buffers.specs.Fields.{two_bytes}
use Rattle.tree.specs.Layout.{row_start, tag_revision_offset}
use Rattle.node_fields.specs.FieldsWrittenLaws.{tag_put}
use Rattle.node_fields.proofs.fields.set_tag.Goals as goal

pub returns : goal.returns
returns c =
    let a = c.args in
    c.write_number.ensures
    ∙ ap (λ (l : List ℕ). paste l (row_start a.i + tag_revision_offset) (two_bytes a.revision) 2) c.write_padded.ensures
    ∙ tag_put a.tree.now a.path.now a.i a.revision (omega arith) (omega arith)
