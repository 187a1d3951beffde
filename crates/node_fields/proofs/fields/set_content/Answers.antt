-- `edits::fields::set_content` meets its contract: one text of the row.
use mathlib.Core.Path.{◌∙◌}
use native.Mathlib.Omega.{arith}
use Rattle.buffers.specs.Fields.{padded}
use Rattle.buffers.specs.FieldsLaws.{length_padded}
use Rattle.tree.specs.Layout.{content_width, content_offset}
use Rattle.node_fields.specs.FieldsWrittenLaws.{piece_put}
use Rattle.node_fields.proofs.fields.set_content.Goals as goal

pub returns : goal.returns
returns c =
    let a = c.args in
    let s = a.content.now in
    c.write_padded.ensures ∙ piece_put a.tree.now a.i content_offset (padded content_width s) content_width (length_padded content_width s (omega arith))
