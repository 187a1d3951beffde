-- `edits::fields::set_revision` meets its contract: one number of the row.
use mathlib.Core.Path.{◌∙◌}
use Rattle.node_fields.specs.FieldsWrittenLaws.{number_put}
use Rattle.node_fields.proofs.fields.set_revision.Goals as goal

pub returns : goal.returns
returns c =
    let a = c.args in
    c.write_number.ensures ∙ number_put a.tree.now a.i 6 a.revision
