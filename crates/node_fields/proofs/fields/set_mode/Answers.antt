-- `edits::fields::set_mode` meets its contract: one number of the row.
use mathlib.Core.Path.{◌∙◌}
use Rattle.node_fields.specs.FieldsWrittenLaws.{number_put}
use Rattle.node_fields.proofs.fields.set_mode.Goals as goal

pub returns : goal.returns
returns c =
    let a = c.args in
    c.write_number.ensures ∙ number_put a.tree.now a.i 4 a.mode
