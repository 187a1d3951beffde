-- `edits::fields::set_group` meets its contract: one byte of the row.
use native.Mathlib.Omega.{arith}
use Rattle.node_fields.specs.FieldsWrittenLaws.{byte_put}
use Rattle.node_fields.proofs.fields.set_group.Goals as goal

pub returns : goal.returns
returns c =
    let a = c.args in
    byte_put a.tree.now a.i 3 a.group.0 (omega arith)
