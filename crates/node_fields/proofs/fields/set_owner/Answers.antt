-- `edits::fields::set_owner` meets its contract: one byte of the row.
use native.Mathlib.Omega.{arith}
use Rattle.node_fields.specs.FieldsWrittenLaws.{byte_put}
use Rattle.node_fields.proofs.fields.set_owner.Goals as goal

pub returns : goal.returns
returns c =
    let a = c.args in
    byte_put a.tree.now a.i 2 a.owner.0 (omega arith)
