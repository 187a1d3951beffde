-- `node_fields::fields::copy_part` meets its contract: bytes of one row moved to where they stand in another.
use mathlib.Core.Path.{◌∙◌}
use native.Mathlib.Omega.{arith}
use Rattle.node_fields.specs.FieldsWrittenLaws.{part_copied}
use Rattle.node_fields.proofs.fields.copy_part.Goals as goal

pub returns : goal.returns
returns c =
    let a = c.args in
    c.move_bytes.ensures ∙ part_copied a.tree.now a.from a.to a.at a.n (omega arith) (omega arith)
