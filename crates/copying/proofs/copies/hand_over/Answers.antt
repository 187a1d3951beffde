-- `copying::copies::hand_over` meets its contract: the row of the original, and its head written over.
use mathlib.Core.Path.{refl}
use Rattle.copying.proofs.CopyBytesLaws.{head_copied}
use Rattle.copying.proofs.copies.hand_over.Goals as goal

pub returns : goal.returns
returns c =
    let a = c.args in
    head_copied a.tree.now a.at c.requires.holds_row a.out.now a.to c.requires.has_row c.copy_bytes.new.out c.write_head.new.tree a.depth
    (record { kind = c.kind_at-kind.result; owner = a.owner; group = a.group; mode = c.copy_mode.result; revision = 0 })
    c.kind_at-kind.ensures c.copy_mode.ensures refl c.copy_bytes.ensures c.write_head.ensures
