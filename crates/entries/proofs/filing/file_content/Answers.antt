-- `entries::filing::file_content` meets its contract: its three writes are those of the law.
use mathlib.Core.Path.{ap, ◌∙◌}
use Prim.Native.Nat.{◌+◌}
use native.Mathlib.Omega.{arith}
use Rattle.tree.specs.Node.{Node}
use Rattle.tree.proofs.NodeLaws.{last_revision_is}
use Rattle.tree.proofs.TreeBytesLaws.{at_here}
use Rattle.entries.specs.LinkLaws.{at_has_row, has_still, commit_law}
use Rattle.entries.proofs.filing.file_content.Goals as goal

pub revision_at-next-requires : goal.revision_at-next-requires
revision_at-next-requires c = at_has_row c.requires.some_link.2.original

pub overflow_add-next : goal.overflow_add-next
overflow_add-next c = record { fits = omega (arith, c.revision_at-next.ensures, c.requires.bound, last_revision_is) }

pub copy_content-requires : goal.copy_content-requires
copy_content-requires c = let x = c.requires.some_link.2 in record {
  has_row = at_has_row x.file;
  has_row_2 = at_has_row x.original;
}

pub set_revision-requires : goal.set_revision-requires
set_revision-requires c = has_still (at_has_row c.requires.some_link.2.original) c.copy_content.auto.tree

pub set_tag_revision-requires : goal.set_tag_revision-requires
set_tag_revision-requires c = has_still (at_has_row c.requires.some_link.2.file) (c.set_revision.auto.tree ∙ c.copy_content.auto.tree)

pub returns : goal.returns
returns c = let v = c.revision_at-next in
    λ t l x.
    let e = ap (λ (n : Node). n.revision) (at_here x.original) in
    commit_law x (v.result + 1) (omega (arith, v.ensures, e)) (omega (arith, c.requires.bound, e))
    c.copy_content.ensures c.set_revision.ensures c.set_tag_revision.ensures
