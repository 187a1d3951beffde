-- `entries::filing::bring_up` meets its contract: its two writes are those of the law.
use mathlib.Core.Path.{ap, ◌∙◌}
use Rattle.tree.specs.Node.{Node}
use Rattle.tree.proofs.TreeBytesLaws.{at_here}
use Rattle.entries.specs.LinkLaws.{at_has_row, has_still, up_law}
use Rattle.entries.proofs.filing.bring_up.Goals as goal

pub revision_at-current-requires : goal.revision_at-current-requires
revision_at-current-requires c = at_has_row c.requires.2.original

pub set_tag_revision-requires : goal.set_tag_revision-requires
set_tag_revision-requires c = at_has_row c.requires.2.file

pub copy_content-requires : goal.copy_content-requires
copy_content-requires c = let x = c.requires.2 in
    let k = c.set_tag_revision.auto.tree in
    record {
      has_row = has_still (at_has_row x.original) k;
      has_row_2 = has_still (at_has_row x.file) k;
    }

pub returns : goal.returns
returns c = let v = c.revision_at-current in
    λ t l x. up_law x v.result (v.ensures ∙ ap (λ (n : Node). n.revision) (at_here x.original)) c.set_tag_revision.ensures c.copy_content.ensures
