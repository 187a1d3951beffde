-- `node_fields::fields::copy_node` meets its contract: the attributes, and then what stands behind the name.
use mathlib.Core.Path.{◌∙◌, ap}
use mathlib.Core.List.{List}
use Prim.Native.Nat.{ℕ}
use Rattle.tree.specs.Layout.{behind_name_width, tag_offset}
use Rattle.edits.specs.Changes.{field_bytes, field_put}
use Rattle.node_fields.specs.NodeCopy.{node_copied}
use Rattle.node_fields.proofs.fields.copy_node.Goals as goal

pub returns : goal.returns
unfolding node_copied
returns c =
    let a = c.args in
    c.copy_part-2.ensures
    ∙ ap (λ (b : List ℕ). field_put b a.to tag_offset (field_bytes b a.from tag_offset behind_name_width)) c.copy_part.ensures
