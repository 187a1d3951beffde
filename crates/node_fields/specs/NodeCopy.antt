-- All of a node but its name copied to another row, in bytes.
use Rattle.std.specs.Prelude.{List, ℕ, ◌-◌}
use Rattle.tree.specs.Layout.{kind_offset, name_offset, behind_name_width, tag_offset}
use Rattle.edits.specs.Changes.{field_bytes, field_put}

-- the attributes of a node stand between the depth and the name of its row
abbrev pub attributes_width : ℕ
attributes_width = name_offset - kind_offset

-- the attributes of one row copied to another, and then all that stands behind its name
unfoldable pub node_copied : List ℕ → ℕ → ℕ → List ℕ
node_copied b from to =
    let b₁ = field_put b to kind_offset (field_bytes b from kind_offset attributes_width) in
    field_put b₁ to tag_offset (field_bytes b₁ from tag_offset behind_name_width)
