-- Where everything stands in the bytes of a tree: the number of rows, then room for 256 rows.
--
-- | field of a row | offset | bytes |
-- | depth, kind, owner, group | 0, 1, 2, 3 | 1 each |
-- | mode, revision | 4, 6 | 2 each |
-- | name | 8 | 8 |
-- | tag: path, revision | 16, 65 | 49, 2 |
-- | content | 67 | 80 |
-- | kept for a merge base | 147 | 80 |
use Rattle.std.specs.Prelude.{ℕ, ◌+◌, ◌*◌}
use Rattle.syntax.specs.Path.{longest_entry_text}
use Rattle.syntax.specs.Field.{content_limit}

abbrev pub row_width : ℕ
row_width = 227

abbrev pub most_rows : ℕ
most_rows = 256

-- the number of rows, and all rows
abbrev pub tree_width : ℕ
tree_width = 58114

-- all rows but the first
abbrev pub later_rows_width : ℕ
later_rows_width = 57885

-- where the row at an index begins
abbrev pub row_start : ℕ → ℕ
row_start i = 2 + row_width * i

abbrev pub kind_offset : ℕ
kind_offset = 1

abbrev pub owner_offset : ℕ
owner_offset = 2

abbrev pub group_offset : ℕ
group_offset = 3

abbrev pub mode_offset : ℕ
mode_offset = 4

abbrev pub revision_offset : ℕ
revision_offset = 6

-- the fields before the name
abbrev pub head_width : ℕ
head_width = 8

abbrev pub name_offset : ℕ
name_offset = 8

abbrev pub name_width : ℕ
name_width = 8

-- what stands behind the name: tag, content and merge base
abbrev pub behind_name_width : ℕ
behind_name_width = 211

abbrev pub tag_offset : ℕ
tag_offset = 16

-- the longest entry path
abbrev pub tag_width : ℕ
tag_width = longest_entry_text

abbrev pub tag_revision_offset : ℕ
tag_revision_offset = 65

-- the path and the revision
abbrev pub whole_tag_width : ℕ
whole_tag_width = 51

abbrev pub content_offset : ℕ
content_offset = 67

-- the longest content
abbrev pub content_width : ℕ
content_width = content_limit

abbrev pub base_offset : ℕ
base_offset = 147

abbrev pub base_width : ℕ
base_width = content_limit
