-- The rows of a tree's bytes by their index.
use Rattle.std.specs.Prelude.{List, ℕ, take, drop}
use Rattle.buffers.specs.Text.{Text}
use Rattle.buffers.specs.Fields.{number_at, text_at, all_from}
use Rattle.tree.specs.Layout.{row_width, row_start, tag_offset, tag_width, tag_revision_offset}
use Rattle.tree.specs.Node.{Node}
use Rattle.tree.specs.Rows.{Row}
use Rattle.tree.specs.Encoding.{read_row}

unfoldable pub row_count : List ℕ → ℕ
row_count b = number_at 0 b

-- the bytes of the row at an index
unfoldable pub row_bytes_at : List ℕ → ℕ → List ℕ
row_bytes_at b i = take row_width (drop (row_start i) b)

unfoldable pub row_at : List ℕ → ℕ → Row Node
row_at b i = read_row (row_bytes_at b i)

unfoldable pub all_rows : List ℕ → List (Row Node)
all_rows b = all_from row_width read_row (row_count b) (drop 2 b)

-- the tag's path as text and its revision, of which `read_row` makes the tag
unfoldable pub tag_text_at : List ℕ → ℕ → Text
tag_text_at b i = text_at tag_offset tag_width (row_bytes_at b i)

unfoldable pub tag_number_at : List ℕ → ℕ → ℕ
tag_number_at b i = number_at tag_revision_offset (row_bytes_at b i)
