-- What the changes of a tree's bytes are: rows put in or taken out, and a field of a row written. Each says every byte
-- afterwards, of any buffer. Only what is made of several changes, a move, copies and a home, requires the tree that it is
-- made for: a move and copies that the command's checks have passed (`Movable`, `EntryJob`).
use Rattle.std.specs.Prelude.{List, [], ◌∷◌, ◌++◌, ℕ, ◌+◌, ◌-◌, ◌*◌, length, take, drop, replicate}
use Rattle.std.proofs.Math.Option.{none}
use Rattle.std.proofs.Math.Seq.{paste}
use Rattle.buffers.specs.Text.{Text}
use Rattle.buffers.specs.Fields.{two_bytes, padded}
use Rattle.syntax.specs.Path.{Name}
use Rattle.tree.specs.Layout.{row_width, row_start, content_offset, content_width, tag_width}
use Rattle.tree.specs.Node.{Node}
use Rattle.tree.specs.Rows.{Row}
use Rattle.tree.specs.Encoding.{kind_byte}
use Rattle.tree.specs.RowAt.{row_count, tag_text_at}
use Rattle.edits.specs.declared.Fresh.{Fresh}

-- n rows, given by their bytes, put in before the row at index i: those from there on move up, the bytes behind the last stay
unfoldable pub rows_put : List ℕ → ℕ → ℕ → List ℕ → List ℕ
rows_put b i n s =
    two_bytes (row_count b + n)
    ++ (take (row_width * i) (drop 2 b)
    ++ (take (row_width * n) s
    ++ (take (row_width * (row_count b - i)) (drop (row_start i) b)
    ++ drop (row_start (row_count b + n)) b)))

-- n rows from index i on taken out: those behind move down, and zeros stand where the last n were
unfoldable pub rows_taken : List ℕ → ℕ → ℕ → List ℕ
rows_taken b i n =
    two_bytes (row_count b - n)
    ++ (take (row_width * i) (drop 2 b)
    ++ (take (row_width * (row_count b - (i + n))) (drop (row_start (i + n)) b)
    ++ (replicate (row_width * n) 0
    ++ drop (row_start (row_count b)) b)))

-- the n bytes of the row at index i that stand k bytes into it
unfoldable pub field_bytes : List ℕ → ℕ → ℕ → ℕ → List ℕ
field_bytes b i k n = take n (drop (row_start i + k) b)

-- bytes written into that row, k bytes into it
unfoldable pub field_put : List ℕ → ℕ → ℕ → List ℕ → List ℕ
field_put b i k s = paste b (row_start i + k) s (length s)

-- the content of the row at an index, filled up
abbrev pub content_field : List ℕ → ℕ → List ℕ
content_field b i = field_bytes b i content_offset content_width

-- the bytes of a tag: its path as text, and its revision
abbrev pub tag_field : Text → ℕ → List ℕ
tag_field path v = padded tag_width path ++ two_bytes v

-- and of the tag of a child: the path of the tag at another row, a slash and a name
abbrev pub tag_below : List ℕ → ℕ → Text → ℕ → List ℕ
tag_below b above name v = tag_field (tag_text_at b above ++ (47 ∷ name)) v

-- a new node has no tag and no content
unfoldable pub fresh_node : Fresh → Node
fresh_node f = record {
  kind = f.kind;
  owner = f.owner;
  group = f.group;
  mode = f.mode;
  revision = f.revision;
  tag = none;
  content = [];
}

-- its row
abbrev pub fresh_row : ℕ → Name → Fresh → Row Node
fresh_row depth name f = record { depth = depth; name = name; here = fresh_node f }

-- the bytes of a new node's row before its name
unfoldable pub head_bytes : ℕ → Fresh → List ℕ
head_bytes depth f =
    (depth ∷ kind_byte f.kind ∷ f.owner.0 ∷ f.group.0 ∷ [])
    ++ (two_bytes f.mode
    ++ two_bytes f.revision)
