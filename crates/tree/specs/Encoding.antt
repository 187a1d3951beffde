-- The bytes of a tree, as `Layout` has them; the bytes of rows that are not used are all zero.
--
-- `decode_tree` answers the tree whose encoding the bytes are, if it is well-formed.
use Rattle.std.specs.Prelude.{List, [], ◌∷◌, ◌++◌, ◌&&◌, cond, ℕ, ◌-◌, ◌*◌, eqb, length, get_or, drop, replicate}
use Rattle.std.proofs.Math.Option.{Option, none, some}
use Rattle.buffers.specs.Text.{Text, same_text}
use Rattle.buffers.specs.Fields.{two_bytes, number_at, padded, text_at, all_bytes, all_from}
use Rattle.syntax.specs.Path.{entry_path, entry_text}
use Rattle.syntax.specs.Form.{◌>>=◌, ◌>>◌, check}
use Rattle.tree.specs.declared.Kind.{Kind}
use Rattle.tree.specs.declared.Kind.TheVariants.{File, Directory}
use Rattle.tree.specs.Layout.{row_width, mode_offset, revision_offset, name_offset, name_width, tag_offset, tag_width, tag_revision_offset, whole_tag_width, content_offset, content_width, base_width}
use Rattle.tree.specs.Forest.{Place}
use Rattle.tree.specs.Node.{Tag, Node}
use Rattle.tree.specs.Rows.{Row, rows, tree_of}
use Rattle.tree.specs.WellFormed.{most_nodes, is_tree}

unfoldable pub kind_byte : Kind → ℕ
kind_byte File = 102
kind_byte Directory = 100

unfoldable pub kind_of : ℕ → Kind
kind_of b = cond (eqb b (kind_byte Directory)) Directory File

unfoldable pub tag_bytes : Option Tag → List ℕ
tag_bytes none = replicate whole_tag_width 0
tag_bytes (some t) = padded tag_width (entry_text t.path) ++ two_bytes t.revision

unfoldable pub tag_of : Text → ℕ → Option Tag
tag_of t v = do
  e ← entry_path t
  some (record { path = e; revision = v })

-- a tag as the text of its path and its revision; where there is none the text is empty and the revision 0
pub data TagTold : Option Tag → Text → ℕ → Type 0 where
  told_none : TagTold none [] 0
  told_tag : (t : Tag) → TagTold (some t) (entry_text t.path) t.revision

-- the bytes of a row before its name
abbrev pub row_head : Row Node → List ℕ
row_head r =
    (r.depth ∷ kind_byte r.here.kind ∷ r.here.owner.0 ∷ r.here.group.0 ∷ []) ++ (two_bytes r.here.mode ++ two_bytes r.here.revision)

-- and those behind its content
abbrev pub row_spare : List ℕ
row_spare = replicate base_width 0

unfoldable pub row_bytes : Row Node → List ℕ
row_bytes r =
    let n = r.here in
    (r.depth ∷ kind_byte n.kind ∷ n.owner.0 ∷ n.group.0 ∷ [])
    ++ (two_bytes n.mode
    ++ (two_bytes n.revision
    ++ (padded name_width r.name
    ++ (tag_bytes n.tag
    ++ (padded content_width n.content
    ++ row_spare)))))

unfoldable pub read_row : List ℕ → Row Node
read_row b = record {
  depth = get_or b 0 0;
  name = text_at name_offset name_width b;
  here = record {
    kind = kind_of (get_or b 1 0);
    owner = record { 0 = get_or b 2 0 };
    group = record { 0 = get_or b 3 0 };
    mode = number_at mode_offset b;
    revision = number_at revision_offset b;
    tag = tag_of (text_at tag_offset tag_width b) (number_at tag_revision_offset b);
    content = text_at content_offset content_width b;
  };
}

unfoldable pub encode_rows : List (Row Node) → List ℕ
encode_rows rs = two_bytes (length rs) ++ (all_bytes row_bytes rs ++ replicate ((most_nodes - length rs) * row_width) 0)

unfoldable pub encode_tree : Place Node → List ℕ
encode_tree t = encode_rows (rows t)

unfoldable pub decode_tree : List ℕ → Option (Place Node)
decode_tree b = do
  t ← tree_of (all_from row_width read_row (number_at 0 b) (drop 2 b))
  check (is_tree t && same_text (encode_tree t) b)
  some t
