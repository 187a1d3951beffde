-- The listing: all nodes by path in byte order, a line each.
--
-- `/` is less than every byte of a name, so byte order of paths is preorder with siblings in byte order.
use Rattle.std.specs.Prelude.{◌≡◌, List, [], ◌∷◌, ◌++◌, ℕ, ◌+◌, length, drop}
use Rattle.std.proofs.Math.Option.{Option, none, some}
use Rattle.buffers.specs.Text.{Text}
use Rattle.syntax.specs.Pieces.{bytes, comma, joined}
use Rattle.syntax.specs.Number.{decimal_text, mode_text}
use Rattle.syntax.specs.Path.{Path, root, ◌▹◌, path_text, entry_text, longest_entry_text}
use Rattle.syntax.specs.Field.{content_limit}
use Rattle.tree.specs.declared.Kind.{Kind}
use Rattle.tree.specs.declared.Kind.TheVariants.{File, Directory}
use Rattle.tree.specs.Forest.{Forest, nil, node, Place}
use Rattle.tree.specs.Node.{Tag, Node}

unfoldable pub kind_text : Kind → Text
kind_text File = bytes "f"
kind_text Directory = bytes "d"

-- tag path or `-`, tag revision or 0
unfoldable pub tag_fields : Option Tag → List Text
tag_fields none = bytes "-" ∷ bytes "0" ∷ []
tag_fields (some t) = entry_text t.path ∷ decimal_text t.revision ∷ []

-- path, d or f, owner, group, mode, revision, tag path, tag revision, content
unfoldable pub node_line : Path → Node → Text
node_line p n =
    joined comma
    ((path_text p ∷ kind_text n.kind ∷ decimal_text n.owner.0 ∷ decimal_text n.group.0 ∷ mode_text n.mode ∷ decimal_text n.revision ∷ [])
    ++ (tag_fields n.tag ++ (n.content ∷ [])))

-- the longest texts of the nine fields, and the commas between them: 208 bytes
unfoldable pub longest_listing_line : ℕ
longest_listing_line = 54 + 1 + 2 + 2 + 4 + 4 + longest_entry_text + 4 + content_limit + 8

unfoldable pub forest_lines : Path → Forest Node → List Text
forest_lines p nil = []
forest_lines p (node n x cs rest) = node_line (p ▹ n) x ∷ (forest_lines (p ▹ n) cs ++ forest_lines p rest)

unfoldable pub listing : Place Node → List Text
listing t = node_line root t.here ∷ forest_lines root t.below

-- b is the answer a with a line that is there written in front, and r tells the line's length
pub record LineWritten (line : Option Text) (a : List ℕ) (r : ℕ) (b : List ℕ) : Type 0 where
  pub text : Text
  pub there : line ≡ some text
  pub size : r ≡ length text
  pub holds : b ≡ text ++ drop (length text) a
