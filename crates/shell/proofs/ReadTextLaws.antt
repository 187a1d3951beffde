-- How long the text of a place is: what `read` answers is at most `longest_text` bytes, and may be as many.
use Rattle.std.specs.Prelude.{◌≡◌, List, [], ◌∷◌, true, ◌-◌, ◌*◌, ◌≤◌, leb, length}
use Rattle.std.proofs.Math.Option.{some}
use native.Mathlib.Omega.{arith}
use Rattle.std.proofs.Common.{le-leb}
use Rattle.buffers.specs.Cases.{case}
use Rattle.buffers.specs.Text.{Text, every}
use Rattle.buffers.specs.TextLaws.{every_implies}
use Rattle.syntax.specs.Pieces.{comma, joined}
use Rattle.syntax.proofs.JoinedLaws.{joined_length}
use Rattle.syntax.specs.Path.{Path, is_name}
use Rattle.syntax.proofs.PathLaws.{name_length}
use Rattle.syntax.proofs.FieldLaws.{content_length}
use Rattle.tree.specs.Forest.{Place, place_at, size, names}
use Rattle.tree.specs.Node.{is_directory, Node}
use Rattle.tree.proofs.NodeLaws.{node_ranges}
use Rattle.tree.specs.WellFormed.{is_place, is_tree}
use Rattle.tree.proofs.WellFormedLaws.{place_parts, top_directory}
use Rattle.tree.proofs.SizeLaws.{names_few, names_are_names, tree_place}
use Rattle.tree.proofs.LargestTreesLaws.{full, full_is_tree, full_names}
use Rattle.shell.specs.Steps.{text_of, longest_text}

-- names joined by commas have at most 9 bytes each, less one
names_fit : (ns : List Text) → every is_name ns ≡ true → length (joined comma ns) ≤ 9 * length ns - 1
names_fit [] h = unfold joined in omega arith
names_fit (n ∷ ns) h =
    let i : _ = every_implies is_name (λ m. leb (length m) 8) (λ m e. le-leb (length m) 8 (name_length m e).1) (n ∷ ns) h in
    omega (arith, joined_length comma 8 n ns i)

place_fits : (d : Place Node) → is_place d ≡ true → size d.below ≤ 255 → length (text_of d) ≤ longest_text
unfolding text_of longest_text
place_fits d h l =
    let v = place_parts d h in
    case (is_directory d.here.kind)
    (λ t. rw t (omega (arith, names_fit (names d.below) (names_are_names d.below v.forest), names_few d.below)))
    (λ t. rw t (omega (arith, content_length d.here.content (node_ranges d.here v.own).content)))

-- the text of a place of a well-formed tree is at most that long
pub read_fits : (t : Place Node) (p : Path) (d : Place Node) → is_tree t ≡ true → place_at t p ≡ some d → length (text_of d) ≤ longest_text
read_fits t p d h e = let i = tree_place t p d h e in place_fits d i.0 i.1

-- and there is one whose text is that long
pub read_longest : (t : Place Node) × (is_tree t ≡ true) × (length (text_of t) ≡ longest_text)
unfolding text_of longest_text
read_longest = (full, full_is_tree, rw (top_directory full full_is_tree) full_names)
