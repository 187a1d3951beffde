-- The paths of a small tree's listing, computed: what lies below a path comes behind it, and before the next sibling.
use Rattle.std.specs.Prelude.{◌≡◌, refl, [], ◌∷◌, map}
use Rattle.std.proofs.Math.Option.{none}
use Rattle.syntax.specs.Pieces.{bytes, piece_length}
use Rattle.syntax.specs.Compute.{compute as compute_syntax}
use Rattle.tree.specs.declared.Kind.TheVariants.{Directory}
use Rattle.tree.specs.Forest.{nil, node, Place}
use Rattle.tree.specs.Node.{Node}
use Rattle.listing.specs.Listing.{kind_text, tag_fields, node_line, forest_lines, listing}
use Rattle.listing.specs.ByteOrder.{line_path}

-- `/a` with a child, and `/a0` and `/a_` behind it
small : Place Node
small =
    let x : Node = record { kind = Directory; owner = record { 0 = 0 }; group = record { 0 = 0 }; mode = 0; revision = 0; tag = none; content = [] } in
    record { here = x; below = node (bytes "a") x (node (bytes "x") x nil nil) (node (bytes "a0") x nil (node (bytes "a_") x nil nil)) }

small_in_order : map line_path (listing small) ≡ bytes "/" ∷ bytes "/a" ∷ bytes "/a/x" ∷ bytes "/a0" ∷ bytes "/a_" ∷ []
unfolding compute_syntax piece_length kind_text tag_fields node_line forest_lines listing line_path small
small_in_order = refl
