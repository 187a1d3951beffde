-- What it is for lines to be those of a tree's nodes, in byte order of their paths.
use Rattle.std.specs.Prelude.{◌≡◌, List, [], ◌∷◌, ◌⊎◌, Bool, true, ◌&&◌, take}
use Rattle.std.proofs.Math.Option.{some}
use Rattle.buffers.specs.Text.{Text, precedes, every}
use Rattle.syntax.specs.Pieces.{comma, piece_length}
use Rattle.syntax.specs.Path.{Path, path_text}
use Rattle.tree.specs.Forest.{Place, place_at}
use Rattle.tree.specs.Node.{Node}
use Rattle.listing.specs.Listing.{node_line}

-- the path that a line begins with: what stands before its first comma
unfoldable pub line_path : Text → Text
line_path l = take (piece_length comma l) l

-- each text precedes all behind it in byte order, so no two are the same
unfoldable pub increasing : List Text → Bool
increasing [] = true
increasing (s ∷ ts) = every (precedes s) ts && increasing ts

-- a line is among lines
abbrev pub In : Text → List Text → Type 0
In l [] = ⊥
In l (m ∷ ls) = (l ≡ m) ⊎ In l ls

-- the line of a node that stands in the tree, which begins with the node's path
pub record LineOfNode (t : Place Node) (l : Text) : Type 0 where
  pub path : Path
  pub place : Place Node
  pub stands : place_at t path ≡ some place
  pub line : l ≡ node_line path place.here
  pub begins : line_path l ≡ path_text path
