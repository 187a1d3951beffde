-- What filing leaves of a node and of a tree: all but revision, tag and content.
use Rattle.std.specs.Prelude.{[]}
use Rattle.std.proofs.Math.Option.{none}
use Rattle.tree.specs.Forest.{Place, map_place}
use Rattle.tree.specs.Node.{Node}

-- a node without its revision, tag and content, which filing changes
unfoldable pub outline : Node → Node
outline n = record { kind = n.kind; owner = n.owner; group = n.group; mode = n.mode; revision = 0; tag = none; content = [] }

-- a tree of them
unfoldable pub outlines : Place Node → Place Node
outlines t = map_place outline t
