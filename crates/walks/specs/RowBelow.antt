-- What the rows below a row tell: whether there are any, how far down they go, and the names of the children.
use Rattle.std.specs.Prelude.{List, [], ◌∷◌, Bool, cond, ℕ, suc, ◌-◌, eqb, take, drop}
use Rattle.buffers.specs.Text.{Text}
use Rattle.syntax.specs.Pieces.{comma, joined}
use Rattle.tree.specs.Forest.{larger}
use Rattle.tree.specs.Node.{Node}
use Rattle.tree.specs.Rows.{Row}
use Rattle.tree.specs.RowScan.{span, first_passes, is_deeper, depth_of}

-- the rows in front that lie below depth k
unfoldable pub front_below : ℕ → List (Row Node) → List (Row Node)
front_below k rs = take (span (is_deeper k) rs) rs

-- the rows below a row
unfoldable pub rows_below : List (Row Node) → ℕ → List (Row Node)
rows_below rs at = front_below (depth_of rs at) (drop (suc at) rs)

-- whether the next row lies below a row
unfoldable pub has_children_in : List (Row Node) → ℕ → Bool
has_children_in rs at = first_passes (is_deeper (depth_of rs at)) (drop (suc at) rs)

-- the greatest of a number and the depths of rows
unfoldable pub deepest_in : ℕ → List (Row Node) → ℕ
deepest_in m [] = m
deepest_in m (r ∷ rs) = deepest_in (larger m r.depth) rs

-- how far below a row the rows below it go
unfoldable pub height_in : List (Row Node) → ℕ → ℕ
height_in rs at = deepest_in (depth_of rs at) (rows_below rs at) - depth_of rs at

-- the names of the rows at depth k
unfoldable pub names_in : ℕ → List (Row Node) → List Text
names_in k [] = []
names_in k (r ∷ rs) = cond (eqb r.depth k) (r.name ∷ names_in k rs) (names_in k rs)

-- the names of the children of a row, parted by commas
unfoldable pub child_text_in : List (Row Node) → ℕ → Text
child_text_in rs at = joined comma (names_in (suc (depth_of rs at)) (rows_below rs at))
