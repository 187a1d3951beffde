-- Where walks lead in a tree's bytes.
use Rattle.std.specs.Prelude.{◌≡◌, List, ℕ}
use Rattle.syntax.specs.Path.{Path, parent}
use Rattle.tree.specs.Result.{Result, done, ◌>>=◌}
use Rattle.tree.specs.Forest.{Place}
use Rattle.tree.specs.Node.{Node}
use Rattle.tree.specs.RowPlaces.{index_of}
use Rattle.tree.specs.TreeBytes.{At}
use Rattle.walks.specs.RowWalk.{Spot, spot}

-- the rows of a place and of the directory above it
unfoldable pub spot_of : {A : Type 0} → Place A → Path → Spot
spot_of t p = spot (index_of t p) (index_of t (parent p))

-- the rows of the place at a path that steps come to
abbrev pub spot_from : Place Node → Path → Result (Place Node) → Result Spot
spot_from t p steps = steps >>= λ d. done (spot_of t p)

-- the walk w in the tree t led to the place at p, which has the row, and the directory over it the row above
pub record Came (b : List ℕ) (t : Place Node) (p : Path) (w : Result (Place Node)) (row above : ℕ) : Type 0 where
  pub place : Place Node
  pub over : Place Node
  pub walked : w ≡ done place
  pub at : At b t p row place
  pub over_at : At b t (parent p) above over
