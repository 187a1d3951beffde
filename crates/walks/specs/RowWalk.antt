-- Walks over the rows: name by name from `/`, by what an account may do at the row of each directory.
use Rattle.std.specs.Prelude.{List, [], ◌∷◌, ℕ, take, drop, Ok, Err}
use Rattle.std.proofs.Math.Option.{Option, none, some}
use Rattle.buffers.specs.Text.{Text}
use Rattle.accounts.specs.declared.Account.{Account}
use Rattle.syntax.specs.Path.{Name}
use Rattle.syntax.specs.Parts.{last_slash, path_names}
pub use Rattle.walks.specs.declared.Spot.{Spot}
use Rattle.tree.specs.declared.Cause.TheVariants.{Missing, NotDirectory}
use Rattle.tree.specs.Result.{Result, refused, done, ◌>>=◌, ◌>>◌, present}
use Rattle.tree.specs.Node.{Node}
use Rattle.tree.specs.Walk.{by_modes, enter}
use Rattle.tree.specs.Rows.{Row}
use Rattle.tree.specs.RowScan.{Child, child_in}

-- the index of a place's row, and that of the directory above it; `/` is above itself
abbrev pub spot : ℕ → ℕ → Spot
spot row above = record { row = row; above = above }

unfoldable pub top_spot : Spot
top_spot = spot 0 0

-- into the directory of the first of some rows: a file 4, x 5
unfoldable pub enter_first : Account → List (Row Node) → Result (Unit {0})
enter_first a [] = refused NotDirectory
enter_first a (r ∷ rs) = enter (by_modes a) r.here

unfoldable pub enter_in : Account → List (Row Node) → Spot → Result Spot
enter_in a rs s = enter_first a (drop s.row rs) >> done s

-- the row that a search found
unfoldable pub found_row : Child → Option ℕ
found_row (Ok i) = some i
found_row (Err i) = none

-- from a place to its child of a name
unfoldable pub step_in : Account → List (Row Node) → Spot → Name → Result Spot
step_in a rs s n = do
  enter_first a (drop s.row rs)
  i ← present (found_row (child_in rs s.row n)) Missing
  done (spot i s.row)

unfoldable pub walk_names_in : Account → List (Row Node) → Spot → List Name → Result Spot
walk_names_in a rs s [] = done s
walk_names_in a rs s (n ∷ ns) = do
  d ← step_in a rs s n
  walk_names_in a rs d ns

-- the walk along the names of a text
unfoldable pub walk_in : Account → List (Row Node) → Text → Result Spot
walk_in a rs s = walk_names_in a rs top_spot (path_names s)

-- the walk along those before the last `/`, with the x test there
unfoldable pub parent_walk_in : Account → List (Row Node) → Text → Result Spot
parent_walk_in a rs s = do
  d ← walk_in a rs (take (last_slash s) s)
  enter_in a rs d
