-- The search for a child with its steps (document 02, 4): "summed over the children tried: for each the bytes alike from the front, and one
-- more, where the names differ or both end".
--
-- Siblings stand in byte order, so tried are those up to the first whose name is not less than the one sought.
use Rattle.std.specs.Prelude.{List, [], ◌∷◌, cond, ℕ, suc, ◌+◌, eqb, drop}
use Rattle.buffers.specs.Text.{Text, precedes}
use Rattle.syntax.specs.Path.{Name}
use Rattle.tree.specs.declared.Search.{Search}
use Rattle.tree.specs.Forest.{Forest, nil, node}
use Rattle.tree.specs.Rows.{Row}
use Rattle.tree.specs.RowScan.{Order, Before, Same, After, depth_of, order_in, child_in}

-- how many bytes of two texts are alike from the front
unfoldable pub alike : Text → Text → ℕ
alike [] t = 0
alike (a ∷ s) [] = 0
alike (a ∷ s) (b ∷ t) = cond (eqb a b) (suc (alike s t)) 0

-- the steps among children in order: of each, up to the first that is not less, the bytes alike and one more
unfoldable pub steps_among : {A : Type 0} → Name → Forest A → ℕ
steps_among n nil = 0
steps_among n (node m x cs rest) = suc (alike m n) + cond (precedes m n) (steps_among n rest) 0

-- The same over rows, so that it is said of any bytes.

-- the steps at a row: of a child of depth k the bytes alike and one more, of what lies below a child or behind the last none
unfoldable pub steps_at : {A : Type 0} → ℕ → Name → Row A → ℕ
steps_at k n r = cond (eqb r.depth k) (suc (alike r.name n)) 0

-- the search goes on behind a row that stands before the child's
unfoldable pub steps_by : Order → ℕ → ℕ → ℕ
steps_by Before here behind = here + behind
steps_by Same here behind = here
steps_by After here behind = here

-- the steps among rows to the child named n at depth k
unfoldable pub steps_from : {A : Type 0} → ℕ → Name → List (Row A) → ℕ
steps_from k n [] = 0
steps_from k n (r ∷ rs) = steps_by (order_in k n r) (steps_at k n r) (steps_from k n rs)

-- the steps to the child of a name of the place whose row has an index
unfoldable pub steps_in : {A : Type 0} → List (Row A) → ℕ → Name → ℕ
steps_in rs at n = steps_from (suc (depth_of rs at)) n (drop (suc at) rs)

-- that child, or where it would stand, and the steps
unfoldable pub search_in : {A : Type 0} → List (Row A) → ℕ → Name → Search
search_in rs at n = record { child = child_in rs at n; steps = steps_in rs at n }
