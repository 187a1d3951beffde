-- Scans over the rows of a tree: how many lie below a place, and where the child of a name stands.
use Rattle.std.specs.Prelude.{List, [], ◌∷◌, Bool, false, cond, ℕ, suc, ◌+◌, ltb, drop, Result, Ok, Err}
use Rattle.buffers.specs.Text.{Text, same_text, precedes}
use Rattle.syntax.specs.Path.{Name}
use Rattle.tree.specs.Rows.{Row}

-- how many rows in front pass a test
unfoldable pub span : {A : Type 0} → (Row A → Bool) → List (Row A) → ℕ
span f [] = 0
span f (r ∷ rs) = cond (f r) (suc (span f rs)) 0

-- whether there is a first row and it passes
unfoldable pub first_passes : {A : Type 0} → (Row A → Bool) → List (Row A) → Bool
first_passes f [] = false
first_passes f (r ∷ rs) = f r

-- a row below depth k
unfoldable pub is_deeper : {A : Type 0} → ℕ → Row A → Bool
is_deeper k r = ltb k r.depth

unfoldable pub first_depth : {A : Type 0} → List (Row A) → ℕ
first_depth [] = 0
first_depth (r ∷ rs) = r.depth

-- the depth of the row at an index; past the last there is none, and 0 stands for it
unfoldable pub depth_of : {A : Type 0} → List (Row A) → ℕ → ℕ
depth_of rs at = first_depth (drop at rs)

-- where the rows below a row end
unfoldable pub end_of_subtree : {A : Type 0} → List (Row A) → ℕ → ℕ
end_of_subtree rs at = suc (at + span (is_deeper (depth_of rs at)) (drop (suc at) rs))

-- how a name stands to another
pub data Order : Type 0 where
  Before Same After : Order

unfoldable pub order_of : Text → Text → Order
order_of s t = cond (same_text s t) Same (cond (precedes s t) Before After)

-- how a row stands to that of the child named n at depth k: what lies deeper is below a sibling, what is less deep ends the children
unfoldable pub order_in : {A : Type 0} → ℕ → Name → Row A → Order
order_in k n r = cond (ltb k r.depth) Before (cond (ltb r.depth k) After (order_of r.name n))

-- what a search for a child answers: its row, or the one before which it would stand
abbrev pub Child : Type 0
Child = Result ℕ ℕ

-- what the search answers at index i, by how the row there stands and what the rows behind it answer
unfoldable pub child_by : Order → ℕ → Child → Child
child_by Before i behind = behind
child_by Same i behind = Ok i
child_by After i behind = Err i

-- the child named n at depth k among rows of which the first has index i, or where it would stand
unfoldable pub child_from : {A : Type 0} → ℕ → Name → ℕ → List (Row A) → Child
child_from k n i [] = Err i
child_from k n i (r ∷ rs) = child_by (order_in k n r) i (child_from k n (suc i) rs)

-- the child of a name of the place whose row has an index
unfoldable pub child_in : {A : Type 0} → List (Row A) → ℕ → Name → Child
child_in rs at n = child_from (suc (depth_of rs at)) n (suc at) (drop (suc at) rs)
