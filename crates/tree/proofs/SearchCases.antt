-- Steps worked out by document 02's sentence: of each child tried the bytes alike from the front, and one more.
use Rattle.std.specs.Prelude.{◌≡◌, refl, List, [], ◌∷◌, map, ℕ, ◌+◌}
use Prim.Native.String.{String}
use Rattle.buffers.specs.Text.{Text, same_text, precedes}
use Rattle.syntax.specs.Pieces.{bytes}
use Rattle.tree.specs.Forest.{Forest, nil, node, Place}
use Rattle.tree.specs.Rows.{flatten, rows}
use Rattle.tree.specs.RowScan.{order_of, first_depth, depth_of, order_in}
use Rattle.tree.specs.Search.{alike, steps_among, steps_at, steps_by, steps_from, steps_in}

-- a name sought, and the steps
record Case : Type 0 where
  sought : Text
  steps : ℕ

infix 80 ◌takes◌
◌takes◌ : String → ℕ → Case
◌takes◌ n k = record { sought = bytes n; steps = k }

-- a search takes the steps of each case
Counts : (Text → ℕ) → List Case → Type 0
Counts f cs = map (λ c. f c.sought) cs ≡ map (λ c. c.steps) cs

-- ash, elm with two below it, elmwood, oak
elm_below : Forest ℕ
elm_below = node (bytes "ash") 0 nil (node (bytes "elms") 0 nil nil)

woods : Place ℕ
woods = record { here = 0; below = node (bytes "ash") 0 nil (node (bytes "elm") 0 elm_below (node (bytes "elmwood") 0 nil (node (bytes "oak") 0 nil nil))) }

-- below the top, a summand for each child tried, in order; first the names that are there
below_top : List Case
below_top =
    "ash" takes 4 ∷
    "elm" takes (1 + 4) ∷
    "elmwood" takes (1 + 4 + 8) ∷
    "el" takes (1 + 3) ∷
    "elms" takes (1 + 4 + 4) ∷
    "elmwoods" takes (1 + 4 + 8 + 1) ∷
    "a" takes 2 ∷
    "" takes 1 ∷
    "zebrano" takes (1 + 1 + 1 + 1) ∷ []

children_counted : Counts (λ n. steps_among n woods.below) below_top
unfolding Counts ◌takes◌ elm_below woods below_top bytes same_text precedes alike steps_among
children_counted = refl

rows_counted : Counts (steps_in (rows woods) 0) below_top
unfolding Counts ◌takes◌ elm_below woods below_top bytes same_text precedes order_of flatten rows first_depth depth_of order_in alike steps_at steps_by steps_from steps_in
rows_counted = refl

-- below elm, whose row is the third; and below oak, where nothing is tried
rows_below_counted : Counts (steps_in (rows woods) 2) ("elm" takes (1 + 4) ∷ "elms" takes (1 + 5) ∷ [])
unfolding Counts ◌takes◌ elm_below woods bytes same_text precedes order_of flatten rows first_depth depth_of order_in alike steps_at steps_by steps_from steps_in
rows_below_counted = refl

nothing_counted : Counts (steps_in (rows woods) 6) ("oak" takes 0 ∷ [])
unfolding Counts ◌takes◌ elm_below woods bytes flatten rows first_depth depth_of steps_from steps_in
nothing_counted = refl
