-- What the exported search tells: whether the child was found, its row or where it would stand, and the steps.
use Rattle.std.specs.Prelude.{List, Bool, ◌&&◌, cond, ℕ, eqb, leb, ltb, length, Result, Ok, Err}
use Rattle.syntax.specs.Path.{Name}
use Rattle.tree.specs.declared.Search.{Search}
use Rattle.tree.specs.Layout.{most_rows, tree_width}
use Rattle.tree.specs.RowAt.{row_count, all_rows}
use Rattle.tree.specs.Search.{search_in}

-- whether bytes are as many as a tree's, with no more rows than there is room for, and one of these at the index
unfoldable pub is_used : List ℕ → ℕ → Bool
is_used b at = eqb (length b) tree_width && (leb (row_count b) most_rows && ltb at (row_count b))

-- the number that the call answers, and what the two lent numbers hold then: the place and the steps
pub record Told : Type 0 where
  pub number : ℕ
  pub place : ℕ
  pub steps : ℕ

-- 0 where the child was found, 1 where it is missing
unfoldable pub number_told : Result ℕ ℕ → ℕ
number_told (Ok i) = 0
number_told (Err i) = 1

-- its row, or where it would stand
unfoldable pub place_told : Result ℕ ℕ → ℕ
place_told (Ok i) = i
place_told (Err i) = i

unfoldable pub search_told : Search → Told
search_told s = record { number = number_told s.child; place = place_told s.child; steps = s.steps }

-- of bytes without that row the answer is 2, and the lent numbers stay
unfoldable pub search_call : List ℕ → ℕ → Name → ℕ → ℕ → Told
search_call b at n place steps =
    cond (is_used b at) (search_told (search_in (all_rows b) at n)) (record { number = 2; place = place; steps = steps })
