-- Where the places of a tree stand among its rows: a place's own rows, how many stand before them, and what is around them; and
-- where among siblings in order a child of a name stands or would.
use Rattle.std.specs.Prelude.{◌≡◌, List, [], ◌∷◌, ◌++◌, Bool, true, ◌&&◌, cond, ℕ, suc, ◌+◌, leb, length}
use Rattle.std.proofs.Math.Option.{Option, none, some}
use Rattle.buffers.specs.Text.{same_text, precedes}
use Rattle.syntax.specs.Path.{Name, Path, root, ◌▹◌, last, depth}
use Rattle.tree.specs.Forest.{Forest, nil, node, Place, remove, update, place_at, size}
use Rattle.tree.specs.WellFormed.{leads}
use Rattle.tree.specs.Rows.{Row, flatten, rows}

-- ---- a place

-- a place's rows, its own first
unfoldable pub place_rows : {A : Type 0} → ℕ → Name → Place A → List (Row A)
place_rows k n d = record { depth = k; name = n; here = d.here } ∷ flatten (suc k) d.below

-- no row, or the first no deeper than k
unfoldable pub ends : {A : Type 0} → ℕ → List (Row A) → Bool
ends k [] = true
ends k (r ∷ rs) = leb r.depth k

-- the siblings before the first of a name
unfoldable pub ahead : {A : Type 0} → Name → Forest A → Forest A
ahead n nil = nil
ahead n (node m x cs rest) = cond (same_text n m) nil (node m x cs (ahead n rest))

-- and those after it
unfoldable pub behind : {A : Type 0} → Name → Forest A → Forest A
behind n nil = nil
behind n (node m x cs rest) = cond (same_text n m) rest (behind n rest)

-- the children of a place, if there is one
unfoldable pub children_of : {A : Type 0} → Option (Place A) → Forest A
children_of none = nil
children_of (some d) = d.below

-- how many rows stand before that of the place at a path
unfoldable pub index_of : {A : Type 0} → Place A → Path → ℕ
index_of t root = 0
index_of t (p ▹ n) = suc (index_of t p + size (ahead n (children_of (place_at t p))))

-- the place d at p, with the rows before and after its own
pub record Around {A : Type 0} (t : Place A) (p : Path) (d : Place A) : Type 0 where
  pub there : place_at t p ≡ some d
  pub pre : List (Row A)
  pub post : List (Row A)
  pub same : (e : Place A) → rows (update p (λ x. e) t) ≡ pre ++ (place_rows (depth p) (last p) e ++ post)
  pub was : rows t ≡ pre ++ (place_rows (depth p) (last p) d ++ post)
  pub stops : ends (depth p) post ≡ true
  pub index : length pre ≡ index_of t p

-- ---- siblings in order

-- whether siblings stand in the order of their names
unfoldable pub sorted : {A : Type 0} → Forest A → Bool
sorted nil = true
sorted (node n x cs rest) = leads n rest && sorted rest

-- the siblings whose names precede a name, up to the first that does not
unfoldable pub lesser : {A : Type 0} → Name → Forest A → Forest A
lesser n nil = nil
lesser n (node m x cs rest) = cond (precedes m n) (node m x cs (lesser n rest)) nil

-- and the others
unfoldable pub not_lesser : {A : Type 0} → Name → Forest A → Forest A
not_lesser n nil = nil
not_lesser n (node m x cs rest) = cond (precedes m n) (not_lesser n rest) (node m x cs rest)

-- the rows before the place of a child of a name, there or not
unfoldable pub rows_before : {A : Type 0} {t : Place A} {p : Path} {d : Place A} → Around t p d → Name → List (Row A)
rows_before {p = p} {d = d} c n = c.pre ++ record { depth = depth p; name = last p; here = d.here } ∷ flatten (suc (depth p)) (lesser n d.below)

-- and those after it
unfoldable pub rows_after : {A : Type 0} {t : Place A} {p : Path} {d : Place A} → Around t p d → Name → List (Row A)
rows_after {p = p} {d = d} c n = flatten (suc (depth p)) (remove n (not_lesser n d.below)) ++ c.post
