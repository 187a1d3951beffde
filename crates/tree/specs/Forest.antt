-- Trees over any payload: siblings in byte order of their names, each with the forest of its children.
--
-- The payload is a parameter, so that the store's nodes and the abstract machine's entries share every definition and law.
-- Every change of a tree is `update` at a path.
use Rattle.std.specs.Prelude.{◌≡◌, List, [], ◌∷◌, Bool, true, false, cond, ℕ, suc, ◌+◌, leb}
use Rattle.std.proofs.Math.Option.{Option, none, some}
use Rattle.buffers.specs.Text.{same_text, precedes}
use Rattle.syntax.specs.Form.{◌>>=◌}
use Rattle.syntax.specs.Path.{Name, Path, root, ◌▹◌}

pub data Forest (A : Type 0) : Type 0 where
  nil : Forest A
  node : Name → A → (children siblings : Forest A) → Forest A

-- no node at all, as a value: the crates above name this, and not how a forest is made
abbrev pub no_nodes : {A : Type 0} → Forest A
no_nodes = nil

-- a payload with all that lies below it; the whole tree is the place of `/`
pub record Place (A : Type 0) : Type 0 where
  pub here : A
  pub below : Forest A

-- the child of that name
unfoldable pub get : {A : Type 0} → Name → Forest A → Option (Place A)
get n nil = none
get n (node m x cs rest) = cond (same_text n m) (some (record { here = x; below = cs })) (get n rest)

unfoldable pub is_empty : {A : Type 0} → Forest A → Bool
is_empty nil = true
is_empty (node n x cs rest) = false

-- a new child at its place in the order
unfoldable pub insert : {A : Type 0} → Name → Place A → Forest A → Forest A
insert n e nil = node n e.here e.below nil
insert n e (node m y ds rest) =
    cond (precedes n m) (node n e.here e.below (node m y ds rest)) (node m y ds (insert n e rest))

unfoldable pub remove : {A : Type 0} → Name → Forest A → Forest A
remove n nil = nil
remove n (node m y ds rest) = cond (same_text n m) rest (node m y ds (remove n rest))

-- the child of that name changed by f
unfoldable pub at : {A : Type 0} → Name → (Place A → Place A) → Forest A → Forest A
at n f nil = nil
at n f (node m y ds rest) =
    let changed = f (record { here = y; below = ds }) in
    cond (same_text n m) (node m changed.here changed.below rest) (node m y ds (at n f rest))

-- the children of a place changed by g
unfoldable pub under : {A : Type 0} → (Forest A → Forest A) → Place A → Place A
under g d = record { here = d.here; below = g d.below }

-- the place at a path changed by f
unfoldable pub update : {A : Type 0} → Path → (Place A → Place A) → Place A → Place A
update root f d = f d
update (p ▹ n) f d = update p (under (at n f)) d

-- the children of the place at a path changed by g, in a forest that stands below a place
unfoldable pub update_forest : {A : Type 0} → Path → (Forest A → Forest A) → Forest A → Forest A
update_forest root g f = g f
update_forest (p ▹ n) g f = update_forest p (at n (under g)) f

-- the place at a path, if there is one
unfoldable pub place_at : {A : Type 0} → Place A → Path → Option (Place A)
place_at t root = some t
place_at t (p ▹ n) = place_at t p >>= λ d. get n d.below

-- the changes: a payload altered, a child put in, a child taken out
unfoldable pub alter : {A : Type 0} → (A → A) → Place A → Place A
alter g d = record { here = g d.here; below = d.below }

unfoldable pub put : {A : Type 0} → Name → Place A → Place A → Place A
put n e = under (insert n e)

unfoldable pub drop : {A : Type 0} → Name → Place A → Place A
drop n = under (remove n)

unfoldable pub leaf : {A : Type 0} → A → Place A
leaf x = record { here = x; below = nil }

unfoldable pub size : {A : Type 0} → Forest A → ℕ
size nil = 0
size (node n x cs rest) = suc (size cs + size rest)

unfoldable pub larger : ℕ → ℕ → ℕ
larger a b = cond (leb a b) b a

-- how many names the longest path within has
unfoldable pub height : {A : Type 0} → Forest A → ℕ
height nil = 0
height (node n x cs rest) = larger (suc (height cs)) (height rest)

unfoldable pub names : {A : Type 0} → Forest A → List Name
names nil = []
names (node n x cs rest) = n ∷ names rest

-- another payload at each node
unfoldable pub map_forest : {A B : Type 0} → (A → B) → Forest A → Forest B
map_forest g nil = nil
map_forest g (node n x cs rest) = node n (g x) (map_forest g cs) (map_forest g rest)

unfoldable pub map_place : {A B : Type 0} → (A → B) → Place A → Place B
map_place g d = record { here = g d.here; below = map_forest g d.below }

-- a place with the payload x above a forest whose payloads are mapped
unfoldable pub rooted : {A B : Type 0} → (A → B) → B → Forest A → Place B
rooted g x f = record { here = x; below = map_forest g f }

-- the place at a path has that payload
pub record Holds {A : Type 0} (t : Place A) (p : Path) (x : A) : Type 0 where
  pub place : Place A
  pub stands : place_at t p ≡ some place
  pub here : place.here ≡ x
