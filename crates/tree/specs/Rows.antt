-- A tree as rows in preorder: each node with its depth and name, `/` first, at depth 0, with no name.
--
-- `rows` lists them; `tree_of` reads a tree off any rows, if they form one tree.
use Rattle.std.specs.Prelude.{List, [], ◌∷◌, ◌++◌, cond, ℕ, suc, eqb}
use Rattle.std.proofs.Math.Option.{Option, none, some}
use Rattle.syntax.specs.Path.{Name}
use Rattle.tree.specs.Forest.{Forest, nil, node, Place}

pub record Row (A : Type 0) : Type 0 where
  pub depth : ℕ
  pub name : Name
  pub here : A

unfoldable pub flatten : {A : Type 0} → ℕ → Forest A → List (Row A)
flatten k nil = []
flatten k (node n x cs rest) = record { depth = k; name = n; here = x } ∷ (flatten (suc k) cs ++ flatten k rest)

unfoldable pub rows : {A : Type 0} → Place A → List (Row A)
rows t = record { depth = 0; name = []; here = t.here } ∷ flatten 1 t.below

-- a subtree that has no parent yet among the rows read, which are read from the last to the first
pub record Subtree (A : Type 0) : Type 0 where
  pub depth : ℕ
  pub name : Name
  pub place : Place A

-- the subtrees in front that stand at a depth, as siblings, and the others
unfoldable pub siblings : {A : Type 0} → ℕ → List (Subtree A) → Forest A
siblings k [] = nil
siblings k (s ∷ ss) = cond (eqb s.depth k) (node s.name s.place.here s.place.below (siblings k ss)) nil

unfoldable pub others : {A : Type 0} → ℕ → List (Subtree A) → List (Subtree A)
others k [] = []
others k (s ∷ ss) = cond (eqb s.depth k) (others k ss) (s ∷ ss)

-- a row takes the subtrees that follow it one level down for its children
unfoldable pub subtrees : {A : Type 0} → List (Row A) → List (Subtree A)
subtrees [] = []
subtrees (r ∷ rs) =
    let after = subtrees rs in
    record { depth = r.depth; name = r.name; place = record { here = r.here; below = siblings (suc r.depth) after } } ∷ others (suc r.depth) after

-- the one subtree that is left
unfoldable pub only : {A : Type 0} → List (Subtree A) → Option (Place A)
only [] = none
only (s ∷ []) = some s.place
only (s ∷ (t ∷ ss)) = none

unfoldable pub tree_of : {A : Type 0} → List (Row A) → Option (Place A)
tree_of rs = only (subtrees rs)
