-- Sizes by their parts, and the sizes and names of well-formed places.
use Rattle.std.specs.Prelude.{◌≡◌, true, suc, ◌+◌, ◌≤◌, length}
use Rattle.std.proofs.Math.Path.{refl}
use Rattle.std.proofs.Math.Option.{some}
use native.Mathlib.Omega.{arith}
use Rattle.buffers.specs.Text.{every}
use Rattle.syntax.specs.Path.{Name, Path, is_name}
use Rattle.tree.specs.Forest.{Forest, nil, node, Place, under, place_at, size, names}
use Rattle.tree.specs.Node.{Node}
use Rattle.tree.specs.WellFormed.{nodes, is_forest, is_place, is_tree}
use Rattle.tree.proofs.UpdateLaws.{size_update}
use Rattle.tree.proofs.WellFormedLaws.{forest_parts, tree_parts, place_below}

-- no siblings have no size
pub size_nil : (A : Type 0) → size {A = A} nil ≡ 0
unfolding size
size_nil A = refl

module _ {A : Type 0} where
  -- siblings are counted with all below them
  pub size_node : (n : Name) (x : A) (cs rest : Forest A) → size (node n x cs rest) ≡ suc (size cs + size rest)
  unfolding size
  size_node n x cs rest = refl

  -- there are no more names than nodes
  pub names_few : (F : Forest A) → length (names F) ≤ size F
  unfolding names size
  names_few nil = omega arith
  names_few (node n x cs rest) = omega (arith, names_few rest)

  -- a place has no more below it than the tree has
  size_below : (t : Place A) (p : Path) (d : Place A) → place_at t p ≡ some d → size d.below ≤ size t.below
  unfolding under size
  size_below t p d e = omega (arith, size_update t p (under (λ F. nil)) d e)

-- the names of well-formed siblings are names
pub names_are_names : (F : Forest Node) → is_forest F ≡ true → every is_name (names F) ≡ true
unfolding names every
names_are_names nil h = refl
names_are_names (node n x cs rest) h =
    let v = forest_parts n (record { here = x; below = cs }) rest h in
    rw v.name (names_are_names rest v.others)

-- a place of a well-formed tree is well-formed and has at most 255 nodes below it
pub tree_place : (t : Place Node) (p : Path) (d : Place Node) → is_tree t ≡ true → place_at t p ≡ some d → (is_place d ≡ true) × (size d.below ≤ 255)
unfolding nodes
tree_place t p d h e =
    let v = tree_parts t h in
    (place_below t p d v.whole e, omega (arith, size_below t p d e, v.few))
