-- Laws of a forest below a payload of its own: what stands there, and that a change of the forest is the change of the place.
use Rattle.std.specs.Prelude.{◌≡◌}
use Rattle.std.proofs.Math.Path.{refl}
use Rattle.syntax.specs.Path.{Name, Path, root, ◌▹◌}
use Rattle.tree.specs.Forest.{Forest, Place, insert, remove, at, under, update, update_forest, alter, put, drop, size, map_forest, map_place, rooted}
use Rattle.tree.proofs.ForestLaws.{size_map, insert_map, remove_map, under_map, at_map, alter_map}
use Rattle.tree.proofs.MapLaws.{map_map}

-- the whole forest changed
pub update_forest_root : {A : Type 0} (g : Forest A → Forest A) (F : Forest A) → update_forest root g F ≡ g F
unfolding update_forest
update_forest_root g F = refl

module _ {A B : Type 0} (g : A → B) (x : B) where
  -- the payload above
  pub rooted_here : (F : Forest A) → (rooted g x F).here ≡ x
  unfolding rooted
  rooted_here F = refl

  -- the forest below
  pub rooted_below : (F : Forest A) → (rooted g x F).below ≡ map_forest g F
  unfolding rooted
  rooted_below F = refl

  -- it has as many nodes
  pub rooted_size : (F : Forest A) → size (rooted g x F).below ≡ size F
  unfolding rooted
  rooted_size F = size_map g F

  -- a change of the children at a path
  rooted_update : (f : Forest B → Forest B) (k : Forest A → Forest A) → ((F : Forest A) → f (map_forest g F) ≡ map_forest g (k F))
      → (p : Path) (F : Forest A) → update p (under f) (rooted g x F) ≡ rooted g x (update_forest p k F)
  unfolding update update_forest rooted under
  rooted_update f k e root F = rw (e F)
  rooted_update f k e (p ▹ n) F = rooted_update (at n (under f)) (at n (under k)) (at_map g (under f) (under k) (under_map g f k e) n) p F

  -- a child put in at a path
  pub rooted_put : (p : Path) (n : Name) (e : Place A) (F : Forest A) → update p (put n (map_place g e)) (rooted g x F) ≡ rooted g x (update_forest p (insert n e) F)
  unfolding put
  rooted_put p n e F = rooted_update (insert n (map_place g e)) (insert n e) (insert_map g n e) p F

  -- a child taken out at a path
  pub rooted_drop : (p : Path) (n : Name) (F : Forest A) → update p (drop n) (rooted g x F) ≡ rooted g x (update_forest p (remove n) F)
  unfolding drop
  rooted_drop p n F = rooted_update (remove n) (remove n) (remove_map g n) p F

  -- the payload of a child altered
  pub rooted_alter : (f : B → B) (k : A → A) → ((a : A) → f (g a) ≡ g (k a)) → (p : Path) (n : Name) (F : Forest A)
      → update (p ▹ n) (alter f) (rooted g x F) ≡ rooted g x (update_forest p (at n (alter k)) F)
  unfolding update
  rooted_alter f k e p n F = rooted_update (at n (alter f)) (at n (alter k)) (at_map g (alter f) (alter k) (alter_map g f k e) n) p F

-- ---- another map of the payloads

-- a rooted forest maps with its payload above
pub rooted_map : {A B C : Type 0} (h : B → C) (g : A → B) (x : B) (F : Forest A) → map_place h (rooted g x F) ≡ rooted (λ a. h (g a)) (h x) F
unfolding map_place rooted
rooted_map h g x F = rw (map_map g h F)

-- a mapped forest is rooted by both maps
pub rooted_of_map : {A B C : Type 0} (h : B → C) (g : A → B) (x : C) (F : Forest A) → rooted h x (map_forest g F) ≡ rooted (λ a. h (g a)) x F
unfolding rooted
rooted_of_map h g x F = rw (map_map g h F)
