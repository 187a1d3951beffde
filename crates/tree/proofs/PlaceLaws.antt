-- What a leaf holds, what a child put in leaves and changes, and a change at `/`.
use Rattle.std.specs.Prelude.{◌≡◌, true, suc}
use Rattle.std.proofs.Math.Path.{refl}
use Rattle.syntax.specs.Path.{Name, root}
use Rattle.tree.specs.Forest.{Forest, nil, Place, is_empty, insert, under, update, put, leaf, size, height}
use Rattle.tree.proofs.ForestLaws.{empty_is_nil}
use Rattle.tree.specs.WellFormed.{nodes}

module _ {A : Type 0} where
  -- a leaf's payload
  pub leaf_here : (x : A) → (leaf x).here ≡ x
  unfolding leaf
  leaf_here x = refl

  -- a leaf has nothing below
  pub leaf_below : (x : A) → (leaf x).below ≡ nil
  unfolding leaf
  leaf_below x = refl

  -- nor is there anything to count
  pub leaf_size : (x : A) → size (leaf x).below ≡ 0
  unfolding leaf size
  leaf_size x = refl

  -- nor where nothing lies
  pub empty_size : (F : Forest A) → is_empty F ≡ true → size F ≡ 0
  unfolding size
  empty_size F e = rw (empty_is_nil F e)

  -- and no path leads further
  pub empty_height : (F : Forest A) → is_empty F ≡ true → height F ≡ 0
  unfolding height
  empty_height F e = rw (empty_is_nil F e)

  -- the nodes of a tree are `/` and those below
  pub nodes_below : (d : Place A) → nodes d ≡ suc (size d.below)
  unfolding nodes
  nodes_below d = refl

  -- a child put in leaves the payload
  pub put_here : (n : Name) (e d : Place A) → (put n e d).here ≡ d.here
  unfolding put under
  put_here n e d = refl

  -- and is among the children
  pub put_below : (n : Name) (e d : Place A) → (put n e d).below ≡ insert n e d.below
  unfolding put under
  put_below n e d = refl

  -- a change at `/` is the change
  pub update_root : (f : Place A → Place A) (d : Place A) → update root f d ≡ f d
  unfolding update
  update_root f d = refl
