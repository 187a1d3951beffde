-- The place at a path, and what a change there comes to: a tree without that place stays as it was, and otherwise its size and
-- height follow those of the place.
use Rattle.std.specs.Prelude.{◌≡◌, false, ℕ, ◌+◌, ◌-◌, ◌≤◌}
use Rattle.std.proofs.Math.Path.{refl}
use Rattle.std.proofs.Common.{sym, ◌∙◌, ap}
use Rattle.std.proofs.Math.Option.{Option, none, some}
use native.Mathlib.Omega.{arith}
use Rattle.buffers.specs.Cases.{contra}
use Rattle.syntax.specs.Path.{Name, Path, root, ◌▹◌, parent, last, depth, is_top}
use Rattle.syntax.specs.Form.{◌>>=◌}
use Rattle.syntax.proofs.FormLaws.{no_answer, answered}
use Rattle.tree.specs.Result.{done}
use Rattle.tree.specs.Forest.{Place, get, at, under, update, place_at, leaf, size, height}
use Rattle.tree.proofs.ForestLaws.{at_none, at_id, size_at, height_at, height_get}
use Rattle.tree.specs.Walk.{Judge, walk}
use Rattle.tree.proofs.StepLaws.{walked}

-- ---- the place at a path

-- by whether there is something
pub by_option : {A P : Type 0} (o : Option A) → (o ≡ none → P) → ((a : A) → o ≡ some a → P) → P
by_option none f g = f refl
by_option (some a) f g = g a refl

module _ {A : Type 0} (t : Place A) where
  -- the top is at the empty path
  pub place_at_root : place_at t root ≡ some t
  unfolding place_at ◌>>=◌
  place_at_root = refl

  -- a child is at the path with its name
  pub place_at_child : (p : Path) (n : Name) (d : Place A) → place_at t p ≡ some d → place_at t (p ▹ n) ≡ get n d.below
  unfolding place_at ◌>>=◌
  place_at_child p n d e = rw e

  -- so what stands below the top is the child of its last name in its parent
  pub place_at_last : (p : Path) (d : Place A) → is_top p ≡ false → place_at t (parent p) ≡ some d → place_at t p ≡ get (last p) d.below
  unfolding is_top parent last
  place_at_last root d below e = contra refl below
  place_at_last (p ▹ n) d below e = place_at_child p n d e

  -- and what is there is a child
  pub place_at_parent : (p : Path) (n : Name) (d : Place A) → place_at t (p ▹ n) ≡ some d → (c : Place A) × (place_at t p ≡ some c) × (get n c.below ≡ some d)
  unfolding place_at ◌>>=◌
  place_at_parent p n d e = by_option (place_at t p)
      (λ a. let i : none ≡ some d = rw a at e in no_answer i)
      (λ c a. (c, a, rw a at e))

  -- a walk leads to the place at its path
  pub walked_at : (j : Judge A) (p : Path) (d : Place A) → walk j t p ≡ done d → place_at t p ≡ some d
  unfolding walk place_at ◌>>=◌
  walked_at j root d e = cc
  walked_at j (p ▹ n) d e = let i = walked j t p n e in place_at_child p n i.0 (walked_at j p i.0 i.1) ∙ i.3

  -- the paths below a place are within the tree
  pub height_below : (p : Path) (d : Place A) → place_at t p ≡ some d → depth p + height d.below ≤ height t.below
  unfolding place_at depth ◌>>=◌
  height_below root d e = rw (answered e) (omega arith)
  height_below (p ▹ n) d e =
      let i = place_at_parent p n d e in
      omega (arith, height_below p i.0 i.1, height_get n i.0.below d i.2)

-- ---- changes

module _ {A : Type 0} (t : Place A) where
  -- a place changed to itself leaves the tree as it was
  pub update_same : (p : Path) (f : Place A → Place A) (d : Place A) → place_at t p ≡ some d → f d ≡ d → update p f t ≡ t
  unfolding update under place_at ◌>>=◌
  update_same root f d e h = rw (answered e) at h
  update_same (p ▹ n) f d e h =
      let i = place_at_parent t p n d e in
      update_same p (under (at n f)) i.0 i.1 (ap (λ F. record { here = i.0.here; below = F }) (at_id n f d h i.0.below i.2))

  -- and so does a change where there is no place
  pub update_none : (p : Path) (f : Place A → Place A) → place_at t p ≡ none → update p f t ≡ t
  unfolding update under
  update_none root f e = no_answer (sym e ∙ place_at_root t)
  update_none (p ▹ n) f e = by_option (place_at t p)
      (λ a. update_none p (under (at n f)) a)
      (λ c a. update_same p (under (at n f)) c a
      (ap (λ F. record { here = c.here; below = F }) (at_none n f c.below (sym (place_at_child t p n c a) ∙ e))))

  -- what a change keeps of the payload stays at the top
  pub here_update : {B : Type 0} (k : A → B) (p : Path) (f : Place A → Place A) (d : Place A) → place_at t p ≡ some d
      → k (f d).here ≡ k d.here → k (update p f t).here ≡ k t.here
  unfolding update under place_at ◌>>=◌
  here_update k root f d e h = rw (answered e) at h
  here_update k (p ▹ n) f d e h = let i = place_at_parent t p n d e in here_update k p (under (at n f)) i.0 i.1 refl

  -- the size changes as the place's does
  pub size_update : (p : Path) (f : Place A → Place A) (d : Place A) → place_at t p ≡ some d
      → size (update p f t).below + size d.below ≡ size t.below + size (f d).below
  unfolding update under place_at ◌>>=◌
  size_update root f d e = rw (answered e) (omega arith)
  size_update (p ▹ n) f d e =
      let i = place_at_parent t p n d e in
      omega (arith, size_update p (under (at n f)) i.0 i.1, size_at n f i.0.below d i.2)

  -- the height is bounded as before if the paths through the changed place are
  pub height_update : (k : ℕ) (p : Path) (f : Place A → Place A) (d : Place A) → place_at t p ≡ some d
      → height t.below ≤ k → depth p + height (f d).below ≤ k → height (update p f t).below ≤ k
  unfolding update under place_at depth ◌>>=◌
  height_update k root f d e b h = let i = rw (answered e) at h in omega arith
  height_update k (p ▹ n) f d e b h =
      let i = place_at_parent t p n d e in
      height_update k p (under (at n f)) i.0 i.1 b
      (let w = height_at n f (k - depth p) i.0.below (omega (arith, height_below t p i.0 i.1))
      (λ c g. rw (answered (sym i.2 ∙ g)) (omega arith)) in
      omega arith)

-- a leaf has no path below it
pub leaf_height : {A : Type 0} (x : A) → height (leaf x).below ≡ 0
unfolding leaf height
leaf_height x = refl
