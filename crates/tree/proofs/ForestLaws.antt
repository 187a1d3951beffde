-- Laws of forests and trees. None asks that siblings stand in order.
--
-- In order:
--   all forests: forest-induction;
--   names, and the larger of two numbers;
--   no siblings, and the first of some: get-nil, get_first, empty-is-nil, height-node;
--   a child found: found_first, found_none;
--   a child changed: get_at, get-at-other, names_at, empty-at, at_at, size-at, height-at, at-twice, at-id, at_none;
--   a child put in: get-insert, get_insert_other, size-insert, height-insert;
--   a child taken out: get_remove_other, empty-remove, size-remove, height-remove; and height-get;
--   a map of the payloads goes through everything: get-map to at_map.
use Rattle.std.specs.Prelude.{◌≡◌, true, false, ℕ, suc, ◌+◌, ◌≤◌, leb}
use Rattle.std.proofs.Math.Path.{refl}
use Rattle.std.proofs.Common.{sym, ap, leb-true, leb-false}
use Rattle.std.proofs.Math.Option.{none, some, map}
use native.Mathlib.Omega.{arith}
use Rattle.buffers.specs.Cases.{case, contra}
use Rattle.buffers.specs.Text.{same_text, precedes}
use Rattle.buffers.specs.TextLaws.{same_text_refl, same_text_sound}
use Rattle.syntax.specs.Path.{Name}
use Rattle.tree.specs.Forest.{Forest, nil, node, Place, get, is_empty, insert, remove, at, under, alter, leaf, size, larger, height, names, map_forest, map_place}

-- ---- all forests

-- what holds of no node, and of siblings where it holds of the first one's children and of the others, holds of every forest
pub forest_induction : {A : Type 0} (P : Forest A → Type 0) → P nil
    → ((n : Name) (x : A) (cs rest : Forest A) → P cs → P rest → P (node n x cs rest)) → (F : Forest A) → P F
forest_induction P bare more nil = bare
forest_induction P bare more (node n x cs rest) = more n x cs rest (forest_induction P bare more cs) (forest_induction P bare more rest)

-- ---- names

-- names that are the same as a third are the same
same_join : (n m k : Name) → same_text n k ≡ true → same_text m k ≡ true → same_text n m ≡ true
same_join n m k i e = rw (same_text_sound n k i, same_text_sound m k e) (same_text_refl k)

-- names differ both ways round
pub differ_sym : (n m : Name) → same_text n m ≡ false → same_text m n ≡ false
differ_sym n m e = case (same_text m n) (λ t. contra (same_join n m n (same_text_refl n) t) e) (λ t. t)

-- ---- the larger of two

-- the larger is no smaller than either
pub larger_bounds : (a b : ℕ) → (a ≤ larger a b) × (b ≤ larger a b)
unfolding larger
larger_bounds a b = case (leb a b) (λ t. rw t (leb-true a b t, omega arith)) (λ t. rw t (omega arith, omega (arith, leb-false a b t)))

-- what is no smaller than both is no smaller than the larger
pub larger_least : (a b k : ℕ) → a ≤ k → b ≤ k → larger a b ≤ k
unfolding larger
larger_least a b k p q = case (leb a b) (λ t. rw t q) (λ t. rw t p)

-- ---- no siblings, and the first of some

module _ {A : Type 0} where
  -- no child is found where there is none
  pub get_nil : (n : Name) → get {A = A} n nil ≡ none
  unfolding get
  get_nil n = refl

  -- the first is found under its own name
  pub get_first : (n : Name) (x : A) (cs rest : Forest A) → get n (node n x cs rest) ≡ some (record { here = x; below = cs })
  unfolding get
  get_first n x cs rest = rw (same_text_refl n)

  -- what is empty has no sibling
  pub empty_is_nil : (F : Forest A) → is_empty F ≡ true → F ≡ nil
  unfolding is_empty
  empty_is_nil nil h = refl
  empty_is_nil (node n x cs rest) h = contra refl (sym h)

  -- a forest is higher than its first node's children, and no lower than the others
  pub height_node : (n : Name) (x : A) (cs rest : Forest A) → (suc (height cs) ≤ height (node n x cs rest)) × (height rest ≤ height (node n x cs rest))
  unfolding height
  height_node n x cs rest = larger_bounds (suc (height cs)) (height rest)

-- ---- a child found

module _ {A : Type 0} (n m : Name) (y : A) (ds rest : Forest A) where
  -- the first node is the child found if it has the name
  pub found_first : (d : Place A) → same_text n m ≡ true → get n (node m y ds rest) ≡ some d → d ≡ record { here = y; below = ds }
  unfolding get
  found_first d t e = let q : some (record { here = y; below = ds }) ≡ some d = rw t at e in cc

  -- and is passed over if it has another
  pub get_other : same_text n m ≡ false → get n (node m y ds rest) ≡ get n rest
  unfolding get
  get_other t = rw t

  -- where no child is found neither the first node nor the rest has it
  pub found_none : get n (node m y ds rest) ≡ none → (same_text n m ≡ false) × (get n rest ≡ none)
  unfolding get
  found_none e = case (same_text n m)
      (λ t. contra {b = true} refl (let q : some (record { here = y; below = ds }) ≡ none = rw t at e in cc))
      (λ t. (t, rw t at e))

-- ---- a child changed

-- a change where there is no child changes nothing
pub at_none : {A : Type 0} (n : Name) (f : Place A → Place A) (F : Forest A) → get n F ≡ none → at n f F ≡ F
unfolding at
at_none n f nil e = refl
at_none n f (node k y ds rest) e = let i = found_none n k y ds rest e in rw i.0 (rw (at_none n f rest i.1))

module _ {A : Type 0} (m : Name) (f : Place A → Place A) where
  -- the child changed is found changed
  pub get_at : (F : Forest A) (d : Place A) → get m F ≡ some d → get m (at m f F) ≡ some (f d)
  unfolding get at
  get_at nil d e = cc
  get_at (node k y ds rest) d e = case (same_text m k)
      (λ t. rw (t, found_first m k y ds rest d t e) (rw t))
      (λ t. rw t (rw t (get_at rest d (rw t at e))))

  -- and a child of another name as it was
  pub get_at_other : (n : Name) (F : Forest A) → same_text n m ≡ false → get n (at m f F) ≡ get n F
  unfolding get at
  get_at_other n nil t = refl
  get_at_other n (node k y ds rest) t = case (same_text m k)
      (λ e. case (same_text n k) (λ i. contra (same_join n m k i e) t) (λ i. rw e (rw i)))
      (λ e. rw e (rw (get_at_other n rest t)))

  -- the names stay
  pub names_at : (F : Forest A) → names (at m f F) ≡ names F
  unfolding names at
  names_at nil = refl
  names_at (node k y ds rest) = case (same_text m k) (λ e. rw e) (λ e. rw e (rw (names_at rest)))

  -- a forest stays empty or not
  pub empty_at : (F : Forest A) → is_empty (at m f F) ≡ is_empty F
  unfolding is_empty at
  empty_at nil = refl
  empty_at (node k y ds rest) = case (same_text m k) (λ e. rw e) (λ e. rw e)

  -- changes of children of different names commute
  pub at_at : (n : Name) (g : Place A → Place A) → same_text n m ≡ false → (F : Forest A) → at n g (at m f F) ≡ at m f (at n g F)
  unfolding at
  at_at n g t nil = refl
  at_at n g t (node k y ds rest) = case (same_text m k)
      (λ e. case (same_text n k) (λ i. contra (same_join n m k i e) t) (λ i. rw (e, i) (rw e)))
      (λ e. case (same_text n k) (λ i. rw (e, i) (rw e)) (λ i. rw (e, i) (rw (e, at_at n g t rest))))

  -- the size changes as the child's does
  pub size_at : (F : Forest A) (d : Place A) → get m F ≡ some d → size (at m f F) + size d.below ≡ size F + size (f d).below
  unfolding size at get
  size_at nil d e = contra {b = true} refl (cc)
  size_at (node k y ds rest) d e = case (same_text m k)
      (λ t. rw (found_first m k y ds rest d t e) (rw t (omega arith)))
      (λ t. let i = size_at rest d (rw t at e) in rw t (omega arith))

  -- the height is bounded as before if the changed child's is
  pub height_at : (k : ℕ) (F : Forest A) → height F ≤ k → ((d : Place A) → get m F ≡ some d → suc (height (f d).below) ≤ k) → height (at m f F) ≤ k
  unfolding height at get
  height_at k nil b h = b
  height_at k (node j y ds rest) b h =
      let w = larger_bounds (suc (height ds)) (height rest) in
      case (same_text m j)
      (λ t. rw t (larger_least _ _ k (h (record { here = y; below = ds }) (rw t refl)) (omega arith)))
      (λ t. rw t (larger_least _ _ k (omega arith) (height_at k rest (omega arith) (λ d e. h d (rw t e)))))

-- two changes of one child are one
pub at_twice : {A : Type 0} (n : Name) (f g : Place A → Place A) (F : Forest A) → at n f (at n g F) ≡ at n (λ d. f (g d)) F
unfolding at
at_twice n f g nil = refl
at_twice n f g (node k y ds rest) = case (same_text n k) (λ e. rw e (rw e)) (λ e. rw e (rw (e, at_twice n f g rest)))

-- a change that leaves the child as it was leaves the forest
pub at_id : {A : Type 0} (n : Name) (f : Place A → Place A) (d : Place A) → f d ≡ d → (F : Forest A) → get n F ≡ some d → at n f F ≡ F
unfolding at get
at_id n f d e nil l = refl
at_id n f d e (node k y ds rest) l = case (same_text n k)
    (λ t. rw t (ap (λ c. node k c.here c.below rest) (rw (found_first n k y ds rest d t l) at e)))
    (λ t. rw t (rw (at_id n f d e rest (rw t at l))))

-- ---- a child put in

module _ {A : Type 0} (n : Name) (e : Place A) where
  -- a new child is found
  pub get_insert : (F : Forest A) → get n F ≡ none → get n (insert n e F) ≡ some e
  unfolding get insert
  get_insert nil a = rw (same_text_refl n)
  get_insert (node k y ds rest) a = case (precedes n k)
      (λ i. rw i (rw (same_text_refl n)))
      (λ i. let t = found_none n k y ds rest a in rw i (rw t.0 (get_insert rest t.1)))

  -- a child of another name is found as before
  pub get_insert_other : (m : Name) → same_text m n ≡ false → (F : Forest A) → get m (insert n e F) ≡ get m F
  unfolding get insert
  get_insert_other m t nil = rw t
  get_insert_other m t (node k y ds rest) = case (precedes n k) (λ i. rw i (rw t)) (λ i. rw i (rw (get_insert_other m t rest)))

  -- the child and all below it are counted
  pub size_insert : (F : Forest A) → size (insert n e F) ≡ size F + suc (size e.below)
  unfolding size insert
  size_insert nil = omega arith
  size_insert (node k y ds rest) = case (precedes n k) (λ t. rw t (omega arith)) (λ t. rw t (omega (arith, size_insert rest)))

  -- the height is bounded by what bounds the forest and the child
  pub height_insert : (k : ℕ) (F : Forest A) → height F ≤ k → suc (height e.below) ≤ k → height (insert n e F) ≤ k
  unfolding height insert
  height_insert k nil b h = larger_least _ _ k h b
  height_insert k (node j y ds rest) b h =
      let w = larger_bounds (suc (height ds)) (height rest) in
      case (precedes n j)
      (λ t. rw t (larger_least _ _ k h b))
      (λ t. rw t (larger_least _ _ k (omega arith) (height_insert k rest (omega arith) h)))

-- ---- a child taken out

module _ {A : Type 0} (n : Name) where
  -- a child of another name is found as before
  pub get_remove_other : (m : Name) → same_text m n ≡ false → (F : Forest A) → get m (remove n F) ≡ get m F
  unfolding get remove
  get_remove_other m t nil = refl
  get_remove_other m t (node k y ds rest) = case (same_text n k)
      (λ i. case (same_text m k) (λ s. contra (same_join m n k s i) t) (λ s. rw (i, s)))
      (λ i. rw i (rw (get_remove_other m t rest)))

  -- an empty forest stays empty
  pub empty_remove : (F : Forest A) → is_empty F ≡ true → is_empty (remove n F) ≡ true
  unfolding is_empty remove
  empty_remove nil e = refl
  empty_remove (node k y ds rest) e = contra {b = true} refl (sym e)

  -- the child and all below it are no longer counted
  pub size_remove : (F : Forest A) (d : Place A) → get n F ≡ some d → size (remove n F) + suc (size d.below) ≡ size F
  unfolding size remove get
  size_remove nil d e = contra {b = true} refl (cc)
  size_remove (node k y ds rest) d e = case (same_text n k)
      (λ t. rw (found_first n k y ds rest d t e) (rw t (omega arith)))
      (λ t. let i = size_remove rest d (rw t at e) in rw t (omega arith))

  -- the height does not grow
  pub height_remove : (F : Forest A) → height (remove n F) ≤ height F
  unfolding height remove
  height_remove nil = omega arith
  height_remove (node k y ds rest) =
      let w = larger_bounds (suc (height ds)) (height rest) in
      case (same_text n k)
      (λ t. rw t w.1)
      (λ t. rw t (larger_least _ _ _ w.0 (omega (arith, height_remove rest))))

  -- a child lies lower than the forest is high
  pub height_get : (F : Forest A) (d : Place A) → get n F ≡ some d → suc (height d.below) ≤ height F
  unfolding height get
  height_get nil d e = contra {b = true} refl (cc)
  height_get (node k y ds rest) d e =
      let w = larger_bounds (suc (height ds)) (height rest) in
      case (same_text n k)
      (λ t. rw (found_first n k y ds rest d t e) w.0)
      (λ t. let i = height_get rest d (rw t at e) in omega arith)

-- ---- a map of the payloads

module _ {A B : Type 0} (g : A → B) where
  -- the children are those mapped
  pub get_map : (n : Name) (F : Forest A) → get n (map_forest g F) ≡ map (map_place g) (get n F)
  unfolding get map_forest map_place
  get_map n nil = refl
  get_map n (node k y ds rest) = case (same_text n k) (λ t. rw t) (λ t. rw t (get_map n rest))

  -- a forest stays empty or not
  pub empty_map : (F : Forest A) → is_empty (map_forest g F) ≡ is_empty F
  unfolding is_empty map_forest
  empty_map nil = refl
  empty_map (node k y ds rest) = refl

  -- the size stays
  pub size_map : (F : Forest A) → size (map_forest g F) ≡ size F
  unfolding size map_forest
  size_map nil = refl
  size_map (node k y ds rest) = rw (size_map ds, size_map rest)

  -- through putting a child in
  pub insert_map : (n : Name) (d : Place A) (F : Forest A) → insert n (map_place g d) (map_forest g F) ≡ map_forest g (insert n d F)
  unfolding insert map_forest map_place
  insert_map n d nil = refl
  insert_map n d (node k y ds rest) = case (precedes n k) (λ e. rw e) (λ e. rw e (rw (insert_map n d rest)))

  -- through taking a child out
  pub remove_map : (n : Name) (F : Forest A) → remove n (map_forest g F) ≡ map_forest g (remove n F)
  unfolding remove map_forest
  remove_map n nil = refl
  remove_map n (node k y ds rest) = case (same_text n k) (λ e. rw e) (λ e. rw e (rw (remove_map n rest)))

  -- through a change of the children
  pub under_map : (f : Forest B → Forest B) (k : Forest A → Forest A) → ((F : Forest A) → f (map_forest g F) ≡ map_forest g (k F))
      → (d : Place A) → under f (map_place g d) ≡ map_place g (under k d)
  unfolding under map_place
  under_map f k e d = rw (e d.below)

  -- through a change of the payload
  pub alter_map : (f : B → B) (k : A → A) → ((x : A) → f (g x) ≡ g (k x)) → (d : Place A) → alter f (map_place g d) ≡ map_place g (alter k d)
  unfolding alter map_place
  alter_map f k e d = rw (e d.here)

  -- of a leaf
  pub leaf_map : (x : A) → leaf (g x) ≡ map_place g (leaf x)
  unfolding leaf map_place map_forest
  leaf_map x = refl

  -- through the change f of a child that is k's image
  pub at_map : (f : Place B → Place B) (k : Place A → Place A) → ((d : Place A) → f (map_place g d) ≡ map_place g (k d))
      → (n : Name) (F : Forest A) → at n f (map_forest g F) ≡ map_forest g (at n k F)
  unfolding at map_forest map_place
  at_map f k e n nil = refl
  at_map f k e n (node m y ds rest) = case (same_text n m)
      (λ t. rw (t, e (record { here = y; below = ds })))
      (λ t. rw t (rw (at_map f k e n rest)))
