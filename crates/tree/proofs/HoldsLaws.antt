-- The payload at a path after a change there, at another or at one further down; where no place is after a change; and the
-- places of a mapped and of a grafted tree.
use Rattle.std.specs.Prelude.{◌≡◌, true, false}
use Rattle.std.proofs.Math.Path.{refl, ap}
use Rattle.std.proofs.Common.{◌∙◌}
use Rattle.std.proofs.Math.Option.{Option, none, some, map}
use Rattle.buffers.specs.Cases.{case, contra}
use Rattle.syntax.specs.Path.{Name, Path, root, ◌▹◌, same_path, within, rep, in_rep}
use Rattle.syntax.proofs.WithinLaws.{Lies, itself, deeper, same_path_refl, lies}
use Rattle.syntax.specs.Form.{◌>>=◌}
use Rattle.tree.specs.Forest.{Place, get, is_empty, at, under, update, place_at, alter, put, drop, leaf, map_place, Holds}
use Rattle.tree.proofs.ForestLaws.{get_map}
use Rattle.tree.specs.Node.{Node}
use Rattle.tree.specs.WellFormed.{is_tree}
use Rattle.tree.proofs.UpdateLaws.{by_option}
use Rattle.tree.proofs.OtherPathLaws.{alone_at, changed_at, alter_keeps, put_keeps, put_stands, drop_empty_keeps, none_below, put_none, drop_none, drop_gone}
use Rattle.tree.specs.Graft.{graft, Outside, first, further}
use Rattle.tree.proofs.GraftLaws.{get_graft, get_graft_other}

-- nothing stands below a place without children
only_there : {A : Type 0} (t : Place A) {a : Path} (e : Place A) → place_at t a ≡ some e → is_empty e.below ≡ true
    → {p : Path} → Lies a p → (d : Place A) → place_at t p ≡ some d → same_path p a ≡ true
only_there t e there alone {p} l d h = rw (alone_at t l e there alone d h) (same_path_refl p)

-- ---- a payload after a change

module _ {A : Type 0} {t : Place A} {x : A} where
  -- a change there or further down, if one there leaves the payload
  holds_above : {p q : Path} → Lies p q → (f : Place A → Place A) → (p ≡ q → (e : Place A) → (f e).here ≡ e.here) → Holds t p x → Holds (update q f t) p x
  unfolding update under
  holds_above {p} itself f leaves k = record {
    place = f k.place;
    stands = changed_at t p f k.place k.stands;
    here = leaves refl k.place ∙ k.here;
  }
  holds_above (deeper {n = n} l) f leaves k = holds_above l (under (at n f)) (λ _ e. refl) k

  -- a payload altered
  pub holds_altered : (p : Path) → Holds t p x → (g : A → A) → Holds (update p (alter g) t) p (g x)
  unfolding alter
  holds_altered p k g = record { place = alter g k.place; stands = changed_at t p (alter g) k.place k.stands; here = ap g k.here }

  module _ (p q : Path) (k : Holds t p x) where
    -- a payload stays where another is altered
    pub holds_alter : (g : A → A) → same_path p q ≡ false → Holds (update q (alter g) t) p x
    holds_alter g other = case (within p q)
        (λ i. holds_above (lies p q i) (alter g) (λ s. contra (rw s (same_path_refl q)) other) k)
        (λ i. record { place = k.place; stands = alter_keeps t p k.place q g k.stands i; here = k.here })

    -- it stays where a child is put in
    pub holds_put : (n : Name) (e : Place A) → place_at t (q ▹ n) ≡ none → Holds (update q (put n e) t) p x
    unfolding put under
    holds_put n e free = case (within p q)
        (λ i. holds_above (lies p q i) (put n e) (λ _ d. refl) k)
        (λ i. record { place = k.place; stands = put_keeps t p k.place q n e k.stands i free; here = k.here })

    -- and where another child is taken out that has none itself
    pub holds_drop : (n : Name) (e : Place A) → place_at t (q ▹ n) ≡ some e → is_empty e.below ≡ true → same_path p (q ▹ n) ≡ false → Holds (update q (drop n) t) p x
    unfolding drop under
    holds_drop n e there alone other = case (within p q)
        (λ i. holds_above (lies p q i) (drop n) (λ _ d. refl) k)
        (λ i. record { place = k.place; stands = drop_empty_keeps t p k.place q n e k.stands i there alone other; here = k.here })

-- ---- no place after a change

module _ {A : Type 0} (t : Place A) where
  -- a leaf put in makes no place but its own
  pub put_leaf_none : (p q : Path) (n : Name) (x : A) (d : Place A) → place_at t q ≡ some d → place_at t (q ▹ n) ≡ none → same_path p (q ▹ n) ≡ false
      → place_at t p ≡ none → place_at (update q (put n (leaf x)) t) p ≡ none
  unfolding leaf is_empty
  put_leaf_none p q n x d there free other e = case (within (q ▹ n) p)
      (λ i. by_option (place_at (update q (put n (leaf x)) t) p)
      (λ z. z)
      (λ c z. contra (only_there (update q (put n (leaf x)) t) (leaf x) (put_stands t q d n (leaf x) there free) refl (lies (q ▹ n) p i) c z) other))
      (λ i. put_none t p q n (leaf x) i e)

module _ (t : Place Node) (whole : is_tree t ≡ true) where
  -- in a well-formed tree nothing stands after a child was taken out where nothing stood before
  pub drop_still_none : (p q : Path) (n : Name) → place_at t p ≡ none → place_at (update q (drop n) t) p ≡ none
  drop_still_none p q n e = case (within (q ▹ n) p)
      (λ i. none_below (update q (drop n) t) (lies (q ▹ n) p i) (drop_gone t whole q n))
      (λ i. drop_none t p q n i e)

-- ---- maps and grafts

module _ {A B : Type 0} (g : A → B) where
  child_map : (n : Name) (o : Option (Place A)) → (map (map_place g) o >>= λ d. get n d.below) ≡ map (map_place g) (o >>= λ d. get n d.below)
  unfolding map_place ◌>>=◌
  child_map n none = refl
  child_map n (some d) = get_map g n d.below

  -- the place at a path of a mapped tree is the mapped one
  pub place_map : (t : Place A) (p : Path) → place_at (map_place g t) p ≡ map (map_place g) (place_at t p)
  unfolding place_at
  place_map t root = refl
  place_map t (p ▹ n) = rw (place_map t p) (child_map n (place_at t p))

-- the place at a path below `/rep` is that in what was grafted
pub place_inside : {A : Type 0} (e : Place A) {f : Place A} (t : Place A) → get rep t.below ≡ some f → (p : Path) → place_at (graft e t) (in_rep p) ≡ place_at e p
unfolding place_at in_rep ◌>>=◌
place_inside e t there root = get_graft e t there
place_inside e t there (p ▹ n) = rw (place_inside e t there p)

-- and that at a path outside `/rep` is that in the tree itself
pub place_outside : {A : Type 0} {p : Path} → Outside p → (e t : Place A) → place_at (graft e t) p ≡ place_at t p
unfolding place_at ◌>>=◌
place_outside (first {n = n} s) e t = get_graft_other e t n s
place_outside (further o) e t = rw (place_outside o e t)
