-- A map of the payloads goes through places and, where the judges of both sides agree, through walks.
use Rattle.std.specs.Prelude.{◌≡◌}
use Rattle.std.proofs.Math.Path.{refl}
use Rattle.std.proofs.Math.Option.{Option, none, some, map}
use Rattle.syntax.specs.Path.{Name, Path, root, ◌▹◌, parent}
use Rattle.tree.specs.declared.Cause.TheVariants.{Missing, Exists}
use Rattle.tree.specs.Result.{present, absent}
use Rattle.tree.specs.Outcomes.{Agree, refusal, both}
use Rattle.tree.proofs.AgreeLaws.{bind, guard}
use Rattle.tree.specs.Forest.{Forest, nil, node, Place, get, map_forest, map_place}
use Rattle.tree.proofs.ForestLaws.{get_map}
use Rattle.tree.specs.Walk.{Judge, look, unused, enter, walk, parent_walk}

module _ {A B : Type 0} (g : A → B) where
  -- ---- forests and places

  -- nothing maps to nothing
  pub map_nil : map_forest g nil ≡ nil
  unfolding map_forest
  map_nil = refl

  -- a node maps with its children and siblings
  pub map_node : (n : Name) (x : A) (cs rest : Forest A) → map_forest g (node n x cs rest) ≡ node n (g x) (map_forest g cs) (map_forest g rest)
  unfolding map_forest
  map_node n x cs rest = refl

  -- the payload is mapped
  pub map_here : (d : Place A) → (map_place g d).here ≡ g d.here
  unfolding map_place
  map_here d = refl

  -- and so are the children
  pub map_below : (d : Place A) → (map_place g d).below ≡ map_forest g d.below
  unfolding map_place
  map_below d = refl

  -- two maps are one by both
  pub map_map : {C : Type 0} (h : B → C) (F : Forest A) → map_forest h (map_forest g F) ≡ map_forest (λ a. h (g a)) F
  unfolding map_forest
  map_map h nil = refl
  map_map h (node n a cs rest) = rw (map_map h cs, map_map h rest)

  -- ---- searches

  absent_map : (c : Option (Place A)) → absent (map (map_place g) c) Exists ≡ absent c Exists
  unfolding absent
  absent_map none = refl
  absent_map (some d) = refl

  -- a name stays unused or not
  pub unused_map : (n : Name) (F : Forest A) → unused n (map_forest g F) ≡ unused n F
  unfolding unused
  unused_map n F = rw (get_map g n F) (absent_map (get n F))

  present_map : (c : Option (Place A)) → Agree (λ d e. d ≡ map_place g e) (present (map (map_place g) c) Missing) (present c Missing)
  unfolding present
  present_map none = refusal Missing
  present_map (some d) = both refl

  -- the child found is the mapped one
  look_map : (n : Name) (F : Forest A) → Agree (λ d e. d ≡ map_place g e) (look n (map_forest g F)) (look n F)
  unfolding look
  look_map n F = rw (get_map g n F) (present_map (get n F))

  -- ---- walks

  module _ (j : Judge A) (k : Judge B) (kinds : (a : A) → k.kind (g a) ≡ j.kind a) (passes : (a : A) → k.passes (g a) ≡ j.passes a) where
    -- the same directories are entered
    enter_map : (a : A) → enter k (g a) ≡ enter j a
    unfolding enter
    enter_map a = rw (kinds a, passes a)

    -- a walk leads to the mapped place
    pub walk_map : (t : Place A) (p : Path) → Agree (λ d e. d ≡ map_place g e) (walk k (map_place g t) p) (walk j t p)
    unfolding walk map_place
    walk_map t root = both refl
    walk_map t (p ▹ n) = bind (walk_map t p) λ d e s. rw s (guard (enter_map e.here) λ _. look_map n e.below)

    -- and so does a walk to the parent
    pub parent_walk_map : (t : Place A) (p : Path) → Agree (λ d e. d ≡ map_place g e) (parent_walk k (map_place g t) p) (parent_walk j t p)
    unfolding parent_walk map_place
    parent_walk_map t p = bind (walk_map t (parent p)) λ d e s. rw s (guard (enter_map e.here) λ _. both refl)
