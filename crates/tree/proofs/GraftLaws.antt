-- A tree with another place at `/rep`. A walk that may not pass `/rep` sees the two trees alike; a walk from `/rep` on is a
-- walk in the other place.
use Rattle.std.specs.Prelude.{◌≡◌, Bool, true, false, ◌+◌}
use Rattle.std.proofs.Math.Path.{refl, ap}
use Rattle.std.proofs.Common.{◌∙◌, arith}
use Rattle.std.proofs.Math.Option.{some}
use Rattle.buffers.specs.Cases.{case, contra}
use Rattle.buffers.specs.Text.{same_text}
use Rattle.buffers.specs.TextLaws.{same_text_refl, same_text_sound}
use Rattle.syntax.specs.Path.{Name, Path, root, ◌▹◌, parent, last, is_top, rep, in_rep, reserved}
use Rattle.tree.specs.Result.{done, ◌>>=◌, ◌>>◌, present, absent}
use Rattle.tree.specs.Outcomes.{Agree, both}
use Rattle.tree.proofs.AgreeLaws.{itself, bind, guard}
use Rattle.tree.specs.Forest.{Place, get, at, under, update, size, names}
use Rattle.tree.proofs.ForestLaws.{differ_sym, get_at, get_at_other, names_at, at_at, size_at, at_twice, at_id}
use Rattle.tree.specs.Walk.{Judge, look, unused, sought, enter, walk, parent_walk}
use Rattle.tree.proofs.StepLaws.{entered}
use Rattle.tree.specs.WellFormed.{nodes}
use Rattle.tree.specs.Graft.{graft, Outside, first, further, Seen, at_top, at_rep, outside, Passed}

-- ---- the grafted tree

module _ {A : Type 0} where
  -- `/` is as in the tree
  graft_here : (e t : Place A) → (graft e t).here ≡ t.here
  unfolding graft under
  graft_here e t = refl

  -- the names below `/` too
  graft_names : (e t : Place A) → names (graft e t).below ≡ names t.below
  unfolding graft under
  graft_names e t = names_at rep (λ d. e) t.below

  -- a child of another name is as in the tree
  pub get_graft_other : (e t : Place A) (n : Name) → same_text n rep ≡ false → get n (graft e t).below ≡ get n t.below
  unfolding graft under
  get_graft_other e t n s = get_at_other rep (λ d. e) n t.below s

  -- grafting what stands at `/rep` already changes nothing
  pub graft_own : (e t : Place A) → get rep t.below ≡ some e → graft e t ≡ t
  unfolding graft under
  graft_own e t own = rw (at_id rep (λ d. e) e refl t.below own)

  module _ (e : Place A) {f : Place A} (t : Place A) (there : get rep t.below ≡ some f) where
    -- what was grafted is found
    pub get_graft : get rep (graft e t).below ≡ some e
    unfolding graft under
    get_graft = get_at rep (λ d. e) t.below f there

    -- the nodes of what was there are replaced
    pub nodes_graft : nodes (graft e t) + size f.below ≡ nodes t + size e.below
    unfolding nodes graft under
    nodes_graft = omega (arith, size_at rep (λ d. e) t.below f there)

  -- ---- changes

  -- a change outside `/rep` is a change of the tree
  pub update_outside : {p : Path} → Outside p → (g : Place A → Place A) (e t : Place A) → update p g (graft e t) ≡ graft e (update p g t)
  unfolding update graft under
  update_outside (first {n = n} s) g e t = rw (at_at rep (λ d. e) n g s t.below)
  update_outside (further {n = n} o) g e t = update_outside o (under (at n g)) e t

  -- a change outside `/rep` leaves `/`
  pub outside_here : {p : Path} → Outside p → (g : Place A → Place A) (t : Place A) → (update p g t).here ≡ t.here
  unfolding update under
  outside_here (first s) g t = refl
  outside_here (further {n = n} o) g t = outside_here o (under (at n g)) t

  -- and what stands at `/rep`
  pub outside_rep : {p : Path} → Outside p → (g : Place A → Place A) (t : Place A) → get rep (update p g t).below ≡ get rep t.below
  unfolding update under
  outside_rep (first {n = n} s) g t = get_at_other n g rep t.below (differ_sym n rep s)
  outside_rep (further {n = n} o) g t = outside_rep o (under (at n g)) t

  -- a change at or below `/rep` is a change of what was grafted
  pub update_inside : (p : Path) (g : Place A → Place A) (e t : Place A) → update (in_rep p) g (graft e t) ≡ graft (update p g e) t
  unfolding update in_rep graft under
  update_inside root g e t = rw (at_twice rep g (λ d. e) t.below)
  update_inside (p ▹ n) g e t = update_inside p (under (at n g)) e t

  -- ---- walks from `/rep` on

  module _ (j : Judge A) (e : Place A) {f : Place A} (t : Place A) (enters : enter j t.here ≡ done tt) (there : get rep t.below ≡ some f) where
    -- a walk to a path below `/rep` is a walk in what was grafted
    pub walk_inside : (p : Path) → walk j (graft e t) (in_rep p) ≡ walk j e p
    unfolding walk in_rep ◌>>=◌ ◌>>◌ look present
    walk_inside root = rw (graft_here e t, enters, get_graft e t there)
    walk_inside (p ▹ n) = rw (walk_inside p)

    -- and so is a walk to the parent
    pub parent_walk_inside : (p : Path) (n : Name) → parent_walk j (graft e t) (in_rep p ▹ n) ≡ parent_walk j e (p ▹ n)
    unfolding parent_walk parent
    parent_walk_inside p n = rw (walk_inside p)

  -- ---- what is seen

  module _ {e f t : Place A} where
    -- the payloads seen are the same if those at `/rep` are
    pub seen_here : e.here ≡ f.here → {p : Path} {d d' : Place A} → Seen e f t p d d' → d.here ≡ d'.here
    seen_here alike at_top = graft_here e t
    seen_here alike (at_rep s) = alike
    seen_here alike (outside o) = refl

    -- what is seen and is not `/` or `/rep` is the same
    pub seen_alike : {p : Path} {d d' : Place A} → Seen e f t p d d' → reserved p ≡ false → d ≡ d'
    unfolding reserved
    seen_alike at_top r = contra refl r
    seen_alike (at_rep s) r = contra s r
    seen_alike (outside o) r = refl

    -- the names below what is seen are the same where a test passes that `/rep` does not pass
    pub seen_names : (T : A → Bool) → T e.here ≡ false
        → {p : Path} {d d' : Place A} → Seen e f t p d d' → T d.here ≡ true → names d.below ≡ names d'.below
    seen_names T shut at_top i = graft_names e t
    seen_names T shut (at_rep s) i = contra i shut
    seen_names T shut (outside o) i = refl

    -- a test that neither `/` nor `/rep` passes leads outside
    pub seen_outside : (T : A → Bool) → T t.here ≡ false → T e.here ≡ false
        → {p : Path} {d d' : Place A} → Seen e f t p d d' → T d.here ≡ true → Outside p
    seen_outside T top shut at_top i = contra i (ap T (graft_here e t) ∙ top)
    seen_outside T top shut (at_rep s) i = contra i shut
    seen_outside T top shut (outside o) i = o

    unused_seen : get rep t.below ≡ some f → (j : Judge A) → j.passes e.here ≡ false
        → {p : Path} {d d' : Place A} → Seen e f t p d d' → j.passes d.here ≡ true → (n : Name) → unused n d.below ≡ unused n d'.below
    unfolding unused absent
    unused_seen there j shut at_top i n = case (same_text n rep)
        (λ s. rw (same_text_sound n rep s) (rw (get_graft e t there, there)))
        (λ s. rw (get_graft_other e t n s))
    unused_seen there j shut (at_rep s) i n = contra i shut
    unused_seen there j shut (outside o) i n = refl

    -- a name is unused in what is seen of both where it may be passed
    pub unused_graft : get rep t.below ≡ some f → {j : Judge A} → j.passes e.here ≡ false
        → {p : Path} {d d' : Place A} → Passed j e f t p d d' → (n : Name) → unused n d.below ≡ unused n d'.below
    unused_graft there {j} shut w n = unused_seen there j shut w.seen w.passes n

    seen_child : (j : Judge A) → j.passes e.here ≡ false → {p : Path} {d d' : Place A} → Seen e f t p d d' → j.passes d.here ≡ true
        → (n : Name) → (p ≡ root → same_text n rep ≡ false) → get n d.below ≡ get n d'.below
    seen_child j shut at_top i n h = get_graft_other e t n (h refl)
    seen_child j shut (at_rep s) i n h = contra i shut
    seen_child j shut (outside o) i n h = refl

    -- and what is sought for a path that is not reserved is the same
    pub sought_graft : {j : Judge A} → j.passes e.here ≡ false → (b : Path) → reserved b ≡ false
        → {d d' : Place A} → Passed j e f t (parent b) d d' → sought (last b) d.below ≡ sought (last b) d'.below
    unfolding sought reserved parent last is_top
    sought_graft {j} shut root r w = contra refl r
    sought_graft {j} shut (root ▹ n) r w = ap done (seen_child j shut w.seen w.passes n (λ _. r))
    sought_graft {j} shut (p ▹ k ▹ n) r w = ap done (seen_child j shut w.seen w.passes n (λ q. contra (ap is_top q) refl))

-- what is below a directory outside is outside
pub outside_child : (b : Path) → is_top b ≡ false → Outside (parent b) → Outside b
unfolding is_top parent
outside_child root l o = contra refl l
outside_child (p ▹ n) l o = further o

-- ---- walks that may not pass `/rep`

module _ {A : Type 0} (e f t : Place A) (alike : e.here ≡ f.here) (there : get rep t.below ≡ some f) (j : Judge A) (shut : j.passes e.here ≡ false) where
  -- a child of a place that is passed
  look_seen : {p : Path} {d d' : Place A} → Seen e f t p d d' → j.passes d.here ≡ true
      → (n : Name) → Agree (Seen e f t (p ▹ n)) (look n d.below) (look n d'.below)
  unfolding look present
  look_seen at_top i n = case (same_text n rep)
      (λ s. rw (same_text_sound n rep s) (rw (get_graft e t there, there) (both (at_rep (same_text_refl rep)))))
      (λ s. rw (get_graft_other e t n s) (itself (look n t.below) λ c _. outside (first s)))
  look_seen (at_rep s) i n = contra i shut
  look_seen {d} (outside o) i n = itself (look n d.below) λ c _. outside (further o)

  -- a walk sees the grafted tree as the tree
  pub walk_graft : (p : Path) → Agree (Seen e f t p) (walk j (graft e t) p) (walk j t p)
  unfolding walk
  walk_graft root = both at_top
  walk_graft (p ▹ n) =
      bind (walk_graft p) λ d d' s.
      guard (ap (enter j) (seen_here alike s)) λ i.
      look_seen s (entered j d.here i).1 n

  -- and so does a walk to the parent
  pub parent_walk_graft : (p : Path) → Agree (Passed j e f t (parent p)) (parent_walk j (graft e t) p) (parent_walk j t p)
  unfolding parent_walk
  parent_walk_graft p =
      bind (walk_graft (parent p)) λ d d' s.
      guard (ap (enter j) (seen_here alike s)) λ i.
      both (record { seen = s; passes = (entered j d.here i).1 })
