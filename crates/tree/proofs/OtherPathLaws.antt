-- What stands at a path after a change at another, and where a walk leads: a judge that does not pass a directory leads
-- nowhere below it, and root's leads to every place.
use Rattle.std.specs.Prelude.{◌≡◌, Bool, true, false, ◌⊎◌}
use Rattle.std.proofs.Math.Path.{refl, sym}
use Rattle.std.proofs.Common.{◌∙◌, ap, inl, inr, ⊎_elim}
use Rattle.std.proofs.Math.Option.{none, some}
use Rattle.buffers.specs.Cases.{case, contra}
use Rattle.buffers.specs.Text.{same_text}
use Rattle.buffers.specs.TextLaws.{same_text_sound}
use Rattle.accounts.specs.declared.Right.TheVariants.{X}
use Rattle.accounts.specs.declared.Account.{Account}
use Rattle.accounts.specs.Access.{is_root}
use Rattle.accounts.proofs.AccessLaws.{may_root}
use Rattle.syntax.specs.Path.{Name, Path, root, ◌▹◌, parent, same_path, within, lies_below, carried}
use Rattle.syntax.proofs.WithinLaws.{Lies, itself, deeper, same_path_sound, same_path_refl, lies, lies_outside, lies_top, top_not_below, below_parent}
use Rattle.syntax.specs.Form
use Rattle.syntax.proofs.FormLaws.{no_answer, answered}
use Rattle.tree.specs.declared.Cause.TheVariants.{Access}
use Rattle.tree.specs.Result.{Result, refused, done, ◌>>=◌, ◌>>◌, require}
use Rattle.tree.proofs.ResultLaws.{done_then, refused_then, done_bind, refused_bind}
use Rattle.tree.specs.Forest.{Forest, nil, node, Place, get, is_empty, remove, at, under, update, place_at, alter, put, drop}
use Rattle.tree.proofs.ForestLaws.{get_at, get_at_other, get_insert, get_insert_other, get_remove_other}
use Rattle.tree.specs.Node.{is_directory, Node}
use Rattle.tree.specs.Walk.{Judge, by_modes, look, enter, walk, parent_walk}
use Rattle.tree.proofs.JudgeLaws.{allows_is, kind_by_modes, passes_by_modes}
use Rattle.tree.proofs.StepLaws.{look_some, walked, entered, enters, walk_root, walk_step, walks_on}
use Rattle.tree.specs.WellFormed.{is_forest, is_tree}
use Rattle.tree.proofs.UpdateLaws.{by_option, place_at_root, place_at_child, place_at_parent, walked_at, update_none}
use Rattle.tree.proofs.WellFormedLaws.{get_leads, place_parts, forest_parts, tree_parts, place_below}

-- in a forest without children no child is found
get_empty : {A : Type 0} (n : Name) (F : Forest A) → is_empty F ≡ true → get n F ≡ none
unfolding get is_empty
get_empty n nil e = refl
get_empty n (node m x cs rest) e = contra {b = false} e refl

module _ {A : Type 0} (t : Place A) where
  -- ---- a place at, above and beside a change

  -- above a place there are places
  above_at : {p q : Path} → Lies p q → (d : Place A) → place_at t q ≡ some d → (c : Place A) × (place_at t p ≡ some c)
  above_at itself d e = (d, e)
  above_at (deeper {q = q} {n = n} l) d e = let i = place_at_parent t q n d e in above_at l i.0 i.1

  -- nothing stands below a place without children
  pub alone_at : {a p : Path} → Lies a p → (x : Place A) → place_at t a ≡ some x → is_empty x.below ≡ true → (d : Place A) → place_at t p ≡ some d → a ≡ p
  alone_at itself x h z d e = refl
  alone_at (deeper {q = q} {n = n} l) x h z d e =
      let i = place_at_parent t q n d e in
      let s = rw (alone_at l x h z i.0 i.1) at h in
      no_answer (sym (get_empty n i.0.below (rw (answered (sym s ∙ i.1)) z)) ∙ i.2)

  -- the place changed
  pub changed_at : (q : Path) (f : Place A → Place A) (d : Place A) → place_at t q ≡ some d → place_at (update q f t) q ≡ some (f d)
  unfolding update under place_at Form.◌>>=◌
  changed_at root f d e = rw (answered e)
  changed_at (q ▹ n) f d e =
      let i = place_at_parent t q n d e in
      place_at_child (update q (under (at n f)) t) q n _ (changed_at q (under (at n f)) i.0 i.1) ∙ get_at n f i.0.below d i.2

  -- a place above a change that keeps the payload stays a place with its payload
  changed_some : {p q : Path} → Lies p q → (f : Place A → Place A) → ((x : Place A) → (f x).here ≡ x.here) → (c : Place A) → place_at t p ≡ some c
      → (d : Place A) × (place_at (update q f t) p ≡ some d) × (d.here ≡ c.here)
  unfolding update under
  changed_some {p} itself f h c e = (f c, changed_at p f c e, h c)
  changed_some (deeper {n = n} l) f h c e = changed_some l (under (at n f)) (λ x. refl) c e

  -- and none is made there
  changed_none : {p q : Path} → Lies p q → (f : Place A → Place A) → place_at t p ≡ none → place_at (update q f t) p ≡ none
  unfolding update
  changed_none {p} itself f e = rw (update_none t p f e) e
  changed_none (deeper {n = n} l) f e = changed_none l (under (at n f)) e

  -- a child beside a change further down
  child_kept : {p q : Path} → Lies p q → (m : Name) (f : Place A → Place A) (c : Place A) → place_at t p ≡ some c → (Lies (p ▹ m) q → ⊥)
      → (q ≡ p → get m (f c).below ≡ get m c.below) → place_at (update q f t) (p ▹ m) ≡ place_at t (p ▹ m)
  unfolding update under
  child_kept {p} itself m f c e off h = place_at_child (update p f t) p m (f c) (changed_at p f c e) ∙ h refl ∙ sym (place_at_child t p m c e)
  child_kept {p} (deeper {q = q} {n = n} l) m f c e off h = child_kept l m (under (at n f)) c e (λ k. off (deeper k))
      (λ s. get_at_other n f m c.below (case (same_text m n)
      (λ i. absurd (off (rw (s, same_text_sound m n i) itself)))
      (λ i. i)))

  -- a path beside a change, or below one that leaves the child on the way to it
  kept : (q : Path) (f : Place A → Place A) (p : Path) → (Lies p q → ⊥)
      → ((e : Place A) (m : Name) → place_at t q ≡ some e → Lies (q ▹ m) p → get m (f e).below ≡ get m e.below)
      → place_at (update q f t) p ≡ place_at t p
  unfolding place_at Form.◌>>=◌
  kept q f root off h = absurd (off (lies_top q))
  kept q f (p ▹ m) off h = case (within p q)
      (λ i. by_option (place_at t p)
      (λ e. rw (e, changed_none (lies p q i) f e))
      (λ c e. child_kept (lies p q i) m f c e off (λ s. h c m (rw s e) (rw s itself))))
      (λ i. rw (kept q f p (lies_outside i) (λ e k a l. h e k a (deeper l))))

  drop_same : (p q : Path) (n : Name) → within p q ≡ false → within (q ▹ n) p ≡ false → place_at (update q (drop n) t) p ≡ place_at t p
  unfolding drop under
  drop_same p q n b o = kept q (drop n) p (lies_outside b) (λ e m a l. get_remove_other n m
      (case (same_text m n) (λ i. lies_outside o (rw (same_text_sound m n i) at l)) (λ i. i)) e.below)

  -- ---- the changes: a place at p stays where a change at q is neither at p nor below it

  -- a payload altered
  pub alter_keeps : (p : Path) (d : Place A) (q : Path) (g : A → A) → place_at t p ≡ some d → within p q ≡ false
      → place_at (update q (alter g) t) p ≡ some d
  unfolding alter
  alter_keeps p d q g h b = kept q (alter g) p (lies_outside b) (λ e m a l. refl) ∙ h

  -- a child put in
  pub put_keeps : (p : Path) (d : Place A) (q : Path) (n : Name) (x : Place A) → place_at t p ≡ some d → within p q ≡ false
      → place_at t (q ▹ n) ≡ none → place_at (update q (put n x) t) p ≡ some d
  unfolding put under
  put_keeps p d q n x h b z = kept q (put n x) p (lies_outside b) (λ e m a l. get_insert_other n x m
      (case (same_text m n) (λ i. no_answer (sym z ∙ (above_at (rw (same_text_sound m n i) at l) d h).1)) (λ i. i)) e.below) ∙ h

  -- a child taken out that does not lead to p
  drop_keeps : (p : Path) (d : Place A) (q : Path) (n : Name) → place_at t p ≡ some d → within p q ≡ false → within (q ▹ n) p ≡ false
      → place_at (update q (drop n) t) p ≡ some d
  drop_keeps p d q n h b o = drop_same p q n b o ∙ h

  -- a child taken out that has nothing below it and is not at p
  pub drop_empty_keeps : (p : Path) (d : Place A) (q : Path) (n : Name) (x : Place A) → place_at t p ≡ some d → within p q ≡ false
      → place_at t (q ▹ n) ≡ some x → is_empty x.below ≡ true → same_path p (q ▹ n) ≡ false → place_at (update q (drop n) t) p ≡ some d
  drop_empty_keeps p d q n x h b a z o = drop_keeps p d q n h b (case (within (q ▹ n) p)
      (λ i. contra (rw (alone_at (lies (q ▹ n) p i) x a z d h) (same_path_refl p)) o)
      (λ i. i))

  -- a child put in stands at its name
  pub put_stands : (q : Path) (e : Place A) (n : Name) (x : Place A) → place_at t q ≡ some e → place_at t (q ▹ n) ≡ none
      → place_at (update q (put n x) t) (q ▹ n) ≡ some x
  unfolding put under
  put_stands q e n x h z = place_at_child (update q (put n x) t) q n (put n x e) (changed_at q (put n x) e h) ∙ get_insert n x e.below (sym (place_at_child t q n e h) ∙ z)

-- the place at a stands at b in another tree: what is within it is carried along
carried_at : {A : Type 0} (t s : Place A) (x : Place A) (a b : Path) → place_at t a ≡ some x → place_at s b ≡ some x
    → (p : Path) (d : Place A) → within a p ≡ true → place_at t p ≡ some d → place_at s (carried a b p) ≡ some d
unfolding carried within
carried_at t s x a b h k root d i e = rw i (k ∙ sym h ∙ rw (same_path_sound a root i) e)
carried_at t s x a b h k (p ▹ n) d i e = case (same_path a (p ▹ n))
    (λ o. rw o (k ∙ sym h ∙ rw (same_path_sound a (p ▹ n) o) e))
    (λ o.
    let c = place_at_parent t p n d e in
    rw o (place_at_child s (carried a b p) n c.0 (carried_at t s x a b h k p c.0 (rw o at i) c.1) ∙ c.2))

module _ {A : Type 0} (t : Place A) where
  -- ---- where there is no place

  -- there is none below it
  pub none_below : {a p : Path} → Lies a p → place_at t a ≡ none → place_at t p ≡ none
  unfolding place_at Form.◌>>=◌
  none_below itself e = e
  none_below (deeper l) e = rw (none_below l e)

  -- a payload altered makes none
  pub alter_none : (p q : Path) (g : A → A) → place_at t p ≡ none → place_at (update q (alter g) t) p ≡ none
  unfolding alter
  alter_none p q g e = case (within p q)
      (λ i. changed_none t (lies p q i) (alter g) e)
      (λ i. kept t q (alter g) p (lies_outside i) (λ d m a l. refl) ∙ e)

  -- a child put in makes none that is not within it
  pub put_none : (p q : Path) (n : Name) (x : Place A) → within (q ▹ n) p ≡ false → place_at t p ≡ none → place_at (update q (put n x) t) p ≡ none
  unfolding put under
  put_none p q n x o e = case (within p q)
      (λ i. changed_none t (lies p q i) (put n x) e)
      (λ i. kept t q (put n x) p (lies_outside i) (λ d m a l. get_insert_other n x m
      (case (same_text m n) (λ j. lies_outside o (rw (same_text_sound m n j) at l)) (λ j. j)) d.below) ∙ e)

  -- ---- a child taken out or moved

  -- a child taken out makes no place
  pub drop_none : (p q : Path) (n : Name) → within (q ▹ n) p ≡ false → place_at t p ≡ none → place_at (update q (drop n) t) p ≡ none
  drop_none p q n o e = case (within p q)
      (λ i. changed_none t (lies p q i) (drop n) e)
      (λ i. drop_same t p q n i o ∙ e)

  -- and leaves every place that is not within the child, with its payload
  pub drop_some : (p : Path) (d : Place A) (q : Path) (n : Name) → within (q ▹ n) p ≡ false → place_at t p ≡ some d
      → (c : Place A) × (place_at (update q (drop n) t) p ≡ some c) × (c.here ≡ d.here)
  unfolding drop under
  drop_some p d q n o e = case (within p q)
      (λ i. changed_some t (lies p q i) (drop n) (λ x. refl) d e)
      (λ i. (d, drop_same t p q n i o ∙ e, refl))

  module _ (p : Path) (d : Place A) (q : Path) (n : Name) (x : Place A) (r : Path) (f : Place A) (k : Name) (there : place_at t p ≡ some d)
      (free : place_at t (r ▹ k) ≡ none) (off : within (q ▹ n) (r ▹ k) ≡ false) where
    -- a child moved that does not lead to p
    pub move_keeps : within p q ≡ false → within p r ≡ false → within (q ▹ n) p ≡ false → place_at (update r (put k x) (update q (drop n) t)) p ≡ some d
    move_keeps b c o = put_keeps (update q (drop n) t) p d r k x (drop_keeps t p d q n there b o) c (drop_none (r ▹ k) q n off free)

    -- and one that does carries what stands at p along
    pub move_carries : place_at t (q ▹ n) ≡ some x → place_at t r ≡ some f → within (q ▹ n) p ≡ true
        → place_at (update r (put k x) (update q (drop n) t)) (carried (q ▹ n) (r ▹ k) p) ≡ some d
    move_carries a e i =
        let s = update q (drop n) t in
        let g = drop_some r f q n (case (within (q ▹ n) r) (λ l. lies_outside off (deeper (lies (q ▹ n) r l))) (λ l. l)) e in
        carried_at t (update r (put k x) s) x (q ▹ n) (r ▹ k) a (put_stands s r g.0 k x g.1 (drop_none (r ▹ k) q n off free)) p d i there

-- a child taken out of well-formed siblings is found no more
get_removed : (n : Name) (F : Forest Node) → is_forest F ≡ true → get n (remove n F) ≡ none
unfolding get remove
get_removed n nil h = refl
get_removed n (node k y cs rest) h =
    let v = forest_parts k (record { here = y; below = cs }) rest h in
    case (same_text n k)
    (λ e. rw e (rw (same_text_sound n k e) (get_leads k rest v.others v.leading)))
    (λ e. rw e (rw e (get_removed n rest v.others)))

-- and in a well-formed tree nothing stands where it was
pub drop_gone : (t : Place Node) → is_tree t ≡ true → (q : Path) (n : Name) → place_at (update q (drop n) t) (q ▹ n) ≡ none
unfolding drop under
drop_gone t whole q n = by_option (place_at t q)
    (λ e. none_below (update q (drop n) t) (deeper itself) (changed_none t itself (drop n) e))
    (λ d e. place_at_child (update q (drop n) t) q n (drop n d) (changed_at t q (drop n) d e)
    ∙ get_removed n d.below (place_parts d (place_below t q d (tree_parts t whole).whole e)).forest)

-- ---- walks

module _ {A : Type 0} (j : Judge A) (t : Place A) (p : Path) (d : Place A) (there : place_at t p ≡ some d) (shut : j.passes d.here ≡ false) where
  shut_below : {q : Path} → Lies p q → (e : Place A) → walk j t q ≡ done e → q ≡ p
  shut_below itself e w = refl
  shut_below (deeper {q = q} {n = n} l) e w =
      let i = walked j t q n w in
      let s : place_at t p ≡ some i.0 = rw (← shut_below l i.0 i.1) (walked_at t j q i.0 i.1) in
      contra (entered j i.0.here i.2).1 (rw (answered (sym there ∙ s)) shut)

  -- a walk that may not pass the directory at p leads nowhere below it, nor there if the place passes a test that the directory does not
  pub walk_outside : (q : Path) (e : Place A) → walk j t q ≡ done e → (T : A → Bool) → T d.here ≡ false → T e.here ≡ true → within p q ≡ false
  walk_outside q e w T a b = case (within p q)
      (λ i.
      let s : place_at t p ≡ some e = rw (← shut_below (lies p q i) e w) (walked_at t j q e w) in
      contra b (rw (answered (sym there ∙ s)) a))
      (λ i. i)

not_entered : {A : Type 0} (j : Judge A) (a : A) → is_directory (j.kind a) ≡ true → j.passes a ≡ false → enter j a ≡ refused Access
unfolding enter require ◌>>◌
not_entered j a k b = rw (k, b)

module _ (j : Judge Node) (kinds : (n : Node) → j.kind n ≡ n.kind) (t : Place Node) (whole : is_tree t ≡ true) where
  -- what has a child is a directory
  parent_directory : (p : Path) (c : Place Node) (n : Name) (d : Place Node) → place_at t p ≡ some c → get n c.below ≡ some d → is_directory (j.kind c.here) ≡ true
  parent_directory p c n d h e = rw (kinds c.here) (case (is_directory c.here.kind)
      (λ k. k)
      (λ k. no_answer (sym (get_empty n c.below ((place_parts c (place_below t p c (tree_parts t whole).whole h)).childless k)) ∙ e)))

  -- a walk to a place leads there or is refused for want of x
  leads_or_refused : (p : Path) (d : Place Node) → place_at t p ≡ some d → (walk j t p ≡ done d) ⊎ (walk j t p ≡ refused Access)
  leads_or_refused root d e = inl (walk_root j t ∙ ap done (answered (sym e ∙ place_at_root t)))
  leads_or_refused (p ▹ n) d e =
      let i = place_at_parent t p n d e in
      let k = parent_directory p i.0 n d i.1 i.2 in
      rw (walk_step j t p n) (⊎_elim
      (λ (w : walk j t p ≡ done i.0). case (j.passes i.0.here)
      (λ b. inl (rw (w, done_bind, enters j i.0.here k b, done_then) (look_some n i.0.below i.2)))
      (λ b. inr (rw (w, done_bind, not_entered j i.0.here k b, refused_then))))
      (λ (w : walk j t p ≡ refused Access). inr (rw (w, refused_bind)))
      (leads_or_refused p i.0 i.1))

  module _ (p : Path) (d : Place Node) (there : place_at t p ≡ some d) (directory : is_directory d.here.kind ≡ true) (shut : j.passes d.here ≡ false) where
    -- a walk to a directory that may not be passed, or below it, goes no further
    shut_there : {B : Type 0} (k : Place Node → Result B) {q : Path} → Lies p q → (walk j t q >>= λ e. enter j e.here >> k e) ≡ refused Access
    shut_there k itself = ⊎_elim
        (λ (w : walk j t p ≡ done d). rw (w, done_bind, not_entered j d.here (ap is_directory (kinds d.here) ∙ directory) shut, refused_then))
        (λ (w : walk j t p ≡ refused Access). rw (w, refused_bind))
        (leads_or_refused p d there)
    shut_there k (deeper {q = q} {n = n} l) = rw (walk_step j t q n, shut_there (λ e. look n e.below) l, refused_bind)

    -- so the walk to a path below it is refused for want of x
    pub walk_shut : (q : Path) → lies_below p q ≡ true → walk j t q ≡ refused Access
    walk_shut root b = top_not_below p b
    walk_shut (q ▹ n) b = walk_step j t q n ∙ shut_there (λ e. look n e.below) (lies p q (below_parent p q n b))

    -- and so is the parent walk
    pub parent_walk_shut : (q : Path) → lies_below p q ≡ true → parent_walk j t q ≡ refused Access
    unfolding parent_walk parent
    parent_walk_shut root b = top_not_below p b
    parent_walk_shut (q ▹ n) b = shut_there done (lies p q (below_parent p q n b))

  -- a walk that passes everywhere leads to every place
  walk_open : ((n : Node) → j.passes n ≡ true) → (p : Path) (d : Place Node) → place_at t p ≡ some d → walk j t p ≡ done d
  walk_open all root d e = walk_root j t ∙ ap done (answered (sym e ∙ place_at_root t))
  walk_open all (p ▹ n) d e =
      let i = place_at_parent t p n d e in
      let k = parent_directory p i.0 n d i.1 i.2 in
      walks_on j t p n (walk_open all p i.0 i.1) (enters j i.0.here k (all i.0.here)) i.2

module _ (a : Account) (top : is_root a.uid ≡ true) (t : Place Node) (whole : is_tree t ≡ true) where
  root_passes : (n : Node) → (by_modes a).passes n ≡ true
  root_passes n = passes_by_modes a n ∙ allows_is a n X ∙ may_root a X n.owner n.group n.mode top

  -- root's walk leads to every place
  root_walks : (p : Path) (d : Place Node) → place_at t p ≡ some d → walk (by_modes a) t p ≡ done d
  root_walks p d e = walk_open (by_modes a) (kind_by_modes a) t whole root_passes p d e

  -- and root's parent walk to every directory
  pub root_parent_walks : (p : Path) (d : Place Node) → place_at t (parent p) ≡ some d → is_directory d.here.kind ≡ true
      → parent_walk (by_modes a) t p ≡ done d
  unfolding parent_walk
  root_parent_walks p d e k =
      let j = by_modes a in
      let i : enter j d.here ≡ done tt = enters j d.here (ap is_directory (kind_by_modes a d.here) ∙ k) (root_passes d.here) in
      rw (root_walks (parent p) d e, done_bind d (λ x. enter j x.here >> done x), i) (done_then (done d))
