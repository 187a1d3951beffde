-- The walks over a tree's rows are the walks in the tree, so where the code's walks come to is where those lead.
--
-- In order:
--   over the rows of a tree: step-of-tree to parent-walk_of-tree;
--   from the code's answer: came-to and came-not of any walk, walk-to and walk-not, parent-walk-to and parent-walk-not.
use Rattle.std.specs.Prelude.{◌≡◌, refl, true, ℕ, take, drop, Ok, Err}
use Rattle.std.proofs.Math.Path.{sym, ap}
use Rattle.std.proofs.Common.{◌∙◌}
use mathlib.Core.List.{List, [], ◌∷◌}
use Rattle.std.proofs.Math.Option.{Option, none, some, map}
use Rattle.buffers.specs.Text.{Text}
use Rattle.accounts.specs.declared.Account.{Account}
use Rattle.syntax.specs.Path.{Name, Path, root, ◌▹◌, parent, extended, path}
use Rattle.syntax.specs.Parts.{last_slash, path_names}
use Rattle.syntax.proofs.ParentLaws.{path_names_of_path, parent_names}
use Rattle.tree.specs.declared.Cause.{Cause}
use Rattle.tree.specs.declared.Cause.TheVariants.{Missing}
use Rattle.std.specs.Prelude as code
use Rattle.tree.specs.Result.{Result, outcome, refused, done, ◌>>=◌, ◌>>◌, present}
use Rattle.tree.proofs.ResultLaws.{outcome_ok, outcome_err, by_result, bind_done, refused_before}
use Rattle.tree.specs.Forest.{Place, get, place_at}
use Rattle.tree.specs.Node.{Node}
use Rattle.tree.specs.Walk.{Judge, by_modes, look, enter, walk, parent_walk}
use Rattle.tree.proofs.StepLaws.{walk_root, walk_step, parent_walked}
use Rattle.tree.proofs.UpdateLaws.{walked_at, by_option, place_at_parent}
use Rattle.tree.specs.WellFormed.{is_tree}
use Rattle.tree.specs.Rows.{rows}
use Rattle.tree.specs.RowScan.{Child, child_in}
use Rattle.tree.specs.RowPlaces.{place_rows, index_of}
use Rattle.tree.proofs.RowPlacesLaws.{around}
use Rattle.tree.proofs.RowChangesLaws.{tree_sorted}
use Rattle.tree.proofs.RowScanLaws.{rows_from_place, child_in_rows, no_child_in_rows}
use Rattle.tree.specs.RowAt.{all_rows}
use Rattle.walks.specs.declared.Spot.{Spot}
use Rattle.tree.specs.TreeBytes.{Encodes}
use Rattle.tree.proofs.TreeBytesLaws.{encoded_rows}
use Rattle.walks.specs.RowWalk.{spot, top_spot, enter_first, enter_in, step_in, walk_names_in, walk_in, parent_walk_in, found_row}
use Rattle.walks.specs.WalkBytes.{spot_of, Came}

-- a walk that is refused is refused further on
walk_refused : {A : Type 0} (j : Judge A) (t : Place A) (p : Path) (ns : List Name) (k : Cause) → walk j t p ≡ refused k → walk j t (extended p ns) ≡ refused k
unfolding extended ◌>>=◌
walk_refused j t p [] k e = e
walk_refused j t p (n ∷ ns) k e = walk_refused j t (p ▹ n) ns k (rw (walk_step j t p n, e))

-- a child looked up among the rows is the child looked up
look_joined : {A : Type 0} (r : Result (Unit {0})) (c : Option A) (f : Child) (i above : ℕ) → found_row f ≡ map (λ x. i) c
    → (r >> (present (found_row f) Missing >>= λ k. done (spot k above))) ≡ ((r >> present c Missing) >>= λ x. done (spot i above))
unfolding ◌>>◌ ◌>>=◌ present
look_joined (refused k) c f i above e = refl
look_joined (done u) none f i above e = rw e
look_joined (done u) (some x) f i above e = rw e

-- and a place entered is the place entered
entered_spot : {A : Type 0} (r : Result (Unit {0})) (s : Spot) (d : A) → (r >> done s) ≡ ((r >> done d) >>= λ x. done s)
unfolding ◌>>◌ ◌>>=◌
entered_spot (refused k) s d = refl
entered_spot (done u) s d = refl

module _ (a : Account) (t : Place Node) where
  -- the walk to a path, as where it came to
  reached : Path → Result Spot
  reached p = walk (by_modes a) t p >>= λ d. done (spot_of t p)

  enter_place : (p : Path) (d : Place Node) → place_at t p ≡ some d → enter_first a (drop (index_of t p) (rows t)) ≡ enter (by_modes a) d.here
  unfolding enter_first place_rows
  enter_place p d e = rw (rows_from_place (around t p d e))

  module _ (h : is_tree t ≡ true) where
    -- the child of a place is found among the rows if it is there
    found_of_tree : (p : Path) (d : Place Node) (n : Name) → place_at t p ≡ some d
        → found_row (child_in (rows t) (index_of t p) n) ≡ map (λ c. index_of t (p ▹ n)) (get n d.below)
    unfolding found_row
    found_of_tree p d n e = by_option (get n d.below)
        (λ g. rw (g, no_child_in_rows (around t p d e) n g))
        (λ c g. rw (g, child_in_rows (around t p d e) n c (tree_sorted t p d h e) g))

    -- one step over the rows is one step of the walk
    step_of_tree : (p : Path) (d : Place Node) (n : Name) → walk (by_modes a) t p ≡ done d → step_in a (rows t) (spot_of t p) n ≡ reached (p ▹ n)
    unfolding step_in spot_of reached look parent ◌>>=◌
    step_of_tree p d n w =
        let e = walked_at t (by_modes a) p d w in
        rw (enter_place p d e, walk_step (by_modes a) t p n, w)
        (look_joined (enter (by_modes a) d.here) (get n d.below) (child_in (rows t) (index_of t p) n) (index_of t (p ▹ n)) (index_of t p) (found_of_tree p d n e))

    -- and so are all steps
    steps_of_tree : (p : Path) (d : Place Node) (ns : List Name) → walk (by_modes a) t p ≡ done d
        → walk_names_in a (rows t) (spot_of t p) ns ≡ reached (extended p ns)
    unfolding walk_names_in reached extended ◌>>=◌
    steps_of_tree p d [] w = rw w
    steps_of_tree p d (n ∷ ns) w =
        let s = step_of_tree p d n w in
        by_result (walk (by_modes a) t (p ▹ n))
        (λ k q. rw (s, q, walk_refused (by_modes a) t (p ▹ n) ns k q))
        (λ c q. rw (s, q) (steps_of_tree (p ▹ n) c ns q))

    names_of_tree : (ns : List Name) (p : Path) → extended root ns ≡ p → walk_names_in a (rows t) top_spot ns ≡ reached p
    unfolding top_spot spot_of parent index_of
    names_of_tree ns p e = rw (← e) (steps_of_tree root t ns (walk_root (by_modes a) t))

    module _ (s : Text) (p : Path) (e : path s ≡ some p) where
      -- the walk over a tree's rows is the walk in the tree
      walk_of_tree : walk_in a (rows t) s ≡ (walk (by_modes a) t p >>= λ d. done (spot_of t p))
      unfolding walk_in reached
      walk_of_tree = names_of_tree (path_names s) p (path_names_of_path s p e)

      -- and so is the parent walk
      parent_walk_of_tree : parent_walk_in a (rows t) s ≡ (parent_walk (by_modes a) t p >>= λ d. done (spot_of t (parent p)))
      unfolding parent_walk_in walk_in parent_walk enter_in reached spot_of ◌>>=◌ ◌>>◌
      parent_walk_of_tree =
          let w = names_of_tree (path_names (take (last_slash s) s)) (parent p) (parent_names s p e) in
          by_result (walk (by_modes a) t (parent p))
          (λ k q. rw (w, q))
          (λ d q.
          rw (w, q, enter_place (parent p) d (walked_at t (by_modes a) (parent p) d q))
          (entered_spot (enter (by_modes a) d.here) (spot_of t (parent p)) d))

-- ---- where the code's walks came to

-- above a place there is one
place_above : {A : Type 0} (t : Place A) (p : Path) {d : Place A} → place_at t p ≡ some d → (c : Place A) × (place_at t (parent p) ≡ some c)
unfolding parent
place_above t root {d} e = (d, e)
place_above t (p ▹ n) {d} e = let i = place_at_parent t p n d e in (i.0, i.1)

module _ {b : List ℕ} {t : Place Node} (tree : Encodes b t) (w : Result (Place Node)) (p : Path) {r : code.Result Spot Cause} (same : outcome r ≡ (w >>= λ d. done (spot_of t p))) where
  -- a walk in the tree that leads to the place at p, whatever else it checks
  pub came_to : ((d : Place Node) → w ≡ done d → place_at t p ≡ some d) → {s : Spot} → r ≡ Ok s → Came b t p w s.row s.above
  unfolding spot_of
  came_to leads {s} e =
      let i = bind_done w (λ d. done (spot_of t p)) (sym same ∙ ap outcome e ∙ outcome_ok s) in
      let there = leads i.0 i.1 in
      let up = place_above t p there in
      let q : spot_of t p ≡ s = cc i.2 in
      record {
        place = i.0;
        over = up.0;
        walked = i.1;
        at = record { tree = tree; there = there; row = sym (ap (λ (s : Spot). s.row) q) };
        over_at = record { tree = tree; there = up.1; row = sym (ap (λ (s : Spot). s.above) q) };
      }

  -- one that is refused
  pub came_not : {k : Cause} → r ≡ Err k → w ≡ refused k
  came_not {k} e = refused_before w (λ d. spot_of t p) (sym same ∙ ap outcome e ∙ outcome_err k)

module _ {b : List ℕ} {t : Place Node} (tree : Encodes b t) (a : Account) (s : Text) {p : Path} (reads : path s ≡ some p) where
  is_walk : walk_in a (all_rows b) s ≡ (walk (by_modes a) t p >>= λ d. done (spot_of t p))
  is_walk = rw (encoded_rows tree) (walk_of_tree a t tree.whole s p reads)

  is_parent_walk : parent_walk_in a (all_rows b) s ≡ (parent_walk (by_modes a) t p >>= λ d. done (spot_of t (parent p)))
  is_parent_walk = rw (encoded_rows tree) (parent_walk_of_tree a t tree.whole s p reads)

  module _ {r : code.Result Spot Cause} where
    -- a walk that came to a row came to the place that the tree's walk leads to
    pub walk_to : {x : Spot} → outcome r ≡ walk_in a (all_rows b) s → r ≡ Ok x → Came b t p (walk (by_modes a) t p) x.row x.above
    walk_to w e = came_to tree (walk (by_modes a) t p) p (w ∙ is_walk) (walked_at t (by_modes a) p) e

    -- one that was refused is the tree's refused walk
    pub walk_not : {k : Cause} → outcome r ≡ walk_in a (all_rows b) s → r ≡ Err k → walk (by_modes a) t p ≡ refused k
    walk_not w e = came_not tree (walk (by_modes a) t p) p (w ∙ is_walk) e

    -- a parent walk that came to a row came to the directory that the tree's parent walk leads to
    pub parent_walk_to : {x : Spot} → outcome r ≡ parent_walk_in a (all_rows b) s → r ≡ Ok x
        → Came b t (parent p) (parent_walk (by_modes a) t p) x.row x.above
    parent_walk_to w e =
        came_to tree (parent_walk (by_modes a) t p) (parent p) (w ∙ is_parent_walk)
        (λ d q. walked_at t (by_modes a) (parent p) d (parent_walked (by_modes a) t p q).0) e

    -- one that was refused is the tree's refused parent walk
    pub parent_walk_not : {k : Cause} → outcome r ≡ parent_walk_in a (all_rows b) s → r ≡ Err k → parent_walk (by_modes a) t p ≡ refused k
    parent_walk_not w e = came_not tree (parent_walk (by_modes a) t p) (parent p) (w ∙ is_parent_walk) e

-- where a walk came are the rows of its place
pub came_spot : {b : List ℕ} {t : Place Node} {p : Path} {w : Result (Place Node)} {row above : ℕ} → Came b t p w row above → spot row above ≡ spot_of t p
unfolding spot_of
came_spot c = λ i. record { row = c.at.row i; above = c.over_at.row i }
