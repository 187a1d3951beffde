-- The checks of the commands that make and remove nodes: the steps are these and then the change, what each comes to, and what
-- holds where all have passed.
use Rattle.std.specs.Prelude.{◌≡◌, List, Bool, true, false, ℕ, ◌+◌, ◌≤◌, ◌<◌, Ok, Err}
use Rattle.std.specs.Prelude as code
use Rattle.std.proofs.Common.{sym, ◌∙◌, ap, add-zero, arith}
use Rattle.std.proofs.Math.Option.{none, some}
use Rattle.std.proofs.Math.Bool.{not-not}
use borrow.Author.Tests.{not-true, leb-true, le-leb, lt-leb}
use Rattle.buffers.specs.Text.{Text}
use Rattle.accounts.specs.declared.Account.{Account}
use Rattle.accounts.specs.declared.Caller.{Caller}
use Rattle.accounts.specs.declared.Right.TheVariants.{W}
use Rattle.syntax.specs.Path.{Path, path, parent, last, is_top, reserved}
use Rattle.syntax.proofs.PathLaws.{not_reserved}
use Rattle.syntax.proofs.PathTextLaws.{reserved_by_text}
use Rattle.tree.specs.declared.Kind.{Kind}
use Rattle.tree.specs.declared.Cause.{Cause}
use Rattle.tree.specs.declared.Cause.TheVariants.{Access, WrongKind, NotEmpty, Reserved, Full}
use Rattle.tree.specs.Result.{Result, outcome, refused, done, ◌>>=◌}
use Rattle.tree.proofs.ResultLaws.{outcome_ok, outcome_err, bind_done, refused_before, done_then, refused_then, done_bind, refused_bind, require_true, require_false, then_bind, bind_bind}
use Rattle.tree.specs.Outcomes.{gives, Ensures}
use Rattle.tree.proofs.GivesLaws.{done_with, then_check, then_do}
use Rattle.tree.specs.Forest.{Place, is_empty, update, put, drop, leaf}
use Rattle.tree.specs.Node.{same_kind, Node, allows, new_node}
use Rattle.tree.specs.Walk.{by_modes, walk, room}
use Rattle.tree.proofs.RoomLaws.{walked_above}
use Rattle.tree.proofs.UpdateLaws.{walked_at}
use Rattle.tree.specs.WellFormed.{nodes}
use Rattle.tree.proofs.WellFormedLaws.{most_nodes_is}
use Rattle.tree.specs.RowAt.{row_at, all_rows}
use Rattle.tree.specs.TreeBytes.{Encodes}
use Rattle.tree.proofs.TreeBytesLaws.{at_here}
use Rattle.walks.specs.declared.Spot.{Spot}
use Rattle.walks.specs.RowBelow.{has_children_in}
use Rattle.walks.specs.RowBelowLaws.{at_has_children}
use Rattle.walks.specs.RowWalk.{spot}
use Rattle.walks.specs.WalkBytes.{Came, spot_from}
use Rattle.walks.specs.WalkBytesLaws.{came_to, came_spot}
use Rattle.gaps.specs.declared.Gap.{Gap}
use Rattle.gaps.specs.Gaps.{gap_of, gap_from}
use Rattle.gaps.specs.GapsLaws.{Standing, room_to}
use Rattle.shell.specs.Steps.{fit, run_create, run_rm}
use Rattle.nodes.specs.NodeChecks.{text_reserved, may_create, may_remove, row_removal}

-- ---- what the text of a path tells of it

pub reserved_told : (s : Text) {r : Bool} → r ≡ text_reserved s → (p : Path) → path s ≡ some p → r ≡ reserved p
unfolding text_reserved
reserved_told s e p reads = e ∙ sym (reserved_by_text s p reads)

-- ---- the steps are the checks, and then the change

module _ (c : Caller) (t : Place Node) where
  create_steps : (kind : Kind) (p : Path) (mode : ℕ) → run_create c 0 t kind p mode
      ≡ (may_create c.account t p >>= λ d. done (record { text = none; state = update (parent p) (put (last p) (leaf (new_node c d.here kind mode))) t }))
  unfolding run_create may_create fit
  create_steps kind p mode = simp (bind_bind, then_bind, done_bind, add-zero)

  rm_steps : (kind : Kind) (p : Path) → run_rm c 0 t kind p
      ≡ (may_remove c.account t kind p >>= λ d. done (record { text = none; state = update (parent p) (drop (last p)) t }))
  unfolding run_rm may_remove
  rm_steps kind p = simp (bind_bind, then_bind, done_bind)

  -- refused where they are
  pub create_refused : (kind : Kind) (p : Path) (mode : ℕ) {k : Cause} → may_create c.account t p ≡ refused k → run_create c 0 t kind p mode ≡ refused k
  create_refused kind p mode e = create_steps kind p mode ∙ rw (e, refused_bind)

  pub rm_refused : (kind : Kind) (p : Path) {k : Cause} → may_remove c.account t kind p ≡ refused k → run_rm c 0 t kind p ≡ refused k
  rm_refused kind p e = rm_steps kind p ∙ rw (e, refused_bind)

  -- and done where they have passed
  pub create_done : (kind : Kind) (p : Path) (mode : ℕ) {d : Place Node} → may_create c.account t p ≡ done d
      → run_create c 0 t kind p mode ≡ done (record { text = none; state = update (parent p) (put (last p) (leaf (new_node c d.here kind mode))) t })
  create_done kind p mode e = create_steps kind p mode ∙ rw (e, done_bind)

  pub rm_done : (kind : Kind) (p : Path) {d : Place Node} → may_remove c.account t kind p ≡ done d
      → run_rm c 0 t kind p ≡ done (record { text = none; state = update (parent p) (drop (last p)) t })
  rm_done kind p e = rm_steps kind p ∙ rw (e, done_bind)

module _ (a : Account) (t : Place Node) where
  -- ---- `create`, `mkdir`

  module _ (p : Path) where
    -- no room
    pub making_stops : {k : Cause} → room (by_modes a) t p ≡ refused k → may_create a t p ≡ refused k
    unfolding may_create
    making_stops e = rw (e, refused_bind)

    module _ {d : Place Node} (found : room (by_modes a) t p ≡ done d) where
      -- 256 nodes
      pub making_full : 256 ≤ nodes t → may_create a t p ≡ refused Full
      unfolding may_create
      making_full h = rw (found, done_bind, most_nodes_is, lt-leb (nodes t + 1) 256 (omega arith), require_false, refused_then)

      -- fewer
      pub making_done : nodes t < 256 → may_create a t p ≡ done d
      unfolding may_create
      making_done h = rw (found, done_bind, most_nodes_is, le-leb (nodes t + 1) 256 (omega arith), require_true, done_then)

    making_ensures : Ensures (λ d. (room (by_modes a) t p ≡ done d) × (nodes t + 1 ≤ 256)) (may_create a t p)
    unfolding may_create
    making_ensures =
        then_do _ λ d e.
        then_check Full tt _ λ f.
        gives (e, leb-true (nodes t + 1) 256 (rw most_nodes_is at f))

    -- what has passed
    pub making_passed : {d : Place Node} → may_create a t p ≡ done d → (room (by_modes a) t p ≡ done d) × (nodes t + 1 ≤ 256)
    making_passed e = done_with making_ensures e

  -- ---- `rm`, `rmdir`

  module _ (kind : Kind) (p : Path) where
    -- 9
    pub removing_reserved : reserved p ≡ true → may_remove a t kind p ≡ refused Reserved
    unfolding may_remove
    removing_reserved h = rw (h, require_false, refused_then)

    module _ (h : reserved p ≡ false) where
      -- the walk is refused
      pub removing_stops : {k : Cause} → walk (by_modes a) t p ≡ refused k → may_remove a t kind p ≡ refused k
      unfolding may_remove
      removing_stops e = rw (h, require_true, done_then, e, refused_bind)

      -- or came to a place: the checks at its row
      pub removing_there : {b : List ℕ} {row above : ℕ} (w : Came b t p (walk (by_modes a) t p) row above)
          → row_removal a kind (row_at b row).here (row_at b above).here (has_children_in (all_rows b) row) (spot row above) ≡ spot_from t p (may_remove a t kind p)
      unfolding may_remove row_removal
      removing_there w =
          let up = walked_above (by_modes a) t p w.walked w.over_at.there in
          rw (at_here w.at, at_here w.over_at, at_has_children w.at, not-not (is_empty w.place.below), came_spot w, h, require_true, done_then, w.walked, done_bind, up, done_bind)
          (simp (then_bind, done_bind))

    removing_ensures : Ensures (λ d. (is_top p ≡ false) × ((walk (by_modes a) t p ≡ done d) × (is_empty d.below ≡ true))) (may_remove a t kind p)
    unfolding may_remove
    removing_ensures =
        then_check Reserved tt _ λ h.
        then_do _ λ d e.
        then_check WrongKind tt _ λ _.
        then_do _ λ _ _.
        then_check Access tt _ λ _.
        then_check NotEmpty tt _ λ z.
        gives (not_reserved p (not-true (reserved p) h), (e, z))

    -- what has passed
    pub removing_passed : {d : Place Node} → may_remove a t kind p ≡ done d → (is_top p ≡ false) × ((walk (by_modes a) t p ≡ done d) × (is_empty d.below ≡ true))
    removing_passed e = done_with removing_ensures e

-- ---- the checks of `rm` and `rmdir` at a row

module _ (a : Account) (kind : Kind) (n above : Node) (full : Bool) (there : Spot) where
  -- 7
  pub removal_kind : same_kind n.kind kind ≡ false → row_removal a kind n above full there ≡ refused WrongKind
  unfolding row_removal
  removal_kind i = rw (i, require_false, refused_then)

  module _ (same : same_kind n.kind kind ≡ true) where
    -- 5
    pub removal_shut : allows a W above ≡ false → row_removal a kind n above full there ≡ refused Access
    unfolding row_removal
    removal_shut i = rw (same, require_true, done_then, i, require_false, refused_then)

    module _ (may : allows a W above ≡ true) where
      -- 8
      pub removal_full : full ≡ true → row_removal a kind n above full there ≡ refused NotEmpty
      unfolding row_removal
      removal_full i = rw (same, require_true, done_then, may, require_true, done_then, i, require_false, refused_then)

      -- none of these
      pub removal_done : full ≡ false → row_removal a kind n above full there ≡ done there
      unfolding row_removal
      removal_done i = rw (same, require_true, done_then, may, require_true, done_then, i, require_true, done_then)

-- ---- what the code tells

-- a refusal
pub refusal_told : {A : Type 0} {w : Result A} {k : Cause} → w ≡ refused k → outcome (Err k) ≡ w
refusal_told {k = k} e = outcome_err k ∙ sym e

-- and at the place that a path leads to
pub refusal_told_at : (t : Place Node) (p : Path) (w : Result (Place Node)) {k : Cause} → w ≡ refused k → outcome (Err k) ≡ spot_from t p w
refusal_told_at t p w e = refusal_told (rw (e, refused_bind))

-- checks that have passed
pub passing_told : {A : Type 0} {w : Result A} {x : A} → w ≡ done x → outcome (Ok x) ≡ w
passing_told {x = x} e = outcome_ok x ∙ sym e

module _ {b : List ℕ} {t : Place Node} (tree : Encodes b t) (a : Account) where
  -- where the code found what may be removed
  pub removing_came : (kind : Kind) (p : Path) {r : code.Result Spot Cause} → outcome r ≡ spot_from t p (may_remove a t kind p) → {s : Spot} → r ≡ Ok s
      → Came b t p (may_remove a t kind p) s.row s.above
  removing_came kind p same e = came_to tree (may_remove a t kind p) p same (λ d w. walked_at t (by_modes a) p d (removing_passed a t kind p w).1.0) e

  -- where a node may be made, by the code's answer
  module _ (p : Path) {r : code.Result Gap Cause} (same : outcome r ≡ gap_from t p (may_create a t p)) where
    pub making_stands : {g : Gap} → r ≡ Ok g → (s : Standing b t p a g.row g.at g.depth) × ((may_create a t p ≡ done s.directory) × (nodes t + 1 ≤ 256))
    making_stands {g} e =
        let i = bind_done (may_create a t p) (λ d. done (gap_of t p d)) (sym same ∙ ap outcome e ∙ outcome_ok g) in
        let z = making_passed a t p i.1 in
        let s = room_to tree a p (same ∙ ap (gap_from t p) (i.1 ∙ sym z.0)) e in
        (s, (i.1 ∙ sym z.0 ∙ s.found, z.1))

    -- or why none may
    pub making_not : {k : Cause} → r ≡ Err k → may_create a t p ≡ refused k
    making_not {k} e = refused_before (may_create a t p) (gap_of t p) (sym same ∙ ap outcome e ∙ outcome_err k)
