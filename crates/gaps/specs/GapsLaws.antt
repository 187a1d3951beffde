-- The room for a new child, as the code finds it; what the answer tells of the tree; and what rows put in there make.
--
-- In order: the text of a path; the checks in a directory, and at a path; where a child may stand (Standing) by the code's answer
-- (room-to, room-not); rows put in (stands-insertable, stands-child, stands-place).
use Rattle.std.specs.Prelude.{◌≡◌, refl, List, ◌++◌, true, false, length, Ok, Err}
use Rattle.std.proofs.Common.{sym, ◌∙◌, arith, length-drop}
use Rattle.std.proofs.Math.Path.{ap}
use Rattle.std.proofs.Math.Option.{some}
use Prim.Native.Nat.{ℕ, suc, ◌+◌, ◌≤◌, ◌<◌}
use Rattle.buffers.specs.Text.{Text}
use Rattle.buffers.specs.Fields.{all_bytes}
use Rattle.accounts.specs.declared.Account.{Account}
use Rattle.accounts.specs.declared.Right.TheVariants.{W}
use Rattle.syntax.specs.Path.{Name, Path, parent, last, depth, is_top, is_name, path}
use Rattle.syntax.specs.Parts.{last_slash}
use Rattle.syntax.proofs.PathLaws.{name_fits, path_is_path, path_depth, last_is_name, parent_depth}
use Rattle.syntax.proofs.ParentLaws.{last_name}
use Rattle.tree.specs.declared.Cause.{Cause}
use Rattle.tree.specs.declared.Cause.TheVariants.{Access, Exists}
use Rattle.tree.specs.Layout.{name_width, most_rows}
use Rattle.std.specs.Prelude as code
use Rattle.tree.specs.Result.{Result, outcome, refused, done, ◌>>◌, require}
use Rattle.tree.proofs.ResultLaws.{outcome_ok, outcome_err, bind_done, refused_before, done_then, refused_then, done_bind, refused_bind, require_true, require_false, then_bind}
use Rattle.tree.specs.Forest.{Place, update, put, leaf, size}
use Rattle.tree.specs.Node.{Node, allows}
use Rattle.tree.specs.Walk.{by_modes, unused, parent_walk, room}
use Rattle.tree.proofs.JudgeLaws.{room_by_modes}
use Rattle.tree.specs.Room.{Roomed}
use Rattle.tree.proofs.RoomLaws.{is_unused, is_used, room_found}
use Rattle.tree.proofs.UpdateLaws.{height_below, walked_at}
use Rattle.tree.specs.WellFormed.{nodes, is_place}
use Rattle.tree.proofs.WellFormedLaws.{tree_parts}
use Rattle.tree.specs.Rows.{Row}
use Rattle.tree.specs.RowScan.{child_in}
use Rattle.tree.specs.RowPlaces.{place_rows, lesser}
use Rattle.tree.specs.Encoding.{row_bytes, encode_tree}
use Rattle.tree.specs.RowAt.{row_at, all_rows}
use Rattle.tree.specs.TreeBytes.{HasRow, Insertable, Encodes, At}
use Rattle.tree.proofs.TreeBytesLaws.{used_row, encoded_count, at_index, at_used, at_row, at_here, at_found, at_missing}
use Rattle.edits.specs.declared.Fresh.{Fresh}
use Rattle.edits.specs.Changes.{rows_put, fresh_node, fresh_row}
use Rattle.edits.specs.EditLaws.{spot_bound, put_law, child_law}
use Rattle.gaps.specs.Gaps.{Gap, gap, gap_of, gap_from, gap_below, behind_slash}

-- ---- the text of a path

module _ (s : Text) {p : Path} (reads : path s ≡ some p) where
  -- behind its last `/` stands the last name
  pub last_in_text : behind_slash s ≡ last p
  unfolding behind_slash
  last_in_text = last_name s p reads

  -- which is one below `/`
  pub last_named : is_top p ≡ false → is_name (last p) ≡ true
  last_named below = last_is_name p (path_is_path s p reads) below

  -- and fits a row
  pub last_fits : is_top p ≡ false → length (behind_slash s) ≤ name_width
  last_fits below = omega (arith, ap length last_in_text, (name_fits (last p) (last_named below)).0)

-- a text with something behind its last `/` is not empty
pub slash_inside : (s : Text) → 0 < length (behind_slash s) → 0 < length s
unfolding behind_slash
slash_inside s h = omega (arith, length-drop (suc (last_slash s)) s)

-- ---- the checks in a directory

module _ {b : List ℕ} {t : Place Node} {q : Path} {row : ℕ} {d : Place Node} (a : At b t q row d) where
  -- there is room for its row
  pub place_row : HasRow b row
  place_row = used_row (at_used a)

  -- no place lies deeper than 6 names
  pub place_depth : (row_at b row).depth ≤ 6
  place_depth =
      omega (arith, ap (λ (r : Row Node). r.depth) (at_row a), height_below t q d a.there, (tree_parts t a.tree.whole).low)

  module _ (account : Account) (n : Name) {j : ℕ} where
    -- a name that is found is used
    pub gap_used : Ok j ≡ child_in (all_rows b) row n → gap_below account t q n d ≡ refused Exists
    unfolding gap_below
    gap_used f = let c = at_found a n f in rw (is_used n d.below c.1, refused_then)

    module _ (f : Err j ≡ child_in (all_rows b) row n) where
      -- w is asked where it is missing
      pub gap_shut : allows account W (row_at b row).here ≡ false → gap_below account t q n d ≡ refused Access
      unfolding gap_below
      gap_shut w = rw (is_unused n d.below (at_missing a n f).0, done_then, ← at_here a, w, require_false, refused_then)

      -- and given
      pub gap_open : (k : ℕ) → k ≡ (row_at b row).depth → allows account W (row_at b row).here ≡ true → gap_below account t q n d ≡ done (gap row j (k + 1))
      unfolding gap_below
      gap_open k e w =
          let m = at_missing a n f in
          let deep : k + 1 ≡ suc (depth q) = omega (arith, e, ap (λ (r : Row Node). r.depth) (at_row a)) in
          rw (is_unused n d.below m.0, done_then, ← at_here a, w, require_true, done_then, m.1, deep, a.row)

-- ---- the checks at a path

module _ (account : Account) (t : Place Node) (p : Path) where
  -- there is none for `/`
  pub room_top : is_top p ≡ true → room (by_modes account) t p ≡ refused Exists
  room_top e = rw (room_by_modes account t p, e, require_false, refused_then)

  module _ (below : is_top p ≡ false) where
    -- nor where the walk to the directory is refused
    pub room_stops : {k : Cause} → parent_walk (by_modes account) t p ≡ refused k → room (by_modes account) t p ≡ refused k
    room_stops w = rw (room_by_modes account t p, below, require_true, done_then, w, refused_bind)

    -- where it is done, it is the room in the directory
    pub room_goes_on : {d : Place Node} → parent_walk (by_modes account) t p ≡ done d
        → gap_from t p (room (by_modes account) t p) ≡ gap_below account t (parent p) (last p) d
    unfolding gap_of gap_below
    room_goes_on {d} w =
        let right = require (allows account W d.here) Access in
        let told : Place Node → Gap = λ c. gap_of t p c in
        rw (room_by_modes account t p, below, require_true, done_then, w, done_bind, parent_depth p below)
        (then_bind (unused (last p) d.below) (right >> done d) (λ c. done (told c))
        ∙ ap (λ r. unused (last p) d.below >> r) (then_bind right (done d) (λ c. done (told c)) ∙ ap (λ r. right >> r) (done_bind d (λ c. done (told c)))))

-- checks that are refused leave no gap
pub gap_not : (t : Place Node) (p : Path) (w : Result (Place Node)) {k : Cause} → w ≡ refused k → gap_from t p w ≡ refused k
gap_not t p w {k} e = rw (e, refused_bind)

-- ---- where a child may stand

-- the account's room for a child at p is a directory, which has the row; the child's row comes in at the index and lies k deep
pub record Standing (b : List ℕ) (t : Place Node) (p : Path) (account : Account) (row at k : ℕ) : Type 0 where
  pub directory : Place Node
  pub found : room (by_modes account) t p ≡ done directory
  pub roomed : Roomed account t p directory
  pub above : At b t (parent p) row directory
  pub index : at ≡ suc (row + size (lesser (last p) directory.below))
  pub level : k ≡ depth p

module _ {b : List ℕ} {t : Place Node} (tree : Encodes b t) (account : Account) (p : Path) where
  -- in a room that was found
  pub found_stands : {d : Place Node} → room (by_modes account) t p ≡ done d → Standing b t p account (gap_of t p d).row (gap_of t p d).at (gap_of t p d).depth
  unfolding gap_of
  found_stands {d} e =
      let f = room_found account t p e in
      record {
        directory = d;
        found = e;
        roomed = f;
        above = at_index tree (walked_at t (by_modes account) (parent p) d f.led);
        index = refl;
        level = refl;
      }

  module _ {r : code.Result Gap Cause} (same : outcome r ≡ gap_from t p (room (by_modes account) t p)) where
    -- the gap that an answer tells
    told_at : {g : Gap} → r ≡ Ok g → (d : Place Node) × (room (by_modes account) t p ≡ done d) × (gap_of t p d ≡ g)
    told_at {g} e =
        let i = bind_done (room (by_modes account) t p) (λ d. done (gap_of t p d)) (sym same ∙ ap outcome e ∙ outcome_ok g) in
        (i.0, i.1, cc i.2)

    -- is where a child may stand
    pub room_to : {g : Gap} → r ≡ Ok g → Standing b t p account g.row g.at g.depth
    room_to e = let i = told_at e in rw i.2 at (found_stands i.1)

    -- and the gap in the room that was found
    pub room_gap : {d : Place Node} → room (by_modes account) t p ≡ done d → {g : Gap} → r ≡ Ok g → g ≡ gap_of t p d
    room_gap {d} found {g} e =
        let i : done g ≡ done (gap_of t p d) = sym (ap outcome e ∙ outcome_ok g) ∙ same ∙ rw (found, done_bind) in
        cc

    -- one that tells a refusal tells why none may
    pub room_not : {k : Cause} → r ≡ Err k → room (by_modes account) t p ≡ refused k
    room_not {k} e = refused_before (room (by_modes account) t p) (gap_of t p) (sym same ∙ ap outcome e ∙ outcome_err k)

-- ---- rows put in there

module _ {b : List ℕ} {t : Place Node} {p : Path} {account : Account} {row at k : ℕ} (g : Standing b t p account row at k) where
  -- so many as a tree has room for
  pub stands_insertable : (n : ℕ) → nodes t + n ≤ most_rows → Insertable b at n
  stands_insertable n few = record {
    wide = g.above.tree.sized.wide;
    inside = omega (arith, g.index, spot_bound g.above (last p) g.roomed.free);
    room = omega (arith, encoded_count g.above.tree, few);
  }

  module _ (s : Text) (reads : path s ≡ some p) where
    -- it lies at most 6 deep
    pub stands_low : k ≤ 6
    stands_low = omega (arith, g.level, path_depth p (path_is_path s p reads))

    -- a new node
    pub stands_child : (f : Fresh) → nodes t + 1 ≤ most_rows
        → rows_put b at 1 (row_bytes (fresh_row k (last p) f)) ≡ encode_tree (update (parent p) (put (last p) (leaf (fresh_node f))) t)
    stands_child f few =
        rw (g.index, g.level, ← parent_depth p g.roomed.below_top)
        (child_law g.above (last p) f g.roomed.free (last_named s reads g.roomed.below_top) (omega (arith, few)))

    -- a well-formed place
    pub stands_place : (e : Place Node) → is_place e ≡ true → nodes t + suc (size e.below) ≤ most_rows → (Q : List ℕ)
        → rows_put b at (suc (size e.below)) (all_bytes row_bytes (place_rows k (last p) e) ++ Q) ≡ encode_tree (update (parent p) (put (last p) e) t)
    stands_place e w few Q =
        rw (g.index, g.level, ← parent_depth p g.roomed.below_top)
        (put_law g.above (last p) e g.roomed.free (last_named s reads g.roomed.below_top) w few Q)
