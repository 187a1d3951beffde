-- The checks of `mv`: the steps are these and then the change, what each comes to, what holds where all have passed, and what the
-- code's answer tells of them.
use Rattle.std.specs.Prelude.{◌≡◌, List, Bool, true, false, ◌&&◌, ◌||◌, not, cond, ℕ, ◌+◌, ◌≤◌, ◌<◌, eqb, leb, length, Ok, Err}
use Rattle.std.specs.Prelude as code
use Rattle.std.proofs.Math.Path.{refl, sym, ap}
use Rattle.std.proofs.Common.{◌∙◌, arith}
use Rattle.std.proofs.Math.Option.{Option, none, some}
use borrow.Author.Tests.{not-true, leb-true, le-leb, lt-leb, eqb-true, eqb-false}
use Rattle.buffers.specs.Cases.{case, contra, neither}
use Rattle.buffers.specs.Text.{Text}
use Rattle.accounts.specs.declared.Account.{Account}
use Rattle.accounts.specs.declared.Caller.{Caller}
use Rattle.accounts.specs.declared.Right.TheVariants.{W}
use Rattle.syntax.specs.Path.{Path, root, ◌▹◌, path, parent, last, depth, is_top, same_path, within, lies_below, reserved, most_names}
use Rattle.syntax.proofs.PathLaws.{not_reserved, parent_depth, parent_and_last}
use Rattle.syntax.proofs.PathTextLaws.{top_by_length, below_by_length, within_by_text}
use Rattle.syntax.proofs.WithinLaws.{same_path_refl, lies, lies_top, lies_within, apart_below}
use Rattle.tree.specs.declared.Kind.{Kind}
use Rattle.tree.specs.declared.Cause.{Cause}
use Rattle.tree.specs.declared.Cause.TheVariants.{Access, Exists, WrongKind, Reserved, IntoItself, TooDeep}
use Rattle.tree.specs.Result.{Result, outcome, refused, done, ◌>>=◌, ◌>>◌, require}
use Rattle.tree.proofs.ResultLaws.{outcome_ok, outcome_err, refused_before, not_done, done_then, refused_then, done_bind, refused_bind, require_true, require_false, then_then, then_bind, bind_bind, both_checked}
use Rattle.tree.specs.Outcomes.{gives, Ensures}
use Rattle.tree.proofs.GivesLaws.{any_outcome, done_with, then_check, then_guard, then_do}
use Rattle.tree.specs.Forest.{Place, get, place_at, height}
use Rattle.tree.specs.Node.{is_directory, Node, allows}
use Rattle.tree.specs.Walk.{by_modes, walk, parent_walk}
use Rattle.tree.proofs.StepLaws.{sought_is, was_sought, parent_walked}
use Rattle.tree.proofs.RoomLaws.{walked_above}
use Rattle.tree.proofs.PlaceLaws.{empty_height}
use Rattle.tree.specs.WellFormed.{is_tree}
use Rattle.tree.proofs.UpdateLaws.{place_at_last, walked_at, height_below}
use Rattle.tree.proofs.OtherPathLaws.{alone_at}
use Rattle.tree.proofs.WellFormedLaws.{entered_directory, tree_parts, place_parts, place_below}
use Rattle.tree.specs.Rows.{Row}
use Rattle.tree.specs.RowPlaces.{index_of}
use Rattle.tree.specs.RowAt.{row_at, all_rows}
use Rattle.tree.specs.TreeBytes.{Encodes, At}
use Rattle.tree.proofs.TreeBytesLaws.{at_row, at_here}
use Rattle.walks.specs.RowBelow.{height_in}
use Rattle.walks.specs.RowBelowLaws.{at_height}
use Rattle.walks.specs.WalkBytes.{Came}
use Rattle.shell.specs.Steps.{may_replace, moved, run_mv}
use Rattle.shell.proofs.ReplacingLaws.{no_same}
use Rattle.nodes.specs.declared.Move.{Move}
use Rattle.nodes.specs.declared.Move.TheVariants.{Into, Onto, Itself}
use Rattle.nodes.specs.NodeChecks.{text_within}
use Rattle.nodes.specs.NodeChecksLaws.{refusal_told, passing_told}
use Rattle.nodes.specs.MoveChecks.{may_move, move_to, move_from, row_onto, row_into}

-- ---- what the texts of two paths tell of them

within_top : (p q : Path) → is_top p ≡ true → within p q ≡ true
unfolding is_top
within_top root q e = lies_within (lies_top q)
within_top (p ▹ n) q e = contra e refl

pub within_told : (s u : Text) (p q : Path) → path s ≡ some p → path u ≡ some q → text_within s u ≡ within p q
unfolding text_within
within_told s u p q reads other = case (eqb (length s) 1)
    (λ t. rw t (sym (within_top p q (top_by_length s p reads (eqb-true (length s) 1 t)))))
    (λ t. rw t (sym (within_by_text s u p q reads other (below_by_length s p reads (eqb-false (length s) 1 t)))))

-- ---- the steps are the checks, and then the change

module _ (c : Caller) (t : Place Node) (p q : Path) where
  mv_steps : run_mv c 0 t p q ≡ (may_move c.account t p q >>= λ m. done (record { text = none; state = moved t p q m.0 m.1 }))
  unfolding run_mv may_move
  mv_steps = simp (bind_bind, then_bind, done_bind)

  -- refused where they are
  pub mv_refused : {k : Cause} → may_move c.account t p q ≡ refused k → run_mv c 0 t p q ≡ refused k
  mv_refused e = mv_steps ∙ rw (e, refused_bind)

  -- and done where they have passed
  pub mv_done : {d : Place Node} {o : Option (Place Node)} → may_move c.account t p q ≡ done (d, o)
      → run_mv c 0 t p q ≡ done (record { text = none; state = moved t p q d o })
  mv_done e = mv_steps ∙ rw (e, done_bind)

-- ---- what the checks come to

-- a file that stands has nothing below it, so nothing that stands lies there, and it comes no deeper than what it replaces
file_apart : (t : Place Node) → is_tree t ≡ true → (p q : Path) (d g : Place Node) → place_at t p ≡ some d → place_at t q ≡ some g → is_directory d.here.kind ≡ false
    → (lies_below p q ≡ false) × (leb (depth q + height d.below) most_names ≡ true)
unfolding lies_below most_names
file_apart t whole p q d g stands there file =
    let v = tree_parts t whole in
    let bare = (place_parts d (place_below t p d v.whole stands)).childless file in (
      case (within p q)
          (λ i. rw (i, alone_at t (lies p q i) d stands bare g there, same_path_refl q))
          (λ i. rw i),
      le-leb (depth q + height d.below) 6 (omega (arith, empty_height d.below bare, height_below t q g there, v.low)),
    )

-- a place below `/` is that of its last name in its parent
at_path : {b : List ℕ} {t : Place Node} {i : ℕ} {g : Place Node} (q : Path) → is_top q ≡ false → At b t (parent q ▹ last q) i g → At b t q i g
at_path {t = t} q below a =
    let e = parent_and_last q below in
    record { tree = a.tree; there = ap (place_at t) e ∙ a.there; row = a.row ∙ ap (index_of t) (sym e) }

module _ (a : Account) (t : Place Node) (p q : Path) where
  -- 9
  pub moving_reserved : (reserved p || reserved q) ≡ true → may_move a t p q ≡ refused Reserved
  unfolding may_move
  moving_reserved h = rw (h, require_false, refused_then)

  module _ (h : reserved p ≡ false) (k : reserved q ≡ false) where
    -- the walk is refused
    pub moving_stops : {why : Cause} → walk (by_modes a) t p ≡ refused why → may_move a t p q ≡ refused why
    unfolding may_move
    moving_stops e = rw (h, k, require_true, done_then, e, refused_bind)

    -- or the parent walk of the target is
    pub target_stops : {d : Place Node} {why : Cause} → walk (by_modes a) t p ≡ done d → parent_walk (by_modes a) t q ≡ refused why → may_move a t p q ≡ refused why
    unfolding may_move
    target_stops e w = rw (h, k, require_true, done_then, e, done_bind, w, refused_bind)

    -- or both came to a place
    module _ {b : List ℕ} {row above directory over : ℕ} (w : Came b t p (walk (by_modes a) t p) row above) (v : Came b t (parent q) (parent_walk (by_modes a) t q) directory over) where
      abbrev writable : Bool
      writable = allows a W (row_at b above).here && allows a W (row_at b directory).here

      -- the checks that are left, by what stands there
      checks_left : (o : Option (Place Node)) → get (last q) v.place.below ≡ o → move_from t p q (may_move a t p q)
          ≡ (may_replace w.place.here.kind o >> (require writable Access >> (require (not (lies_below p q)) IntoItself
          >> (require (leb (depth q + height w.place.below) most_names) TooDeep >> done (move_to t p q o)))))
      unfolding may_move
      checks_left o there =
          let up = walked_above (by_modes a) t p w.walked w.over_at.there in
          rw (at_here w.over_at, at_here v.at, h, k, require_true, done_then, w.walked, done_bind, v.walked, done_bind, sought_is (last q) v.place.below, done_bind, there, up)
          (simp (then_bind, done_bind, both_checked))

      module _ {may : Bool} (e : may ≡ writable) where
        -- nothing stands there: below itself is 11
        pub moving_into : get (last q) v.place.below ≡ none → {inside : Bool} → inside ≡ within p q
            → row_into may inside ((row_at b directory).depth + 1 + height_in (all_rows b) row) row ≡ move_from t p q (may_move a t p q)
        unfolding row_into may_replace move_to
        moving_into free i =
            let below = not_reserved q k in
            let apart = apart_below p q (no_same t p q w.at.there (place_at_last t q v.place below v.at.there ∙ free)) in
            let deep : (row_at b directory).depth + 1 ≡ depth q = omega (arith, ap (λ (r : Row Node). r.depth) (at_row v.at), parent_depth q below) in
            sym (checks_left none free ∙ rw (done_then, apart, at_height w.at, deep, e, i, w.at.row))

        -- a file or a directory stands there
        pub moving_onto : {target : ℕ} {g : Place Node} → get (last q) v.place.below ≡ some g → At b t (parent q ▹ last q) target g → {same : Bool} → same ≡ same_path p q
            → row_onto (row_at b row).here.kind (row_at b target).here.kind may same row target ≡ move_from t p q (may_move a t p q)
        unfolding row_onto may_replace move_to
        moving_onto {target} {g} found at i =
            let there = at_path q (not_reserved q k) at in
            sym (checks_left (some g) found ∙ case (is_directory w.place.here.kind)
            (λ dir. rw (at_here w.at, at_here there, dir, then_then, require_false, refused_then, refused_then))
            (λ file.
            let z = file_apart t there.tree.whole p q w.place g w.at.there there.there file in
            rw (at_here w.at, at_here there, file, z.0, z.1, e, i, w.at.row, there.row) (simp (then_then, require_true, done_then))))

-- ---- what holds where all have passed

-- the place d at p, the directory that it may be moved to, and what stands there
pub record Moves (a : Account) (t : Place Node) (p q : Path) (d : Place Node) (o : Option (Place Node)) : Type 0 where
  pub led : walk (by_modes a) t p ≡ done d
  pub below_top : is_top p ≡ false
  pub target_below_top : is_top q ≡ false
  pub directory : Place Node
  pub there : walk (by_modes a) t (parent q) ≡ done directory
  pub enterable : is_directory directory.here.kind ≡ true
  pub found : get (last q) directory.below ≡ o
  pub fitting : may_replace d.here.kind o ≡ done tt
  pub outside : lies_below p q ≡ false
  pub low : depth q + height d.below ≤ most_names

module _ (a : Account) (t : Place Node) (p q : Path) where
  moving_ensures : Ensures (λ m. Moves a t p q m.0 m.1) (may_move a t p q)
  unfolding may_move
  moving_ensures =
      then_check Reserved tt _ λ h.
      then_do _ λ d e.
      then_do _ λ f k.
      then_do _ λ z s.
      then_guard (any_outcome _) λ r.
      then_do _ λ _ _.
      then_check Access tt _ λ _.
      then_check Access tt _ λ _.
      then_check IntoItself tt _ λ o.
      then_check TooDeep tt _ λ l.
      let n = neither (reserved p) (reserved q) h in
      let w = parent_walked (by_modes a) t q k in
      gives (record {
        led = e;
        below_top = not_reserved p n.0;
        target_below_top = not_reserved q n.1;
        directory = f;
        there = w.0;
        enterable = entered_directory a f.here w.1;
        found = was_sought (last q) f.below s;
        fitting = r;
        outside = not-true (lies_below p q) o;
        low = leb-true (depth q + height d.below) most_names l;
      })

  pub moving_passed : {d : Place Node} {o : Option (Place Node)} → may_move a t p q ≡ done (d, o) → Moves a t p q d o
  moving_passed e = done_with moving_ensures e

-- ---- the checks at rows

module _ (kind there : Kind) (writable same : Bool) (row target : ℕ) where
  abbrev onto_answer : Result Move
  onto_answer = row_onto kind there writable same row target

  -- 6
  pub onto_directory : is_directory there ≡ true → outcome (Err Exists) ≡ onto_answer
  unfolding row_onto
  onto_directory e = refusal_told (rw (e, require_false, refused_then))

  module _ (onto_file : is_directory there ≡ false) where
    -- 7
    pub onto_by_directory : is_directory kind ≡ true → outcome (Err WrongKind) ≡ onto_answer
    unfolding row_onto
    onto_by_directory e = refusal_told (simp (onto_file, e, require_true, done_then, require_false, refused_then))

    module _ (file : is_directory kind ≡ false) where
      -- 5
      pub onto_shut : writable ≡ false → outcome (Err Access) ≡ onto_answer
      unfolding row_onto
      onto_shut e = refusal_told (simp (onto_file, file, e, require_true, done_then, require_false, refused_then))

      -- none of these
      pub onto_done : writable ≡ true → outcome (Ok (cond same Itself (Onto row target))) ≡ onto_answer
      unfolding row_onto
      onto_done e = passing_told (simp (onto_file, file, e, require_true, done_then))

module _ (writable inside : Bool) (deep row : ℕ) where
  abbrev into_answer : Result Move
  into_answer = row_into writable inside deep row

  -- 5
  pub into_shut : writable ≡ false → outcome (Err Access) ≡ into_answer
  unfolding row_into
  into_shut e = refusal_told (rw (e, require_false, refused_then))

  module _ (may : writable ≡ true) where
    -- 11
    pub into_within : inside ≡ true → outcome (Err IntoItself) ≡ into_answer
    unfolding row_into
    into_within e = refusal_told (rw (may, require_true, done_then, e, require_false, refused_then))

    module _ (outside : inside ≡ false) where
      -- 19
      pub into_deep : 6 < deep → outcome (Err TooDeep) ≡ into_answer
      unfolding row_into most_names
      into_deep i = refusal_told (rw (may, require_true, done_then, outside, require_true, done_then, lt-leb deep 6 i, require_false, refused_then))

      -- none of these
      pub into_done : deep ≤ 6 → outcome (Ok (Into row)) ≡ into_answer
      unfolding row_into most_names
      into_done i = passing_told (rw (may, require_true, done_then, outside, require_true, done_then, le-leb deep 6 i, require_true, done_then))

-- ---- the checks of `mv`

module _ (t : Place Node) (p q : Path) where
  -- the answer to the checks of `mv`
  pub answer_refused : {w : Result (Place Node × Option (Place Node))} {k : Cause} → w ≡ refused k → outcome (Err k) ≡ move_from t p q w
  answer_refused e = refusal_told (rw (e, refused_bind))

  abbrev pub Told : code.Result Move Cause → Result (Place Node × Option (Place Node)) → Type 0
  Told r w = outcome r ≡ move_from t p q w

  -- by the answer they are refused
  pub told_refused : (w : Result (Place Node × Option (Place Node))) {k : Cause} → Told (Err k) w → w ≡ refused k
  told_refused w {k} e = refused_before w (λ m. move_to t p q m.1) (sym e ∙ outcome_err k)

  -- or they are not
  not_told : {P : Type 0} (m : Move) (why : Cause) → Told (Ok m) (refused why) → P
  not_told {P} m why e = not_done (sym (refused_bind why (λ x. done (move_to t p q x.1))) ∙ sym e ∙ outcome_ok m)

  told_done : (d : Place Node) (o : Option (Place Node)) (m : Move) → Told (Ok m) (done (d, o)) → m ≡ move_to t p q o
  told_done d o m e = let i : done m ≡ done (move_to t p q o) = sym (outcome_ok m) ∙ e ∙ rw done_bind in cc

  -- and then nothing stands there
  told_into : (w : Result (Place Node × Option (Place Node))) {row : ℕ} → Told (Ok (Into row)) w → (d : Place Node) × (w ≡ done (d, none)) × (row ≡ index_of t p)
  unfolding move_to
  told_into (refused why) e = not_told _ why e
  told_into (done (d, none)) {row} e = let i : Into row ≡ Into (index_of t p) = told_done d none _ e in (d, refl, cc)
  told_into (done (d, some g)) {row} e = case (same_path p q)
      (λ s. let i : Into row ≡ Itself = told_done d (some g) _ e ∙ rw s in contra {b = true} refl (cc))
      (λ s. let i : Into row ≡ Onto (index_of t p) (index_of t q) = told_done d (some g) _ e ∙ rw s in contra {b = true} refl (cc))

  -- or another file stands there
  told_onto : (w : Result (Place Node × Option (Place Node))) {row target : ℕ} → Told (Ok (Onto row target)) w
      → (d : Place Node) × (g : Place Node) × (w ≡ done (d, some g)) × (same_path p q ≡ false) × ((row ≡ index_of t p) × (target ≡ index_of t q))
  unfolding move_to
  told_onto (refused why) e = not_told _ why e
  told_onto (done (d, none)) {row} {target} e = let i : Onto row target ≡ Into (index_of t p) = told_done d none _ e in contra {b = true} refl (cc)
  told_onto (done (d, some g)) {row} {target} e = case (same_path p q)
      (λ s. let i : Onto row target ≡ Itself = told_done d (some g) _ e ∙ rw s in contra {b = true} refl (cc))
      (λ s. let i : Onto row target ≡ Onto (index_of t p) (index_of t q) = told_done d (some g) _ e ∙ rw s in (d, g, refl, s, (cc, cc)))

  -- or the file itself
  pub told_itself : (w : Result (Place Node × Option (Place Node))) → Told (Ok Itself) w → (d : Place Node) × (g : Place Node) × (w ≡ done (d, some g)) × (same_path p q ≡ true)
  unfolding move_to
  told_itself (refused why) e = not_told _ why e
  told_itself (done (d, none)) e = let i : Itself ≡ Into (index_of t p) = told_done d none _ e in contra {b = true} refl (cc)
  told_itself (done (d, some g)) e = case (same_path p q)
      (λ s. (d, g, refl, s))
      (λ s. let i : Itself ≡ Onto (index_of t p) (index_of t q) = told_done d (some g) _ e ∙ rw s in contra {b = true} refl (cc))

-- and the rows in the answer are those of the places
module _ {b : List ℕ} {t : Place Node} (tree : Encodes b t) (a : Account) (p q : Path) where
  pub found_into : {row : ℕ} → Told t p q (Ok (Into row)) (may_move a t p q) → (d : Place Node) × (may_move a t p q ≡ done (d, none)) × At b t p row d
  found_into e =
      let i = told_into t p q (may_move a t p q) e in
      let m = moving_passed a t p q i.1 in
      (i.0, i.1, record { tree = tree; there = walked_at t (by_modes a) p i.0 m.led; row = i.2 })

  pub found_onto : {row target : ℕ} → Told t p q (Ok (Onto row target)) (may_move a t p q)
      → (d : Place Node) × (g : Place Node) × (may_move a t p q ≡ done (d, some g)) × (same_path p q ≡ false) × (At b t p row d × At b t q target g)
  found_onto e =
      let i = told_onto t p q (may_move a t p q) e in
      let m = moving_passed a t p q i.2 in
      let there = place_at_last t q m.directory m.target_below_top (walked_at t (by_modes a) (parent q) m.directory m.there) ∙ m.found in (
        i.0,
        i.1,
        i.2,
        i.3,
        (record { tree = tree; there = walked_at t (by_modes a) p i.0 m.led; row = i.4.0 }, record { tree = tree; there = there; row = i.4.1 }),
      )
