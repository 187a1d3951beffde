-- Laws of walks over the rows, as the code goes them: into a directory, to a child, and along names.
use Rattle.std.specs.Prelude.{◌≡◌, true, false, ℕ, ◌<◌, length, take, drop, Ok, Err}
use Rattle.std.proofs.Math.Path.{refl}
use Rattle.std.proofs.Common.{sym, ◌∙◌, ap, arith, drop-cons}
use mathlib.Core.List.{List, [], ◌∷◌}
use Rattle.std.proofs.Math.Option.{some}
use Rattle.buffers.specs.Text.{Text}
use Rattle.accounts.specs.declared.Account.{Account}
use Rattle.accounts.specs.declared.Right.TheVariants.{X}
use Rattle.syntax.specs.Path.{Name}
use Rattle.syntax.specs.Parts.{last_slash, path_names}
use Rattle.syntax.proofs.FormLaws.{no_answer, answered}
use Rattle.tree.specs.declared.Kind.TheVariants.{File, Directory}
use Rattle.tree.specs.declared.Cause.{Cause}
use Rattle.tree.specs.RowScan.{Child, child_in}
use Rattle.tree.proofs.RowScanLaws.{child_in_bound}
use Rattle.tree.specs.RowAt.{row_count, row_at, all_rows}
use Rattle.walks.specs.declared.Spot.{Spot}
use Rattle.tree.specs.declared.Cause.TheVariants.{Missing, NotDirectory, Access}
use Rattle.tree.specs.Result.{Result, outcome, refused, done, ◌>>=◌, ◌>>◌, require, present}
use Rattle.tree.proofs.ResultLaws.{outcome_ok, outcome_err, not_done, present_some, bind_done, then_done}
use Rattle.tree.specs.Node.{is_directory, Node, allows}
use Rattle.tree.specs.Walk.{by_modes, enter}
use Rattle.tree.specs.Rows.{Row}
use Rattle.tree.proofs.RowAtLaws.{length_all_rows, row_in_rows}
use Rattle.walks.specs.RowWalk.{spot, top_spot, enter_first, enter_in, step_in, walk_names_in, walk_in, parent_walk_in, found_row}

-- ---- into a directory

module _ (a : Account) (b : List ℕ) (at : ℕ) (h : at < row_count b) where
  -- the first row from an index on is the one there
  enter_there : enter_first a (drop at (all_rows b)) ≡ enter (by_modes a) (row_at b at).here
  unfolding enter_first
  enter_there =
      rw (drop-cons (all_rows b) at (row_at b at) (omega (arith, length_all_rows b)))
      (ap (λ (r : Row Node). enter (by_modes a) r.here) (row_in_rows b at (row_at b at) h))

  -- a file is not entered
  pub enter_file : (row_at b at).here.kind ≡ File → enter_first a (drop at (all_rows b)) ≡ refused NotDirectory
  unfolding enter by_modes is_directory require ◌>>◌
  enter_file k = rw (enter_there, k)

  -- nor a directory without x
  pub enter_shut : (row_at b at).here.kind ≡ Directory → allows a X (row_at b at).here ≡ false → enter_first a (drop at (all_rows b)) ≡ refused Access
  unfolding enter by_modes is_directory require ◌>>◌
  enter_shut k f = rw (enter_there, k, f)

  -- one with x is
  pub enter_open : (row_at b at).here.kind ≡ Directory → allows a X (row_at b at).here ≡ true → enter_first a (drop at (all_rows b)) ≡ done tt
  unfolding enter by_modes is_directory require ◌>>◌
  enter_open k f = rw (enter_there, k, f)

-- ---- to a child

-- what is found as a row was found
row_found : (c : Child) (i : ℕ) → found_row c ≡ some i → c ≡ Ok i
unfolding found_row
row_found (Ok j) i e = ap {B = Child} Ok (sym (answered e))
row_found (Err j) i e = no_answer e

module _ (a : Account) (rs : List (Row Node)) (s : Spot) where
  module _ (n : Name) where
    -- where a directory is not entered, no name is looked up
    pub step_shut : (c : Cause) → enter_first a (drop s.row rs) ≡ refused c → step_in a rs s n ≡ refused c
    unfolding step_in ◌>>◌
    step_shut c e = rw e

    module _ (e : enter_first a (drop s.row rs) ≡ done tt) where
      -- in one that is, the child is found
      pub step_found : (i : ℕ) → child_in rs s.row n ≡ Ok i → step_in a rs s n ≡ done (spot i s.row)
      unfolding step_in ◌>>◌ ◌>>=◌ present found_row
      step_found i f = rw (e, f)

      -- or missing
      pub step_missing : (i : ℕ) → child_in rs s.row n ≡ Err i → step_in a rs s n ≡ refused Missing
      unfolding step_in ◌>>◌ ◌>>=◌ present found_row
      step_missing i f = rw (e, f)

-- ---- along names

-- a place of so many rows
pub record Within (n : ℕ) (s : Spot) : Type 0 where
  pub row_in : s.row < n
  pub above_in : s.above < n

module _ (a : Account) (rs : List (Row Node)) where
  -- a step leads from a place of the rows to another
  pub step_within : (s d : Spot) (n : Name) → s.row < length rs → step_in a rs s n ≡ done d → Within (length rs) d
  unfolding step_in
  step_within s d n h e =
      let i = then_done (enter_first a (drop s.row rs)) (present (found_row (child_in rs s.row n)) Missing >>= λ k. done (spot k s.row)) e in
      let j = bind_done (present (found_row (child_in rs s.row n)) Missing) (λ k. done (spot k s.row)) i.1 in
      let q : d ≡ spot j.0 s.row = cc j.2 in
      let c = child_in rs s.row n in
      rw q (record { row_in = child_in_bound rs s.row j.0 n h (row_found c j.0 (present_some (found_row c) Missing j.1)); above_in = h })

  -- and so does a walk
  walk_rows_within : (s d : Spot) (ns : List Name) → Within (length rs) s → walk_names_in a rs s ns ≡ done d → Within (length rs) d
  unfolding walk_names_in
  walk_rows_within s d [] w e = let q : d ≡ s = cc in rw q w
  walk_rows_within s d (n ∷ ns) w e =
      let i = bind_done (step_in a rs s n) (λ x. walk_names_in a rs x ns) e in
      walk_rows_within i.0 d ns (step_within s i.0 n w.row_in i.1) i.2

  walk_within : (t : Text) (d : Spot) → 0 < length rs → walk_in a rs t ≡ done d → Within (length rs) d
  unfolding walk_in top_spot
  walk_within t d h e = walk_rows_within (spot 0 0) d (path_names t) (record { row_in = h; above_in = h }) e

  -- the walk along no names stays
  pub walk_none : (s : Spot) → walk_names_in a rs s [] ≡ done s
  unfolding walk_names_in
  walk_none s = refl

  -- it goes on where a step is done
  pub walk_on : (s d : Spot) (n : Name) (ns : List Name) → step_in a rs s n ≡ done d → walk_names_in a rs s (n ∷ ns) ≡ walk_names_in a rs d ns
  unfolding walk_names_in ◌>>=◌
  walk_on s d n ns e = rw e

  -- and is refused where a step is
  pub walk_stops : (s : Spot) (k : Cause) (n : Name) (ns : List Name) → step_in a rs s n ≡ refused k → walk_names_in a rs s (n ∷ ns) ≡ refused k
  unfolding walk_names_in ◌>>=◌
  walk_stops s k n ns e = rw e

  -- a parent walk goes on into what the walk before the last `/` leads to
  pub parent_on : (t : Text) (slash : ℕ) (d : Spot) → slash ≡ last_slash t → walk_in a rs (take slash t) ≡ done d
      → parent_walk_in a rs t ≡ (enter_first a (drop d.row rs) >> done d)
  unfolding parent_walk_in enter_in ◌>>=◌
  parent_on t slash d e w = rw (← e, w)

  -- and is refused where that is
  pub parent_stops : (t : Text) (slash : ℕ) (k : Cause) → slash ≡ last_slash t → walk_in a rs (take slash t) ≡ refused k → parent_walk_in a rs t ≡ refused k
  unfolding parent_walk_in ◌>>=◌
  parent_stops t slash k e w = rw (← e, w)

-- ---- the code's answer

-- a walk that came to a place came to one of the rows
pub walk_came : (a : Account) (b : List ℕ) (t : Text) → 0 < row_count b → (s : Spot) → outcome (Ok s) ≡ walk_in a (all_rows b) t → Within (row_count b) s
walk_came a b t h s w =
    let q = length_all_rows b in
    rw q at (walk_within a (all_rows b) t s (omega arith) (sym w ∙ outcome_ok s))

-- ---- the same of `enter_in`

module _ (a : Account) (b : List ℕ) (at : ℕ) (h : at < row_count b) (above : ℕ) where
  -- a file is not entered
  pub in_file : (row_at b at).here.kind ≡ File → enter_in a (all_rows b) (spot at above) ≡ refused NotDirectory
  unfolding enter_in ◌>>◌
  in_file k = rw (enter_file a b at h k)

  -- nor a directory without x
  pub in_shut : (row_at b at).here.kind ≡ Directory → allows a X (row_at b at).here ≡ false → enter_in a (all_rows b) (spot at above) ≡ refused Access
  unfolding enter_in ◌>>◌
  in_shut k f = rw (enter_shut a b at h k f)

  -- one with x is
  pub in_open : (row_at b at).here.kind ≡ Directory → allows a X (row_at b at).here ≡ true → enter_in a (all_rows b) (spot at above) ≡ done (spot at above)
  unfolding enter_in ◌>>◌
  in_open k f = rw (enter_open a b at h k f)

module _ (a : Account) (rs : List (Row Node)) (s : Spot) where
  -- what was entered is the place itself
  entered_in : (d : Spot) → enter_in a rs s ≡ done d → enter_first a (drop s.row rs) ≡ done tt
  unfolding enter_in
  entered_in d e = (then_done (enter_first a (drop s.row rs)) (done s) e).0

  module _ (n : Name) where
    -- where a directory is not entered, no name is looked up
    pub step_shut_in : (c : Cause) → outcome (Err c) ≡ enter_in a rs s → outcome (Err c) ≡ step_in a rs s n
    unfolding enter_in step_in ◌>>◌
    step_shut_in c e = outcome_err c ∙ go (enter_first a (drop s.row rs)) (sym (outcome_err c) ∙ e)
      where
        go : (r : Result (Unit {0})) → refused c ≡ (r >> done s)
            → refused c ≡ (r >> (present (found_row (child_in rs s.row n)) Missing >>= λ i. done (spot i s.row)))
        go (refused k) q = cc
        go (done u) q = not_done q

    module _ (row above : ℕ) (e : outcome (Ok (spot row above)) ≡ enter_in a rs s) where
      -- in one that is, the child is found
      pub step_found_in : (i : ℕ) → Ok i ≡ child_in rs s.row n → outcome (Ok (spot i s.row)) ≡ step_in a rs s n
      step_found_in i f = outcome_ok (spot i s.row) ∙ sym (step_found a rs s n (entered_in (spot row above) (sym e ∙ outcome_ok (spot row above))) i (sym f))

      -- or missing
      pub step_missing_in : (i : ℕ) → Err i ≡ child_in rs s.row n → refused Missing ≡ step_in a rs s n
      step_missing_in i f = sym (step_missing a rs s n (entered_in (spot row above) (sym e ∙ outcome_ok (spot row above))) i (sym f))

-- a parent walk goes on into what the walk before the last `/` leads to
pub parent_on_in : (a : Account) (rs : List (Row Node)) (t : Text) (slash : ℕ) (d : Spot) → slash ≡ last_slash t → walk_in a rs (take slash t) ≡ done d → parent_walk_in a rs t ≡ enter_in a rs d
unfolding enter_in
parent_on_in a rs t slash d e w = parent_on a rs t slash d e w
