-- The loop over the rows below a directory: what is left of the files, committed from the store as it is now, gives the whole.
--
-- In order:
--   what is answered at a row: count-refused to directory-refused;
--   what row is at hand where files are still to be met: Turn, turn-of, none_left;
--   commits one after another: passed_over, one_more;
--   the step in a session: row_in to step-done;
--   what holds at each turn: Going; at the first: begins; the row at hand: turn-place; at the last: comes-to-all; one more: goes_on, rises.
use Rattle.std.specs.Prelude.{◌≡◌, refl, length, Ok, Err}
use Rattle.std.specs.Prelude as code
use Rattle.std.proofs.Math.Path.{sym, ap}
use Rattle.std.proofs.Common.{◌∙◌, arith}
use mathlib.Core.List.{List, [], ◌∷◌}
use Rattle.std.proofs.Math.Bool.{true, false}
use Prim.Native.Nat.{ℕ, suc, ◌+◌, ◌≤◌, ◌<◌}
use Rattle.buffers.specs.Cases.{case}
use Rattle.accounts.specs.declared.Account.{Account}
use Rattle.accounts.specs.declared.Caller.{Caller}
use Rattle.syntax.specs.Path.{Path}
use Rattle.setup.specs.Setup.{Setup}
use Rattle.tree.specs.declared.Cause.{Cause}
use Rattle.tree.specs.declared.Cause.TheVariants.{WrongKind}
use Rattle.tree.specs.Result.{Result, outcome, refused, done, Outcome}
use Rattle.tree.proofs.ResultLaws.{outcome_ok, outcome_err, not_done, by_result, bind_done, refused_before, done_bind, refused_bind, refused_then, require_false}
use Rattle.tree.proofs.GivesLaws.{done_with}
use Rattle.tree.specs.Forest.{Place, size}
use Rattle.tree.specs.Node.{Node, is_directory}
use Rattle.tree.specs.Walk.{Judge, by_modes, walk}
use Rattle.tree.proofs.PlaceLaws.{empty_size}
use Rattle.tree.proofs.UpdateLaws.{walked_at}
use Rattle.tree.proofs.WellFormedLaws.{place_parts, walked_place}
use Rattle.tree.proofs.JudgeLaws.{kind_by_modes}
use Rattle.tree.specs.RowPlaces.{index_of}
use Rattle.tree.specs.Files.{files_below}
use Rattle.tree.specs.FileRows.{Met, FilesFrom, no_more, a_file, into, past}
use Rattle.tree.proofs.FilesLaws.{files_from_place}
use Rattle.tree.specs.Outline.{outlines}
use Rattle.tree.proofs.OutlineLaws.{same_walk, same_index, same_size, same_kind_of, same_readable}
use Rattle.shell.specs.CommandBytes.{bytes_after}
use Rattle.store.specs.State.{Store, State, state_of, well_formed}
use Rattle.store.proofs.StateLaws.{parts}
use Rattle.machine.specs.Working.{Commits, then_commits, commit_each}
use Rattle.machine.specs.Machine.{session, commit_found, commit_file}
use Rattle.machine.specs.StoreMachine.{store}
use Rattle.machine.specs.Acting.{Acting, on_tree_steps}
use Rattle.machine.proofs.ActingLaws.{file_registry}
use Rattle.machine.specs.DirectoryCommit.{commits_below}
use Rattle.machine.proofs.DirectoryCommitLaws.{file_found}
use Rattle.machine.proofs.MachineKeepingLaws.{file_keeps}
use Rattle.machine.proofs.SingleCommitsLaws.{file_outlines}
use Rattle.stored_header.specs.Stored.{bytes_with}
use Rattle.stored_header.specs.StoredLaws.{stored_bytes, stored_formed, formed_stored}
use Rattle.entries.specs.declared.LinkRows.{LinkRows}
use Rattle.entries.specs.EntrySteps.{file_tests, link_at, commit_at, commit_steps, link_rows, link_rows_from}
use Rattle.entries.specs.EntryStepsLaws.{found_acts}
use Rattle.directory_commits.specs.declared.Step.{Step}
use Rattle.directory_commits.specs.Steps.{row_after, count_of, RowIn, PlaceIn, with_tree, StepIn, SteppedIn}
use Rattle.directory_commits.specs.Commits.{PlaceRow, DirectoryRow, CommitsBelow}

-- ---- a single commit at a row

-- what the answer says of the count
count_refused : (r : code.Result LinkRows Cause) {k : Cause} → outcome r ≡ refused k → count_of r ≡ 0
unfolding count_of
count_refused (Ok s) e = not_done (sym e ∙ outcome_ok s)
count_refused (Err k) e = refl

count_done : (r : code.Result LinkRows Cause) {l : LinkRows} → outcome r ≡ done l → count_of r ≡ 1
unfolding count_of
count_done (Ok s) e = refl
count_done (Err k) e = not_done (sym (outcome_err k) ∙ e)

module _ (person account : Account) (t : Place Node) (p : Path) (d : Place Node) where
  -- a directory is refused
  directory_refused : is_directory d.here.kind ≡ true → commit_at person account t p d ≡ refused WrongKind
  unfolding commit_at link_at file_tests
  directory_refused i = simp (i, require_false, refused_then, refused_bind)

-- ---- the rows that are left

-- what row i is, where files are met from it on
data Turn {A : Type 0} (j : Judge A) (t : Place A) (end i : ℕ) (qs : List Path) : Type 0 where
  at_file : {q : Path} {d : Place A} {rest : List Path} → Met j t i q d → is_directory (j.kind d.here) ≡ false → FilesFrom j t end (suc i) rest
      → qs ≡ q ∷ rest → Turn j t end i qs
  at_open : {q : Path} {d : Place A} → Met j t i q d → is_directory (j.kind d.here) ≡ true → j.readable d.here ≡ true → FilesFrom j t end (suc i) qs
      → Turn j t end i qs
  at_shut : {q : Path} {d : Place A} → Met j t i q d → is_directory (j.kind d.here) ≡ true → j.readable d.here ≡ false
      → FilesFrom j t end (suc i + size d.below) qs → Turn j t end i qs

turn_of : {A : Type 0} {j : Judge A} {t : Place A} {end i : ℕ} {qs : List Path} → FilesFrom j t end i qs → i < end → Turn j t end i qs
turn_of no_more h = let z : ⊥ = omega arith in absurd z
turn_of (a_file k m plain rest) h = at_file m plain rest refl
turn_of (into k m directory reads rest) h = at_open m directory reads rest
turn_of (past k m directory shut rest) h = at_shut m directory shut rest

-- at the end none is left
none_left : {A : Type 0} {j : Judge A} {t : Place A} {end i : ℕ} {qs : List Path} → FilesFrom j t end i qs → end ≤ i → qs ≡ []
none_left no_more h = refl
none_left (a_file k m plain rest) h = let z : ⊥ = omega arith in absurd z
none_left (into k m directory reads rest) h = let z : ⊥ = omega arith in absurd z
none_left (past k m directory shut rest) h = let z : ⊥ = omega arith in absurd z

-- ---- commits one after another

module _ (single : Store → Path → Result (Outcome Store)) (s : Store) (q : Path) (rest : List Path) where
  -- one that is refused is passed over
  passed_over : {k : Cause} → single s q ≡ refused k → commit_each single (q ∷ rest) s ≡ commit_each single rest s
  unfolding commit_each then_commits
  passed_over e = rw e

  -- one that is done counts, and the others follow it
  one_more : {o : Outcome Store} → single s q ≡ done o
      → ((commit_each single (q ∷ rest) s).count ≡ suc (commit_each single rest o.state).count) × ((commit_each single (q ∷ rest) s).state ≡ (commit_each single rest o.state).state)
  unfolding commit_each then_commits
  one_more e = rw e (refl, refl)

-- ---- in a session

-- the row of a place to which the caller walks, in its store
pub row_in : {b : List ℕ} {c : Caller} {account : Account} {i : ℕ} (x : PlaceRow b c account i)
    → RowIn b (state_of x.acting.setup x.acting.state) x.path i x.place
row_in {c = c} x = record {
  stored = x.stored;
  there = walked_at x.acting.state.tree (by_modes c.account) x.path x.place x.walked;
  row = x.row;
}

-- the store of another turn, whose registry is that of the first, has the session too
abbrev acting_in : {c : Caller} {account : Account} (j : Acting c account) (s : Store) → session store j.setup s c ≡ done j.role → Acting c account
acting_in j s q = record { setup = j.setup; state = s; role = j.role; session = q; served = j.served }

session_kept : {c : Caller} {account : Account} (j : Acting c account) (s : Store) → s.registry ≡ j.state.registry → session store j.setup s c ≡ done j.role
unfolding session
session_kept j s e = rw e j.session

module _ {c : Caller} {account : Account} (j : Acting c account) {b : List ℕ} {p : Path} {i : ℕ} {d : Place Node} {r : Step} {b' : List ℕ}
    (f : StepIn c.account account b (state_of j.setup j.state) p i d r b') where
  -- the commit of the file found, as the machine has it
  abbrev steps : Result (Outcome Store)
  steps = commit_found store j.setup j.state c j.role p d

  -- refused: none is counted, and the bytes stay
  pub step_refused : {k : Cause} → steps ≡ refused k → (count_of r.filed ≡ 0) × (b' ≡ b)
  unfolding on_tree_steps bytes_after
  step_refused {k} e =
      let t = j.state.tree in
      let q : commit_steps c.account account t p d ≡ refused k = sym (found_acts j p d) ∙ rw (e, refused_bind) in
      let l = refused_before (commit_at c.account account t p d) _ q in
      (count_refused r.filed {k = k} (f.links ∙ rw (l, refused_bind)), f.bytes ∙ rw q)

  -- done: one is, and they are those of the store after it
  pub step_done : {o : Outcome Store} → steps ≡ done o → (count_of r.filed ≡ 1) × (b' ≡ with_tree (state_of j.setup j.state) o.state.tree)
  unfolding on_tree_steps bytes_after
  step_done {o} e =
      let t = j.state.tree in
      let q : commit_steps c.account account t p d ≡ done (record { text = o.text; state = o.state.tree }) = sym (found_acts j p d) ∙ rw (e, done_bind) in
      let l = bind_done (commit_at c.account account t p d) _ q in
      (count_done r.filed {l = link_rows t l.0} (f.links ∙ ap (link_rows_from t) l.1 ∙ done_bind l.0 (λ y. done (link_rows t y))), f.bytes ∙ rw q)

-- ---- the loop

module _ {b₀ : List ℕ} {c : Caller} {account : Account} {row : ℕ} (x : DirectoryRow b₀ c account row) where
  abbrev u : Setup
  u = x.at.acting.setup

  abbrev first : Store
  first = x.at.acting.state

  abbrev single : Store → Path → Result (Outcome Store)
  single s p = commit_file store u s c p

  -- the commits of all files
  abbrev all : Commits Store
  all = commits_below store u c first x.at.path x.at.place

  -- The store now, with the setup, the registry and the outlines of the first, and the files from row i on: their commits from here
  -- and those counted so far are all.
  pub record Going (b : List ℕ) (end i count : ℕ) : Type 0 where
    pub now : Store
    pub formed : well_formed (state_of u now) ≡ true
    pub bytes : b ≡ bytes_with u now
    pub registry : now.registry ≡ first.registry
    pub outlined : outlines first.tree ≡ outlines now.tree
    pub left : List Path
    pub ahead : FilesFrom (by_modes c.account) first.tree end i left
    pub counts : count + (commit_each single left now).count ≡ all.count
    pub states : (commit_each single left now).state ≡ all.state
    pub few : count ≤ i

  pub begins : (end i : ℕ) → end ≡ suc (row + size x.at.place.below) → i ≡ row + 1 → Going b₀ end i 0
  begins end i e k =
      let a = files_from_place c.account first.tree x.at.stored.tree.whole x.at.path x.at.place x.at.walked x.directory x.readable in
      let n : suc (index_of first.tree x.at.path) + size x.at.place.below ≡ end = omega (arith, e, x.at.row) in
      let m : suc (index_of first.tree x.at.path) ≡ i = omega (arith, k, x.at.row) in
      record {
        now = first;
        formed = stored_formed x.at.stored;
        bytes = stored_bytes x.at.stored;
        registry = refl;
        outlined = refl;
        left = files_below (by_modes c.account) x.at.path x.at.place.below;
        ahead = rw (n, m) at a;
        counts = omega arith;
        states = refl;
        few = omega arith;
      }

  module _ {b : List ℕ} {end i count : ℕ} (g : Going b end i count) where
    abbrev state : State
    state = state_of u g.now

    abbrev acting : Acting c account
    acting = acting_in x.at.acting g.now (session_kept x.at.acting g.now g.registry)

    -- what was met at a row of the first store is there now
    record Here (q : Path) (d : Place Node) : Type 0 where
      place : Place Node
      led : walk (by_modes c.account) g.now.tree q ≡ done place
      at : RowIn b state q i place
      outlined : outlines place ≡ outlines d

    here : {q : Path} {d : Place Node} → Met (by_modes c.account) first.tree i q d → Here q d
    here {q} m =
        let w = same_walk first.tree g.now.tree g.outlined c.account q m.walked in
        record {
          place = w.0;
          led = w.1;
          at = record {
            stored = formed_stored state g.formed g.bytes;
            there = walked_at g.now.tree (by_modes c.account) q w.0 w.1;
            row = m.row ∙ same_index first.tree g.now.tree g.outlined q;
          };
          outlined = w.2;
        }

    -- the row is one of a place
    place_of : {qs : List Path} → Turn (by_modes c.account) first.tree end i qs → PlaceIn b i
    place_of (at_file {q = q} m plain rest same) = let p = here m in (state, q, p.place, p.at)
    place_of (at_open {q = q} m directory reads rest) = let p = here m in (state, q, p.place, p.at)
    place_of (at_shut {q = q} m directory shut rest) = let p = here m in (state, q, p.place, p.at)

    pub turn_place : i < end → PlaceIn b i
    turn_place h = place_of (turn_of g.ahead h)

    -- there are as many bytes
    pub same_wide : length b ≡ length b₀
    same_wide = (formed_stored state g.formed g.bytes).wide ∙ sym x.at.stored.wide

    -- at the end all are committed
    pub comes_to_all : end ≤ i → CommitsBelow x.at count b
    unfolding commit_each
    comes_to_all h =
        let z = none_left g.ahead h in
        let n = rw z at g.counts in
        let s = rw z at g.states in
        record { count = omega (arith, n); bytes = g.bytes ∙ ap (bytes_with u) s }

    -- ---- one more row

    module _ (r : Step) (b' : List ℕ) (f : SteppedIn c.account account b i r b') where
      -- the same store, from the next row on
      same_store : b' ≡ b → count_of r.filed ≡ 0 → i < r.next → FilesFrom (by_modes c.account) first.tree end r.next g.left
          → Going b' end r.next (count + count_of r.filed)
      same_store e k l rest = record {
        now = g.now;
        formed = g.formed;
        bytes = e ∙ g.bytes;
        registry = g.registry;
        outlined = g.outlined;
        left = g.left;
        ahead = rest;
        counts = omega (arith, k, g.counts);
        states = g.states;
        few = omega (arith, k, g.few);
      }

      -- a directory: nothing is committed
      at_directory : {q : Path} {d : Place Node} → Met (by_modes c.account) first.tree i q d → is_directory ((by_modes c.account).kind d.here) ≡ true
          → (next : ℕ) → row_after c.account i d ≡ next → i < next → FilesFrom (by_modes c.account) first.tree end next g.left
          → Going b' end r.next (count + count_of r.filed)
      unfolding row_after bytes_after
      at_directory {q} {d} m directory next after more rest =
          let p = here m in
          let s = f state q p.place p.at in
          let kind : is_directory p.place.here.kind ≡ true =
          ap is_directory (same_kind_of p.place d p.outlined) ∙ ap is_directory (sym (kind_by_modes c.account d.here)) ∙ directory in
          let l = directory_refused c.account account g.now.tree q p.place kind in
          let n : r.next ≡ next = s.next ∙ rw (same_readable p.place d p.outlined c.account, same_size p.place d p.outlined) after in
          same_store (s.bytes ∙ rw (l, refused_bind)) (count_refused r.filed {k = WrongKind} (s.links ∙ rw (l, refused_bind)))
          (omega (arith, n)) (rw n rest)

      -- a file: it is committed, or passed over
      at_a_file : {q : Path} {d : Place Node} {rest : List Path} → Met (by_modes c.account) first.tree i q d → is_directory ((by_modes c.account).kind d.here) ≡ false
          → FilesFrom (by_modes c.account) first.tree end (suc i) rest → g.left ≡ q ∷ rest → Going b' end r.next (count + count_of r.filed)
      unfolding row_after
      at_a_file {q} {d} {rest} m plain behind same =
          let p = here m in
          let s = f state q p.place p.at in
          let kind : is_directory p.place.here.kind ≡ false =
          ap is_directory (same_kind_of p.place d p.outlined) ∙ ap is_directory (sym (kind_by_modes c.account d.here)) ∙ plain in
          let whole = walked_place (by_modes c.account) g.now.tree q p.place (parts state g.formed).tree p.led in
          let none : size p.place.below ≡ 0 = empty_size p.place.below ((place_parts p.place whole).childless kind) in
          let n : r.next ≡ suc i = s.next ∙ case ((by_modes c.account).readable p.place.here) (λ v. rw v) (λ v. rw v (omega (arith, none))) in
          let found : single g.now q ≡ steps acting s = file_found store u c g.now q acting.session p.led in
          let counts = ap (λ (ws : List Path). count + (commit_each single ws g.now).count) (sym same) ∙ g.counts in
          let states = ap (λ (ws : List Path). (commit_each single ws g.now).state) (sym same) ∙ g.states in
          by_result (steps acting s)
          (λ k e.
          let v = step_refused acting s e in
          let over = passed_over single g.now q rest (found ∙ e) in
          record {
            now = g.now;
            formed = g.formed;
            bytes = v.1 ∙ g.bytes;
            registry = g.registry;
            outlined = g.outlined;
            left = rest;
            ahead = rw n behind;
            counts = omega (arith, v.0, ap (λ (y : Commits Store). y.count) over, counts);
            states = ap (λ (y : Commits Store). y.state) (sym over) ∙ states;
            few = omega (arith, v.0, n, g.few);
          })
          (λ o e.
          let v = step_done acting s e in
          let one = one_more single g.now q rest (found ∙ e) in
          let kept = done_with (file_registry u g.now c q) (found ∙ e) in
          record {
            now = o.state;
            formed = done_with (file_keeps u x.at.stored.header.in_range g.now g.formed c q) (found ∙ e);
            bytes = v.1 ∙ ap (λ y. bytes_with u (record { tree = o.state.tree; registry = y })) (sym kept);
            registry = kept ∙ g.registry;
            outlined = g.outlined ∙ sym (done_with (file_outlines u c g.now q) (found ∙ e));
            left = rest;
            ahead = rw n behind;
            counts = omega (arith, v.0, one.0, counts);
            states = sym one.1 ∙ states;
            few = omega (arith, v.0, n, g.few);
          })

      by_turn : Turn (by_modes c.account) first.tree end i g.left → Going b' end r.next (count + count_of r.filed)
      unfolding row_after
      by_turn (at_file m plain rest same) = at_a_file m plain rest same
      by_turn (at_open m directory reads rest) = at_directory m directory (suc i) (rw reads) (omega arith) rest
      by_turn (at_shut {d = d} m directory shut rest) = at_directory m directory (suc i + size d.below) (rw shut (omega arith)) (omega arith) rest

      pub goes_on : i < end → Going b' end r.next (count + count_of r.filed)
      goes_on h = by_turn (turn_of g.ahead h)

      -- and the row rises
      pub rises : i < end → i < r.next
      unfolding row_after
      rises h =
          let p = turn_place h in
          let s = f p.0 p.1 p.2 p.3 in
          case ((by_modes c.account).readable p.2.here)
          (λ v. let n : r.next ≡ suc i = s.next ∙ rw v in omega (arith, n))
          (λ v. let n : r.next ≡ suc (i + size p.2.below) = s.next ∙ rw v in omega (arith, n))
