-- `commit` in a session: what was found at the path decides which steps are left, and what the code answers for them.
--
-- In order:
--   what the walk comes to, and what is left of the command: Finding to directory-left;
--   by the code's answer: commit-refused, file-row to directory-commits;
--   a file's answer: links-reply, file-carries;
--   a directory's: that its number fits, and stands in the answer: number_fits, directory-carries.
use Rattle.std.specs.Prelude.{◌≡◌, refl, true, false, ℕ, ◌+◌, ◌≤◌, Ok, Err, Some, IsErrAnd}
use Rattle.std.specs.Prelude as code
use Rattle.std.proofs.Math.Path.{sym, ap}
use Rattle.std.proofs.Common.{◌∙◌}
use mathlib.Core.List.{List, ◌++◌}
use Rattle.std.proofs.Math.Option.{none}
use native.Mathlib.Omega.{arith}
use Rattle.std.proofs.Math.ListN.{length, drop}
use Rattle.buffers.specs.Cases.{case}
use Rattle.buffers.specs.Over.{Wrote}
use Rattle.buffers.specs.OverLaws.{over_front}
use Rattle.accounts.specs.declared.Account.{Account}
use Rattle.accounts.specs.declared.Caller.{Caller}
use Rattle.syntax.specs.Number.{decimal_text}
use Rattle.syntax.proofs.NumberLaws.{decimal_length}
use Rattle.syntax.specs.Path.{Path}
use Rattle.tree.specs.declared.Cause.{Cause}
use Rattle.tree.specs.declared.Cause.TheVariants.{Access}
use Rattle.tree.specs.Result.{Result, outcome, refused, done, Outcome}
use Rattle.tree.proofs.ResultLaws.{outcome_ok, outcome_err, by_result, bind_done, done_bind, refused_bind, done_then, refused_then, require_true, require_false}
use Rattle.tree.proofs.GivesLaws.{done_with}
use Rattle.tree.specs.Forest.{Place}
use Rattle.tree.specs.Node.{Node, is_directory}
use Rattle.tree.specs.Walk.{by_modes, walk}
use Rattle.tree.specs.RowPlaces.{index_of}
use Rattle.tree.proofs.SizeLaws.{tree_place}
use Rattle.tree.proofs.UpdateLaws.{walked_at}
use Rattle.tree.specs.Files.{files_below}
use Rattle.tree.proofs.FilesLaws.{files_count}
use Rattle.tree.specs.declared.Refusal.TheVariants.{For}
use Rattle.shell.specs.Replies.{Answer, reply, answer_of, written}
use Rattle.shell.specs.CommandBytes.{bytes_after, Carries, CarriesSilently}
use Rattle.shell.proofs.CommandBytesLaws.{passed_follows}
use Rattle.store.specs.State.{Store, state_of}
use Rattle.machine.specs.Machine.{commit_found, commit_file, commit_directory, run_commit}
use Rattle.machine.specs.StoreMachine.{store}
use Rattle.machine.specs.Acting.{Acting, on_tree_steps}
use Rattle.machine.proofs.ActingLaws.{file_registry}
use Rattle.machine.specs.DirectoryCommit.{of_directory}
use Rattle.machine.proofs.DirectoryCommitLaws.{each_counts, file_found}
use Rattle.stored_header.specs.Stored.{Stored, bytes_with}
use Rattle.entries.specs.declared.LinkRows.{LinkRows}
use Rattle.entries.specs.EntrySteps.{Link, commit_at, after_commit, changing, commit_steps, link_rows_from, links_answer}
use Rattle.entries.specs.EntryStepsLaws.{comes_to, comes_not, found_acts}
use Rattle.entries.specs.LinkLaws.{links_to, links_not}
use Rattle.directory_commits.specs.declared.Step.{Step}
use Rattle.directory_commits.specs.declared.Found.{Found}
use Rattle.directory_commits.specs.declared.Found.TheVariants.{File, Directory}
use Rattle.directory_commits.specs.Steps.{StepIn, found_steps}
use Rattle.directory_commits.specs.Commits.{PlaceRow, DirectoryRow, CommitsBelow}
use Rattle.directory_commits.specs.BelowLaws.{step_refused, step_done}

-- ---- what was found

-- what the person's walk to w comes to, by what `found_steps` says
data Finding (a : Account) (t : Place Node) (w : Path) : Result Found → Type 0 where
  no_walk : {k : Cause} → walk (by_modes a) t w ≡ refused k → Finding a t w (refused k)
  shut : {d : Place Node} → walk (by_modes a) t w ≡ done d → is_directory d.here.kind ≡ true → (by_modes a).readable d.here ≡ false
      → Finding a t w (refused Access)
  a_file : {d : Place Node} → walk (by_modes a) t w ≡ done d → is_directory d.here.kind ≡ false → Finding a t w (done (File (index_of t w)))
  a_directory : {d : Place Node} → walk (by_modes a) t w ≡ done d → is_directory d.here.kind ≡ true → (by_modes a).readable d.here ≡ true
      → Finding a t w (done (Directory (index_of t w)))

found_what : (a : Account) (t : Place Node) (w : Path) → Finding a t w (found_steps a t w)
unfolding found_steps
found_what a t w = by_result (walk (by_modes a) t w)
    (λ k q. rw (q, refused_bind) (no_walk q))
    (λ d q. case (is_directory d.here.kind)
    (λ b. case ((by_modes a).readable d.here)
    (λ r. rw (q, done_bind, b, r, require_true, done_then) (a_directory q b r))
    (λ r. rw (q, done_bind, b, r, require_false, refused_then) (shut q b r)))
    (λ b. rw (q, done_bind, b) (a_file q b)))

-- by the code's answer
by_answer : (a : Account) (t : Place Node) (w : Path) {r : Result Found} → r ≡ found_steps a t w → Finding a t w r
by_answer a t w e = rw e (found_what a t w)

module _ {c : Caller} {account : Account} (j : Acting c account) (w : Path) where
  -- the command, on the store in which it acts
  abbrev commits : Result (Outcome Store)
  commits = run_commit store j.setup j.state c w

  refused_so : {k : Cause} → Finding c.account j.state.tree w (refused k) → commits ≡ refused k
  unfolding run_commit commit_directory
  refused_so (no_walk q) = rw (j.session, done_bind, q, refused_bind)
  refused_so (shut q b r) = rw (j.session, done_bind, q, done_bind, b, r, require_false, refused_then)

  -- row i is that of the place to which the caller walks, of which there is left to do what is given
  record Left (i : ℕ) (P : Node → Type 0) (rest : Place Node → Result (Outcome Store)) : Type 0 where
    place : Place Node
    walked : walk (by_modes c.account) j.state.tree w ≡ done place
    row : i ≡ index_of j.state.tree w
    kind : P place.here
    same : commits ≡ rest place

  abbrev LeftOfFile : ℕ → Type 0
  LeftOfFile i = Left i (λ n. is_directory n.kind ≡ false) (λ d. commit_found store j.setup j.state c j.role w d)

  abbrev LeftOfDirectory : ℕ → Type 0
  LeftOfDirectory i = Left i (λ n. (is_directory n.kind ≡ true) × ((by_modes c.account).readable n ≡ true)) (λ d. done (of_directory store j.setup c j.state w d))

  file_left : {i : ℕ} → Finding c.account j.state.tree w (done (File i)) → LeftOfFile i
  unfolding run_commit
  file_left (a_file {d = d} q b) = record { place = d; walked = q; row = refl; kind = b; same = rw (j.session, done_bind, q, done_bind, b) }

  directory_left : {i : ℕ} → Finding c.account j.state.tree w (done (Directory i)) → LeftOfDirectory i
  unfolding run_commit commit_directory
  directory_left (a_directory {d = d} q b r) =
      record { place = d; walked = q; row = refl; kind = (b, r); same = rw (j.session, done_bind, q, done_bind, b, r, require_true, done_then) }

  module _ {b : List ℕ} (h : Stored b (state_of j.setup j.state)) where
    -- its row in the store
    abbrev place_row : {i : ℕ} {P : Node → Type 0} {rest : Place Node → Result (Outcome Store)} → Left i P rest → PlaceRow b c account i
    place_row l = record { acting = j; stored = h; path = w; place = l.place; walked = l.walked; row = l.row }

    abbrev directory_row : {i : ℕ} → LeftOfDirectory i → DirectoryRow b c account i
    directory_row l = record { at = place_row l; directory = l.kind.0; readable = l.kind.1 }

-- ---- by the code's answer

module _ {c : Caller} {account : Account} {b : List ℕ} (j : Acting c account) (h : Stored b (state_of j.setup j.state)) (w : Path)
    {r : code.Result Found Cause} (e : outcome r ≡ found_steps c.account j.state.tree w) where
  pub commit_refused : {k : Cause} {x : Answer} → r ≡ Err k → IsErrAnd x (λ e. e ≡ For k) → CarriesSilently (bytes_with j.setup) (commits j w) b x b
  commit_refused {k} q passed = passed_follows b passed (refused_so j w (by_answer c.account j.state.tree w (sym (ap outcome q ∙ outcome_err k) ∙ e)))

  module _ {i : ℕ} where
    left_file : r ≡ Ok (File i) → LeftOfFile j w i
    left_file q = file_left j w (by_answer c.account j.state.tree w (sym (ap outcome q ∙ outcome_ok (File i)) ∙ e))

    left_directory : r ≡ Ok (Directory i) → LeftOfDirectory j w i
    left_directory q = directory_left j w (by_answer c.account j.state.tree w (sym (ap outcome q ∙ outcome_ok (Directory i)) ∙ e))

    -- a file's row, and what its commit answers is what the command does
    pub file_row : r ≡ Ok (File i) → PlaceRow b c account i
    file_row q = place_row j w h (left_file q)

    pub file_commits : (q : r ≡ Ok (File i)) {x : Answer} {b' : List ℕ}
        → ((y : PlaceRow b c account i) → CarriesSilently (bytes_with y.acting.setup) (commit_found store y.acting.setup y.acting.state c y.acting.role y.path y.place) b x b')
        → CarriesSilently (bytes_with j.setup) (commits j w) b x b'
    file_commits q f = rw (left_file q).same (f (place_row j w h (left_file q)))

    -- and so of a directory
    pub directory_of : r ≡ Ok (Directory i) → DirectoryRow b c account i
    directory_of q = directory_row j w h (left_directory q)

    pub directory_commits : (q : r ≡ Ok (Directory i)) {a a' : List ℕ} {x : Answer} {b' : List ℕ}
        → ((y : DirectoryRow b c account i) → Carries (bytes_with y.at.acting.setup) (done (of_directory store y.at.acting.setup c y.at.acting.state y.at.path y.at.place)) b a x b' a')
        → Carries (bytes_with j.setup) (commits j w) b a x b' a'
    directory_commits q f = rw (left_directory q).same (f (directory_row j w h (left_directory q)))

-- ---- a file

-- what is answered for links is what is replied to the steps
links_reply : (t : Place Node) (r : code.Result LinkRows Cause) (steps : Result Link) → outcome r ≡ link_rows_from t steps → links_answer r ≡ answer_of (reply (changing steps (after_commit t)))
unfolding links_answer reply answer_of
links_reply t (Ok s) steps e = rw (comes_to steps (after_commit t) (links_to t steps e refl).1)
links_reply t (Err k) steps e = rw (comes_not steps (after_commit t) (links_not t steps e refl))

module _ {c : Caller} {account : Account} {b : List ℕ} {i : ℕ} (x : PlaceRow b c account i) where
  module _ {s : Step} {b' : List ℕ} (f : StepIn c.account account b (state_of x.acting.setup x.acting.state) x.path i x.place s b') where
    abbrev steps : Result (Outcome Store)
    steps = commit_found store x.acting.setup x.acting.state c x.acting.role x.path x.place

    pub file_carries : CarriesSilently (bytes_with x.acting.setup) steps b (links_answer s.filed) b'
    unfolding on_tree_steps reply answer_of written bytes_after
    file_carries a =
        let t = x.acting.state.tree in
        let told = links_reply t s.filed (commit_at c.account account t x.path x.place) f.links in
        by_result steps
        (λ k e.
        let q : commit_steps c.account account t x.path x.place ≡ refused k = sym (found_acts x.acting x.path x.place) ∙ rw (e, refused_bind) in
        record { tells = told ∙ rw (q, e); bytes = (step_refused x.acting f e).1 ∙ rw e; text = rw e })
        (λ o e.
        let q : commit_steps c.account account t x.path x.place ≡ done (record { text = o.text; state = o.state.tree }) =
        sym (found_acts x.acting x.path x.place) ∙ rw (e, done_bind) in
        let l = bind_done (commit_at c.account account t x.path x.place) _ q in
        let same : record { text = o.text; state = o.state.tree } ≡ record { text = none; state = after_commit t l.0 } = cc l.2 in
        let silent : o.text ≡ none = ap (λ (y : Outcome (Place Node)). y.text) same in
        let kept : o.state.registry ≡ x.acting.state.registry =
        done_with (file_registry x.acting.setup x.acting.state c x.path) (file_found store x.acting.setup c x.acting.state x.path x.acting.session x.walked ∙ e) in
        record {
          tells = told ∙ rw (q, e);
          bytes = (step_done x.acting f e).1 ∙ ap (λ y. bytes_with x.acting.setup (record { tree = o.state.tree; registry = y })) (sym kept) ∙ rw e;
          text = rw (e, silent);
        })

-- ---- a directory

module _ {c : Caller} {account : Account} {b : List ℕ} {i : ℕ} (x : DirectoryRow b c account i) {n : ℕ} {b' : List ℕ} (f : CommitsBelow x.at n b') where
  -- its number has at most three digits
  pub number_fits : length (decimal_text n) ≤ 3
  number_fits =
      let t = x.at.acting.state.tree in
      let there = walked_at t (by_modes c.account) x.at.path x.at.place x.at.walked in
      let most = (tree_place t x.at.path x.at.place x.at.stored.tree.whole there).1 in
      let counts = each_counts (λ s p. commit_file store x.at.acting.setup s c p) (files_below (by_modes c.account) x.at.path x.at.place.below) x.at.acting.state in
      let files = files_count (by_modes c.account) x.at.path x.at.place.below in
      decimal_length 2 n (omega (arith, most, counts, files, f.count))

  -- and stands in the answer
  pub directory_carries : {a a' : List ℕ} {r : ℕ} → Wrote (decimal_text n) a 0 a' r
      → Carries (bytes_with x.at.acting.setup) (done (of_directory store x.at.acting.setup c x.at.acting.state x.at.path x.at.place)) b a (Ok (Some r)) b' a'
  unfolding reply answer_of written bytes_after
  directory_carries {a = a} o =
      let same = ap decimal_text f.count in
      let ends : 0 + length (decimal_text n) ≡ length (decimal_text n) = omega arith in
      record {
        tells = ap (λ (m : ℕ). Ok (Some m)) (o.ends ∙ ends ∙ ap length same);
        bytes = f.bytes;
        text = o.holds ∙ over_front (decimal_text n) a ∙ ap (λ (t : List ℕ). t ++ drop (length t) a) same;
      }
