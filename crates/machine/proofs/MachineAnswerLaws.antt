-- What every command answers, on any machine: a cause of its own, or no text but that of a place of the workspace or a
-- number of nodes below one. So on a well-formed store every text fits, 18 comes from no step, and 20 only where the answer buffer is too short.
use Rattle.std.proofs.Math.Path.{◌≡◌, refl}
use Rattle.std.proofs.Math.Option.{Option, none, some}
use Rattle.std.specs.Prelude.{true, ℕ, ◌≤◌, ◌<◌, leb, get_or}
use Rattle.std.proofs.Common.{arith, leb-false}
use Rattle.buffers.specs.Cases.{case, contra}
use Rattle.buffers.specs.Text.{Text}
use Rattle.accounts.specs.declared.Caller.{Caller}
use Rattle.accounts.specs.declared.Uid.{Uid}
use Rattle.accounts.specs.declared.Right.{Right}
use Rattle.accounts.specs.declared.Right.TheVariants.{R, W}
use Rattle.accounts.specs.Access.{is_root}
use Rattle.accounts.specs.Dominance.{BoundedRole}
use Rattle.syntax.specs.Number.{decimal_text}
use Rattle.syntax.proofs.NumberLaws.{decimal_length}
use Rattle.syntax.proofs.FormLaws.{answered}
use Rattle.syntax.specs.Path.{Path, EntryPath, below_rep}
use Rattle.commands.specs.Command.{line, AccountAction, login, logout, cd, EntryAction, add, co, commit, up, del, Command, shell, account, entry}
use Rattle.setup.specs.Setup.{Setup, person}
use Rattle.tree.specs.declared.Cause.{Cause}
use Rattle.tree.specs.declared.Cause.TheVariants.{NoForm, UnknownCaller, Access, WrongKind, NotEmpty, Reserved, Full, NoSession, NoGrant, Stale, Untagged, RevisionsSpent, Unsound, TooDeep, ShortAnswer}
use Rattle.tree.specs.Result.{Result, refused, done, Outcome}
use Rattle.tree.proofs.ResultLaws.{done_then, refused_then, require_true, require_false}
use Rattle.tree.specs.Outcomes.{Gives, gives, Refuses}
use Rattle.tree.proofs.GivesLaws.{refused_by, done_with, only_refuses, present_refuses, then_step, then_check, then_guard}
use Rattle.tree.specs.Forest.{Place, place_at, size}
use Rattle.tree.specs.Node.{Node, is_directory}
use Rattle.tree.specs.Walk.{by_modes, walk, parent_walk}
use Rattle.tree.proofs.WalkRefusalLaws.{unused_refuses, walk_refuses, parent_walk_refuses}
use Rattle.tree.specs.WellFormed.{is_tree}
use Rattle.tree.proofs.SizeLaws.{tree_place}
use Rattle.tree.proofs.UpdateLaws.{walked_at}
use Rattle.tree.specs.Files.{files_below}
use Rattle.tree.proofs.FilesLaws.{files_count}
use Rattle.shell.specs.Steps.{text_of, longest_text}
use Rattle.shell.specs.Answers.{Own, TextFits}
use Rattle.shell.proofs.ShellAnswerLaws.{none_fits, room_refuses, run_shell_answers, place_text_fits}
use Rattle.shell.proofs.WholePathsLaws.{whole_refuses}
use Rattle.store.specs.State.{working_directory, Store}
use Rattle.store.specs.Callers.{known_caller, caller}
use Rattle.machine.specs.Working.{commit_each}
use Rattle.machine.specs.Machine.{Machine, run_login, run_logout, run_cd, session, run_add, run_co, working_file, original, commit_found, commit_file, commit_directory, run_commit, run_up, run_del, run_account, run_entry, run}
use Rattle.machine.proofs.DirectoryCommitLaws.{each_counts}
use Rattle.machine.specs.StoreMachine.{store}
use Rattle.machine.specs.Runs.{Call, least_room, perform, step}
use Rattle.machine.proofs.RunsLaws.{least_room_is}

-- who calls is known, or refused by the command's own 2
caller_refuses : (setup : Setup) (uid : Uid) → Refuses Own (caller setup uid)
unfolding caller known_caller
caller_refuses setup uid = case (is_root uid)
    (λ t. rw t (gives refl))
    (λ t. rw t (only_refuses {P = λ c. Unit {0}} (then_step (present_refuses UnknownCaller refl (person setup uid)) λ who _. gives tt)))

module _ {S A : Type 0} (M : Machine S A) (setup : Setup) (s : S) where
  account_walks : (z : BoundedRole) (p : Path) → Refuses Own (walk (M.judge setup z) (M.entries s) (M.locate p))
  account_walks z p = walk_refuses refl refl refl (M.judge setup z) (M.entries s) (M.locate p)

  account_parent_walks : (z : BoundedRole) (p : Path) → Refuses Own (parent_walk (M.judge setup z) (M.entries s) (M.locate p))
  account_parent_walks z p = parent_walk_refuses refl refl refl (M.judge setup z) (M.entries s) (M.locate p)

  module _ (c : Caller) where
    walks : (p : Path) → Refuses Own (walk (by_modes c.account) (M.workspace s) p)
    walks p = walk_refuses refl refl refl (by_modes c.account) (M.workspace s) p

    session_refuses : Refuses Own (session M setup s c)
    unfolding session
    session_refuses = present_refuses NoSession refl (get_or (M.registry s).sessions c.account.uid.0 none)

    working_refuses : (right : Right) (found : Place Node) → Refuses Own (working_file M setup s c right found)
    unfolding working_file
    working_refuses right found = only_refuses {P = λ k. Unit {0}} (
        then_check WrongKind refl _ λ _.
        then_check Access refl _ λ _.
        then_step (present_refuses Untagged refl found.here.tag) λ tag _.
        gives tt)

    original_refuses : (z : BoundedRole) (e : EntryPath) → Refuses Own (original M setup s c z e)
    unfolding original
    original_refuses z e = only_refuses {P = λ d. Unit {0}} (
        then_step (account_walks z (below_rep e)) λ filed _.
        then_check WrongKind refl _ λ _.
        then_check Access refl _ λ _.
        gives tt)

  module _ (T : Option Text → Type 0) (empty : T none) (full : (p : Path) (d : Place Node) → place_at (M.workspace s) p ≡ some d → T (some (text_of d)))
      (number : (p : Path) (d : Place Node) → place_at (M.workspace s) p ≡ some d → (n : ℕ) → n ≤ size d.below → T (some (decimal_text n))) where
    abbrev Answers : Result (Outcome S) → Type 0
    Answers r = Gives Own (λ o. T o.text) r

    module _ (c : Caller) where
      cd_answers : (p : Path) → Answers (run_cd M setup s c p)
      unfolding run_cd
      cd_answers p =
          then_step (walks c p) λ d _.
          then_check WrongKind refl _ λ _.
          then_check Access refl _ λ _.
          gives empty

      login_answers : (z : BoundedRole) (password : Text) → Answers (run_login M setup s c z password)
      unfolding run_login
      login_answers z password = then_check NoGrant refl _ λ _. gives empty

      logout_answers : Answers (run_logout M setup s c)
      unfolding run_logout
      logout_answers = gives empty

      add_answers : (w : Path) (e : EntryPath) (r : BoundedRole) → Answers (run_add M setup s c w e r)
      unfolding run_add
      add_answers w e r =
          then_step (session_refuses c) λ z _.
          then_step (walks c w) λ found _.
          then_check Reserved refl _ λ _.
          then_check Access refl _ λ _.
          then_check Reserved refl _ λ _.
          then_step (account_parent_walks z (below_rep e)) λ folder _.
          then_guard (unused_refuses refl e.name folder.below) λ _.
          then_check Access refl _ λ _.
          then_check Full refl _ λ _.
          gives empty

      co_answers : (e : EntryPath) (d : Path) → Answers (run_co M setup s c e d)
      unfolding run_co
      co_answers e d =
          then_step (session_refuses c) λ z _.
          then_step (room_refuses c (M.elsewhere s) (M.workspace s) d) λ directory _.
          then_step (account_walks z (below_rep e)) λ filed _.
          then_check Access refl _ λ _.
          then_check TooDeep refl _ λ _.
          then_check Full refl _ λ _.
          gives empty

      found_answers : (z : BoundedRole) (w : Path) (found : Place Node) → Answers (commit_found M setup s c z w found)
      unfolding commit_found
      found_answers z w found =
          then_step (working_refuses c R found) λ file _.
          then_step (original_refuses c z file.tag.path) λ filed _.
          then_step (account_walks z file.tag.path.folder) λ folder _.
          then_check Access refl _ λ _.
          then_check Stale refl _ λ _.
          then_check RevisionsSpent refl _ λ _.
          gives empty

      commit_answers : (w : Path) → Answers (run_commit M setup s c w)
      unfolding run_commit commit_directory
      commit_answers w =
          then_step (session_refuses c) λ z _.
          then_step (walks c w) λ found led.
          case (is_directory found.here.kind)
          (λ i. rw i (
          then_check Access refl _ λ _.
          let ws = files_below (by_modes c.account) w found.below in
          let single : S → Path → Result (Outcome S) = λ t p. commit_file M setup t c p in
          gives (number w found (walked_at (M.workspace s) (by_modes c.account) w found led) (commit_each single ws s).count
          (omega (arith, each_counts single ws s, files_count (by_modes c.account) w found.below)))))
          (λ i. rw i (found_answers z w found))

      up_answers : (w : Path) → Answers (run_up M setup s c w)
      unfolding run_up
      up_answers w =
          then_step (session_refuses c) λ z _.
          then_step (walks c w) λ found _.
          then_step (working_refuses c W found) λ file _.
          then_step (original_refuses c z file.tag.path) λ filed _.
          gives empty

      del_answers : (e : EntryPath) → Answers (run_del M setup s c e)
      unfolding run_del
      del_answers e =
          then_step (session_refuses c) λ z _.
          then_step (account_walks z (below_rep e)) λ filed _.
          then_check Access refl _ λ _.
          then_step (account_walks z e.folder) λ folder _.
          then_check Access refl _ λ _.
          then_check NotEmpty refl _ λ _.
          gives empty

      account_answers : (command : AccountAction) → Answers (run_account M setup s c command)
      unfolding run_account
      account_answers (login z password) = login_answers z password
      account_answers logout = logout_answers
      account_answers (cd p) = cd_answers p

      entry_answers : (command : EntryAction) → Answers (run_entry M setup s c command)
      unfolding run_entry
      entry_answers (add w e r) = add_answers w e r
      entry_answers (co e d) = co_answers e d
      entry_answers (commit w) = commit_answers w
      entry_answers (up w) = up_answers w
      entry_answers (del e) = del_answers e

      -- a command is refused by a cause of its own, or its text is none, that of a place of the workspace, or a number of nodes below one
      run_gives : (command : Command) → Gives Own (λ o. T o.text) (run M setup s c command)
      unfolding run
      run_gives (shell command) = then_step (run_shell_answers c (M.elsewhere s) (M.workspace s) T empty full command) λ o h. gives h
      run_gives (account command) = account_answers command
      run_gives (entry command) = entry_answers command

    -- and so is a line of any bytes
    perform_gives : (text : Text) → Gives Own (λ o. T o.text) (perform M setup s text)
    unfolding perform
    perform_gives text =
        then_step (present_refuses NoForm refl (line text)) λ l _.
        then_step (caller_refuses setup l.caller) λ c _.
        then_step (whole_refuses Own refl (working_directory l.caller (M.registry s)) l.command) λ command _.
        run_gives c command

  -- where the answer buffer is long enough, a step is refused by a command's own cause
  step_own : (call : Call) (why : Cause) → leb least_room call.room ≡ true → step M setup s call ≡ refused why → Own why
  unfolding step
  step_own call why h e =
      refused_by (perform_gives (λ o. Unit {0}) tt (λ p d i. tt) (λ p d i n h. tt) call.line) (rw (h, require_true, done_then) at e)

-- a number of nodes that lie below a place has at most three digits
number_fits : (t : Place Node) → is_tree t ≡ true → (p : Path) (d : Place Node) → place_at t p ≡ some d → (n : ℕ) → n ≤ size d.below → TextFits (some (decimal_text n))
unfolding longest_text
number_fits t h p d e n l x i = rw (answered i) (omega (arith, decimal_length 2 n (omega (arith, (tree_place t p d h e).1))))

-- the text of a done line fits, on a well-formed store
pub perform_fits : (setup : Setup) (s : Store) → is_tree s.tree ≡ true → (text : Text) (o : Outcome Store)
    → perform store setup s text ≡ done o → TextFits o.text
perform_fits setup s h text o e = done_with (perform_gives store setup s TextFits none_fits (place_text_fits s.tree h) (number_fits s.tree h) text) e

module _ {S A : Type 0} (M : Machine S A) (setup : Setup) (s : S) (call : Call) where
  -- no step is refused 18
  pub never_18 : step M setup s call ≡ refused Unsound → ⊥
  unfolding step
  never_18 e = case (leb least_room call.room)
      (λ h. contra (step_own M setup s call Unsound h e) refl)
      (λ h. let i : ◌≡◌ {A = Result (Outcome S)} (refused ShortAnswer) (refused Unsound) = rw (h, require_false, refused_then) at e in contra {b = true} refl (cc))

  -- a step is refused 20 only where the answer buffer is too short
  pub short_is_20 : step M setup s call ≡ refused ShortAnswer → call.room < 4096
  short_is_20 e = case (leb least_room call.room)
      (λ h. contra (step_own M setup s call ShortAnswer h e) refl)
      (λ h. leb-false 4096 call.room (rw least_room_is at h))
