-- The shared text at this instance is the abstract machine: command by command, then calls and lists of them.
use Rattle.std.specs.Prelude.{◌≡◌, List, [], ◌∷◌, leb}
use Rattle.std.proofs.Math.Path.{refl}
use Rattle.std.proofs.Math.Option.{some}
use Rattle.std.proofs.Math.Bool.{cond}
use Rattle.buffers.specs.Text.{Text}
use Rattle.accounts.specs.declared.Caller.{Caller}
use Rattle.accounts.specs.declared.Right.{Right}
use Rattle.accounts.specs.Dominance.{BoundedRole}
use Rattle.syntax.specs.Number.{decimal_text}
use Rattle.syntax.specs.Path.{Path, EntryPath}
use Rattle.commands.specs.Command.{AccountAction, login, logout, cd, EntryAction, add, co, commit, up, del, Command, shell, account, entry, line}
use Rattle.setup.specs.Setup.{Setup}
use Rattle.tree.specs.declared.Cause.TheVariants.{NoForm, Access, ShortAnswer}
use Rattle.tree.specs.Result.{done, ◌>>=◌, ◌>>◌, require, present}
use Rattle.tree.specs.Forest.{Place}
use Rattle.tree.specs.Node.{is_directory, Node}
use Rattle.tree.specs.Walk.{by_modes, walk}
use Rattle.tree.specs.Files.{files_below}
use Rattle.shell.specs.Steps.{fit}
use Rattle.shell.specs.Replies.{after}
use Rattle.shell.specs.WholePaths.{whole_command}
use Rattle.store.specs.State.{working_directory}
use Rattle.store.specs.Callers.{caller}
use Rattle.machine.specs.Working.{commit_each}
use Rattle.machine.specs.Machine.{run_login, run_logout, run_cd, session, run_add, run_co, working_file, original, commit_found, commit_file, commit_directory, run_commit, run_up, run_del, run_account, run_entry, run}
use Rattle.machine.specs.AbstractMachine.{Abstract, dominated, by_dominance, abstract_login, abstract_logout, abstract_cd, abstract_session, abstract_add, abstract_co, abstract_working, abstract_original, abstract_commit_found, abstract_commit_file, abstract_commit_directory, abstract_commit, abstract_up, abstract_del, abstract_account, abstract_entry, abstract_run, abstract_step, abstract_runs}
use Rattle.machine.specs.AbstractInstance.{abstract}
use Rattle.machine.specs.Runs.{Call, least_room, perform, step, runs}

module _ (u : Setup) (h : Abstract) (c : Caller) where
  login_is : (z : BoundedRole) (password : Text) → run_login abstract u h c z password ≡ abstract_login u h c z password
  unfolding run_login abstract_login
  login_is z password = refl

  logout_is : run_logout abstract u h c ≡ abstract_logout u h c
  unfolding run_logout abstract_logout
  logout_is = refl

  cd_is : (p : Path) → run_cd abstract u h c p ≡ abstract_cd u h c p
  unfolding run_cd abstract_cd
  cd_is p = refl

  session_is : session abstract u h c ≡ abstract_session u h c
  unfolding session abstract_session
  session_is = refl

  add_is : (w : Path) (e : EntryPath) (r : BoundedRole) → run_add abstract u h c w e r ≡ abstract_add u h c w e r
  unfolding run_add abstract_add session abstract_session by_dominance dominated fit
  add_is w e r = refl

  co_is : (e : EntryPath) (d : Path) → run_co abstract u h c e d ≡ abstract_co u h c e d
  unfolding run_co abstract_co session abstract_session by_dominance fit
  co_is e d = refl

  working_is : (right : Right) (found : Place Node) → working_file abstract u h c right found ≡ abstract_working u h c right found
  unfolding working_file abstract_working
  working_is right found = refl

  original_is : (z : BoundedRole) (e : EntryPath) → original abstract u h c z e ≡ abstract_original u h c z e
  unfolding original abstract_original by_dominance
  original_is z e = refl

  found_is : (z : BoundedRole) (w : Path) (found : Place Node) → commit_found abstract u h c z w found ≡ abstract_commit_found u h c z w found
  unfolding commit_found abstract_commit_found working_file abstract_working original abstract_original by_dominance
  found_is z w found = refl

  file_is : (w : Path) → commit_file abstract u h c w ≡ abstract_commit_file u h c w
  unfolding commit_file abstract_commit_file session abstract_session
  file_is w = λ i. do
    z ← abstract_session u h c
    found ← walk (by_modes c.account) h.workspace w
    found_is z w found i

  up_is : (w : Path) → run_up abstract u h c w ≡ abstract_up u h c w
  unfolding run_up abstract_up session abstract_session working_file abstract_working original abstract_original by_dominance
  up_is w = refl

  del_is : (e : EntryPath) → run_del abstract u h c e ≡ abstract_del u h c e
  unfolding run_del abstract_del session abstract_session by_dominance
  del_is e = refl

  account_is : (command : AccountAction) → run_account abstract u h c command ≡ abstract_account u h c command
  unfolding run_account abstract_account
  account_is (login z password) = login_is z password
  account_is logout = logout_is
  account_is (cd p) = cd_is p

module _ (u : Setup) (h : Abstract) (c : Caller) where
  -- the commits of a directory's files, in whatever states
  directory_is : (w : Path) (found : Place Node) → commit_directory abstract u h c w found ≡ abstract_commit_directory u h c w found
  unfolding commit_directory abstract_commit_directory
  directory_is w found = λ i. do
    require ((by_modes c.account).readable found.here) Access
    let r = commit_each (λ t p. file_is u t c p i) (files_below (by_modes c.account) w found.below) h
    done (record { text = some (decimal_text r.count); state = r.state })

  commit_is : (w : Path) → run_commit abstract u h c w ≡ abstract_commit u h c w
  unfolding run_commit abstract_commit session abstract_session
  commit_is w = λ i. do
    z ← abstract_session u h c
    found ← walk (by_modes c.account) h.workspace w
    cond (is_directory found.here.kind) (directory_is w found i) (found_is u h c z w found i)

  entry_is : (command : EntryAction) → run_entry abstract u h c command ≡ abstract_entry u h c command
  unfolding run_entry abstract_entry
  entry_is (add w e r) = add_is u h c w e r
  entry_is (co e d) = co_is u h c e d
  entry_is (commit w) = commit_is w
  entry_is (up w) = up_is u h c w
  entry_is (del e) = del_is u h c e

  pub run_is : (command : Command) → run abstract u h c command ≡ abstract_run u h c command
  unfolding run abstract_run
  run_is (shell command) = refl
  run_is (account command) = account_is u h c command
  run_is (entry command) = entry_is command

pub step_is : (u : Setup) (h : Abstract) (call : Call) → step abstract u h call ≡ abstract_step u h call
unfolding step perform abstract_step
step_is u h call = λ i. do
  require (leb least_room call.room) ShortAnswer
  l ← present (line call.line) NoForm
  c ← caller u l.caller
  command ← whole_command (working_directory l.caller h.registry) l.command
  run_is u h c command i

pub runs_are : (u : Setup) (h : Abstract) (calls : List Call) → runs abstract u h calls ≡ abstract_runs u h calls
unfolding runs abstract_runs
runs_are u h [] = refl
runs_are u h (call ∷ calls) = rw (step_is u h call, runs_are u (after h (abstract_step u h call)) calls)
