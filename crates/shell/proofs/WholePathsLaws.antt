-- The joining of paths is refused only as too deep, and a whole command has every value in range where the typed one and the working
-- directory have.
use Rattle.std.specs.Prelude.{◌≡◌, refl, Bool, true, false, ◌&&◌, ◌+◌, leb}
use Rattle.buffers.specs.Cases.{and_both}
use Rattle.syntax.proofs.FormLaws.{both}
use Rattle.syntax.specs.Path.{Path, depth, most_names, is_path, is_entry_path, TypedPath, whole, short, is_typed_path}
use Rattle.syntax.proofs.FollowsLaws.{follows_is_path}
use Rattle.commands.specs.Command.{ShellForm, create, mkdir, read, write, rm, rmdir, mv, chmod, chgrp, chown, AccountForm, login, logout, cd}
use Rattle.commands.specs.Command.{EntryForm, add, co, commit, up, del, CommandForm, shell, account, entry, Command, TypedCommand}
use Rattle.commands.specs.Command.{is_shell_form, is_account_form, is_entry_form, is_command_form, is_command, is_typed_command}
use Rattle.tree.specs.declared.Cause.{Cause}
use Rattle.tree.specs.declared.Cause.TheVariants.{TooDeep}
use Rattle.tree.specs.Result.{Result, refused, done}
use Rattle.tree.specs.Outcomes.{Gives, gives, Refuses}
use Rattle.tree.proofs.GivesLaws.{refused_by, done_with, only_refuses, weaker, then_step, then_check}
use Rattle.shell.specs.WholePaths.{shell_paths, account_paths, entry_paths, command_paths, meant_path, whole_command}

-- a conjunction whose parts each lead to another's leads to that
each_kept : {a b c d : Bool} → (a ≡ true → c ≡ true) → (b ≡ true → d ≡ true) → (a && b) ≡ true → (c && d) ≡ true
each_kept {a} {b} h k e = let i = and_both a b e in both (h i.0) (k i.1)

-- where each path is refused by R, or done with one that passes if it did, so is a command
module _ {P Q : Type 0} (f : P → Result Q) (R : Cause → Type 0) (ok : P → Bool) (fit : Q → Bool) (path_gives : (p : P) → Gives R (λ q. ok p ≡ true → fit q ≡ true) (f p)) where
  shell_gives : (c : ShellForm P) → Gives R (λ d. is_shell_form ok c ≡ true → is_shell_form fit d ≡ true) (shell_paths f c)
  unfolding shell_paths is_shell_form
  shell_gives (create p m) = then_step (path_gives p) λ q h. gives (each_kept h λ i. i)
  shell_gives (mkdir p m) = then_step (path_gives p) λ q h. gives (each_kept h λ i. i)
  shell_gives (read p) = then_step (path_gives p) λ q h. gives h
  shell_gives (write p c) = then_step (path_gives p) λ q h. gives (each_kept h λ i. i)
  shell_gives (rm p) = then_step (path_gives p) λ q h. gives h
  shell_gives (rmdir p) = then_step (path_gives p) λ q h. gives h
  shell_gives (mv a b) = then_step (path_gives a) λ p h. then_step (path_gives b) λ q k. gives (each_kept h k)
  shell_gives (chmod p m) = then_step (path_gives p) λ q h. gives (each_kept h λ i. i)
  shell_gives (chgrp p g) = then_step (path_gives p) λ q h. gives (each_kept h λ i. i)
  shell_gives (chown p u) = then_step (path_gives p) λ q h. gives (each_kept h λ i. i)

  account_gives : (c : AccountForm P) → Gives R (λ d. is_account_form ok c ≡ true → is_account_form fit d ≡ true) (account_paths f c)
  unfolding account_paths is_account_form
  account_gives (login r w) = gives λ i. i
  account_gives logout = gives λ i. i
  account_gives (cd p) = then_step (path_gives p) λ q h. gives h

  entry_gives : (c : EntryForm P) → Gives R (λ d. is_entry_form ok c ≡ true → is_entry_form fit d ≡ true) (entry_paths f c)
  unfolding entry_paths is_entry_form
  entry_gives (add w e r) = then_step (path_gives w) λ q h. gives (each_kept h λ i. i)
  entry_gives (co e d) = then_step (path_gives d) λ q h. gives (each_kept {a = is_entry_path e} (λ i. i) h)
  entry_gives (commit w) = then_step (path_gives w) λ q h. gives h
  entry_gives (up w) = then_step (path_gives w) λ q h. gives h
  entry_gives (del e) = gives λ i. i

  command_gives : (c : CommandForm P) → Gives R (λ d. is_command_form ok c ≡ true → is_command_form fit d ≡ true) (command_paths f c)
  unfolding command_paths is_command_form
  command_gives (shell c) = then_step (shell_gives c) λ d h. gives h
  command_gives (account c) = then_step (account_gives c) λ d h. gives h
  command_gives (entry c) = then_step (entry_gives c) λ d h. gives h

-- the path that is meant is refused only as too deep, and is a path where the directory and the typed path are
meant_gives : (R : Cause → Type 0) → R TooDeep → (q : Path) (p : TypedPath) → Gives R (λ r. is_typed_path p ≡ true → is_path q ≡ true → is_path r ≡ true) (meant_path q p)
unfolding meant_path is_typed_path
meant_gives R deep q (whole p) = gives λ i v. i
meant_gives R deep q (short p) = then_check TooDeep deep (leb (depth q + depth p) most_names) λ few. gives λ i v. follows_is_path q p v i few

-- and so is a whole command
pub whole_refuses : (R : Cause → Type 0) → R TooDeep → (q : Path) (k : TypedCommand) → Refuses R (whole_command q k)
unfolding whole_command
whole_refuses R deep q k = only_refuses (command_gives (meant_path q) R (λ p. false) (λ r. true) (λ p. weaker (λ r h i. refl) (meant_gives R deep q p)) k)

pub whole_only_too_deep : (q : Path) (k : TypedCommand) {why : Cause} → whole_command q k ≡ refused why → why ≡ TooDeep
whole_only_too_deep q k e = refused_by (whole_refuses (λ why. why ≡ TooDeep) refl q k) e

pub whole_in_range : (q : Path) (k : TypedCommand) {l : Command} → whole_command q k ≡ done l → is_path q ≡ true → is_typed_command k ≡ true → is_command l ≡ true
unfolding whole_command is_command is_typed_command
whole_in_range q k e v h =
    done_with (command_gives (meant_path q) (λ why. Unit {0}) is_typed_path is_path (λ p. weaker (λ r g i. g i v) (meant_gives (λ why. Unit {0}) tt q p)) k) e h
