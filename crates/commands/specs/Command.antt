-- Command lines: `uid,command,arguments`, the 18 forms of documents 01 and 02.
use Rattle.std.specs.Prelude.{List, [], ◌∷◌, ◌++◌, map, Bool, true, false, ◌&&◌, ◌||◌, ℕ, ltb}
use Rattle.std.proofs.Math.Option.{Option, none, some}
use Rattle.buffers.specs.Text.{Text}
use Rattle.accounts.specs.declared.Uid.{Uid}
use Rattle.accounts.specs.declared.Gid.{Gid}
use Rattle.accounts.specs.Dominance.{BoundedRole}
use Rattle.syntax.specs.Pieces.{bytes, comma, pieces}
use Rattle.syntax.specs.Number.{is_mode}
use Rattle.syntax.specs.Form.{◌>>=◌, Form, by_form}
use Rattle.syntax.specs.Path.{Path, TypedPath, EntryPath, is_name, is_path, is_typed_path, is_entry_path, typed_path}
use Rattle.syntax.specs.Field.{uid, is_content}
use Rattle.arguments.specs.declared.ArgumentKind.{ArgumentKind}
use Rattle.arguments.specs.Kinds.{Makes, arguments_of}
use Rattle.commands.specs.declared.Word.{Word}
use Rattle.commands.specs.declared.Word.TheVariants.{Create, Mkdir, Read, Write, Rm, Rmdir, Mv, Chmod, Chgrp, Chown, Login, Logout, Cd, Add, Co, Commit, Up, Del}
use Rattle.arguments.specs.declared.ArgumentKind.TheVariants as a

-- a command of the shell, where P is what its paths are: as they are typed, or whole
pub data ShellForm (P : Type 0) : Type 0 where
  create mkdir : P → ℕ → ShellForm P
  read : P → ShellForm P
  write : P → Text → ShellForm P
  rm rmdir : P → ShellForm P
  mv : P → P → ShellForm P
  chmod : P → ℕ → ShellForm P
  chgrp : P → Gid → ShellForm P
  chown : P → Uid → ShellForm P

-- about the caller's session and working directory
pub data AccountForm (P : Type 0) : Type 0 where
  login : BoundedRole → Text → AccountForm P
  logout : AccountForm P
  cd : P → AccountForm P

-- on entries, in the caller's session; entry paths are always whole
pub data EntryForm (P : Type 0) : Type 0 where
  add : P → EntryPath → BoundedRole → EntryForm P
  co : EntryPath → P → EntryForm P
  commit up : P → EntryForm P
  del : EntryPath → EntryForm P

pub data CommandForm (P : Type 0) : Type 0 where
  shell : ShellForm P → CommandForm P
  account : AccountForm P → CommandForm P
  entry : EntryForm P → CommandForm P

-- with whole paths: what is run
abbrev pub ShellAction : Type 0
ShellAction = ShellForm Path

abbrev pub AccountAction : Type 0
AccountAction = AccountForm Path

abbrev pub EntryAction : Type 0
EntryAction = EntryForm Path

abbrev pub Command : Type 0
Command = CommandForm Path

-- with paths as they are typed: what a line says
abbrev pub TypedCommand : Type 0
TypedCommand = CommandForm TypedPath

-- whether a path of the command passes a test
unfoldable pub some_path : (Path → Bool) → ShellAction → Bool
some_path test (create p m) = test p
some_path test (mkdir p m) = test p
some_path test (read p) = test p
some_path test (write p c) = test p
some_path test (rm p) = test p
some_path test (rmdir p) = test p
some_path test (mv a b) = test a || test b
some_path test (chmod p m) = test p
some_path test (chgrp p g) = test p
some_path test (chown p u) = test p

-- whether one that is not an entry path does
unfoldable pub some_working_path : (Path → Bool) → EntryAction → Bool
some_working_path test (add w e r) = test w
some_working_path test (co e d) = test d
some_working_path test (commit w) = test w
some_working_path test (up w) = test w
some_working_path test (del e) = false

-- whether the path of `cd` does
unfoldable pub some_account_path : (Path → Bool) → AccountAction → Bool
some_account_path test (login r w) = false
some_account_path test logout = false
some_account_path test (cd p) = test p

-- whether one that the caller walks does
unfoldable pub some_walked_path : (Path → Bool) → Command → Bool
some_walked_path test (shell c) = some_path test c
some_walked_path test (account c) = some_account_path test c
some_walked_path test (entry c) = some_working_path test c

pub record Line : Type 0 where
  pub caller : Uid
  pub command : TypedCommand

-- a word, the kinds of its arguments, and the command that they make, whatever paths are
pub record WordForm : Type 1 where
  pub spelling : Text
  pub kinds : List ArgumentKind
  pub makes : (P : Type 0) → Makes P kinds (CommandForm P)

unfoldable pub takes : Text → (ks : List ArgumentKind) → ((P : Type 0) → Makes P ks (CommandForm P)) → WordForm
takes w ks x = record { spelling = w; kinds = ks; makes = x }

unfoldable pub listed : Word → WordForm
unfolding takes
listed Create = takes (bytes "create") (a.Path ∷ (a.Plain ∷ [])) (λ P p m. shell (create p m))
listed Mkdir = takes (bytes "mkdir") (a.Path ∷ (a.Mode ∷ [])) (λ P p m. shell (mkdir p m))
listed Read = takes (bytes "read") (a.Path ∷ []) (λ P p. shell (read p))
listed Write = takes (bytes "write") (a.Path ∷ (a.Content ∷ [])) (λ P p c. shell (write p c))
listed Rm = takes (bytes "rm") (a.Path ∷ []) (λ P p. shell (rm p))
listed Rmdir = takes (bytes "rmdir") (a.Path ∷ []) (λ P p. shell (rmdir p))
listed Mv = takes (bytes "mv") (a.Path ∷ (a.Path ∷ [])) (λ P a b. shell (mv a b))
listed Chmod = takes (bytes "chmod") (a.Path ∷ (a.Mode ∷ [])) (λ P p m. shell (chmod p m))
listed Chgrp = takes (bytes "chgrp") (a.Path ∷ (a.Gid ∷ [])) (λ P p g. shell (chgrp p g))
listed Chown = takes (bytes "chown") (a.Path ∷ (a.Uid ∷ [])) (λ P p u. shell (chown p u))
listed Login = takes (bytes "login") (a.Role ∷ (a.Password ∷ [])) (λ P r w. account (login r w))
listed Logout = takes (bytes "logout") [] (λ P. account logout)
listed Cd = takes (bytes "cd") (a.Path ∷ []) (λ P p. account (cd p))
listed Add = takes (bytes "add") (a.Path ∷ (a.Entry ∷ (a.Role ∷ []))) (λ P w e r. entry (add w e r))
listed Co = takes (bytes "co") (a.Entry ∷ (a.Path ∷ [])) (λ P e d. entry (co e d))
listed Commit = takes (bytes "commit") (a.Path ∷ []) (λ P w. entry (commit w))
listed Up = takes (bytes "up") (a.Path ∷ []) (λ P w. entry (up w))
listed Del = takes (bytes "del") (a.Entry ∷ []) (λ P e. entry (del e))

-- the words: the shell's, and the others
unfoldable pub shell_words : List Word
shell_words = Create ∷ Mkdir ∷ Read ∷ Write ∷ Rm ∷ Rmdir ∷ Mv ∷ Chmod ∷ Chgrp ∷ Chown ∷ []

unfoldable pub other_words : List Word
other_words = Login ∷ Logout ∷ Cd ∷ Add ∷ Co ∷ Commit ∷ Up ∷ Del ∷ []

unfoldable pub words : List Word
unfolding shell_words other_words
words = shell_words ++ other_words

-- the form of a command as it is typed
unfoldable pub form : Word → Form TypedCommand
form w = record { word = (listed w).spelling; arguments = arguments_of typed_path (listed w).kinds ((listed w).makes TypedPath) }

unfoldable pub forms : List (Form TypedCommand)
forms = map form words

-- the caller, the word and the arguments
unfoldable pub line_of : List Text → Option Line
line_of [] = none
line_of (u ∷ []) = none
line_of (u ∷ (w ∷ arguments)) = do
  caller ← uid u
  command ← by_form forms w arguments
  some (record { caller = caller; command = command })

unfoldable pub line : Text → Option Line
line t = line_of (pieces comma t)

-- every value of a command in range, by the test of its paths
module _ {P : Type 0} (ok : P → Bool) where
  unfoldable pub is_shell_form : ShellForm P → Bool
  is_shell_form (create p m) = ok p && ltb m 512
  is_shell_form (mkdir p m) = ok p && is_mode m
  is_shell_form (read p) = ok p
  is_shell_form (write p c) = ok p && is_content c
  is_shell_form (rm p) = ok p
  is_shell_form (rmdir p) = ok p
  is_shell_form (mv a b) = ok a && ok b
  is_shell_form (chmod p m) = ok p && is_mode m
  is_shell_form (chgrp p g) = ok p && ltb g.0 25
  is_shell_form (chown p u) = ok p && ltb u.0 24

  unfoldable pub is_account_form : AccountForm P → Bool
  is_account_form (login r w) = is_name w
  is_account_form logout = true
  is_account_form (cd p) = ok p

  unfoldable pub is_entry_form : EntryForm P → Bool
  is_entry_form (add w e r) = ok w && is_entry_path e
  is_entry_form (co e d) = is_entry_path e && ok d
  is_entry_form (commit w) = ok w
  is_entry_form (up w) = ok w
  is_entry_form (del e) = is_entry_path e

  unfoldable pub is_command_form : CommandForm P → Bool
  is_command_form (shell c) = is_shell_form c
  is_command_form (account c) = is_account_form c
  is_command_form (entry c) = is_entry_form c

-- of a command that is run
unfoldable pub is_shell_command : ShellAction → Bool
unfolding is_shell_form
is_shell_command c = is_shell_form is_path c

unfoldable pub is_account_command : AccountAction → Bool
unfolding is_account_form
is_account_command c = is_account_form is_path c

unfoldable pub is_entry_command : EntryAction → Bool
unfolding is_entry_form
is_entry_command c = is_entry_form is_path c

unfoldable pub is_command : Command → Bool
unfolding is_command_form
is_command c = is_command_form is_path c

-- of one that is typed, and of a line of a listed form
unfoldable pub is_typed_command : TypedCommand → Bool
unfolding is_command_form
is_typed_command c = is_command_form is_typed_path c

unfoldable pub is_line : Line → Bool
is_line l = ltb l.caller.0 24 && is_typed_command l.command
