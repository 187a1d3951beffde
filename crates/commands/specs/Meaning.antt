-- What callers go by: which typed command a parsed line is of, and which command its parts are of once its paths are whole, kind by kind.
use Rattle.std.specs.Prelude.{◌≡◌, true}
use Rattle.std.proofs.Math.Option.{Option, some}
use Rattle.buffers.specs.Text.{Text}
use Rattle.accounts.specs.Dominance.{BoundedRole}
use Rattle.syntax.specs.declared.Span.{Span}
use Rattle.syntax.specs.Parts.{Inside, span_text}
use Rattle.syntax.specs.Path.{Path, EntryPath, path, entry_path}
use Rattle.commands.specs.declared.Command.{Command as Parts}
use Rattle.commands.specs.declared.Command.TheVariants.{Shell, Account, Entry}
use Rattle.commands.specs.declared.ShellCommand.{ShellCommand as ShellParts}
use Rattle.commands.specs.declared.ShellCommand.TheVariants.{Create, Mkdir, Read, Write, Rm, Rmdir, Mv, Chmod, Chgrp, Chown}
use Rattle.commands.specs.declared.AccountCommand.{AccountCommand as AccountParts}
use Rattle.commands.specs.declared.AccountCommand.TheVariants.{Login, Logout, Cd}
use Rattle.commands.specs.declared.EntryCommand.{EntryCommand as EntryParts}
use Rattle.commands.specs.declared.EntryCommand.TheVariants.{Add, Co, Commit, Up, Del}
use Rattle.commands.specs.declared.Typed.{Typed}
use Rattle.commands.specs.Command.{ShellAction, create, mkdir, read, write, rm, rmdir, mv, chmod, chgrp, chown, AccountAction, login, logout, cd}
use Rattle.commands.specs.Command.{EntryAction, add, co, commit, up, del, Command, TypedCommand, shell, account, entry, is_shell_command, is_command, is_typed_command}
use Rattle.commands.specs.Parsed.{typed_meaning}

-- the typed command k is what a line's arguments make, and it is in range
pub record TypedMeant (t : Text) (c : Typed) (k : TypedCommand) : Type 0 where
  pub means : typed_meaning t c ≡ some k
  pub in_range : is_typed_command k ≡ true

-- a part of a line lies inside it and reads as something
pub record PartReads {A : Type 0} (read : Text → Option A) (t : Text) (s : Span) (x : A) : Type 0 where
  pub inside : Inside s t
  pub reads : read (span_text t s) ≡ some x

-- the command k is that of the parts: what each part reads as, and what they make
unfoldable pub ShellMeans : Text → ShellParts → ShellAction → Type 0
ShellMeans t (Create p m) k = (q : Path) × PartReads path t p q × (k ≡ create q m)
ShellMeans t (Mkdir p m) k = (q : Path) × PartReads path t p q × (k ≡ mkdir q m)
ShellMeans t (Read p) k = (q : Path) × PartReads path t p q × (k ≡ read q)
ShellMeans t (Write p c) k = (q : Path) × PartReads path t p q × Inside c t × (k ≡ write q (span_text t c))
ShellMeans t (Rm p) k = (q : Path) × PartReads path t p q × (k ≡ rm q)
ShellMeans t (Rmdir p) k = (q : Path) × PartReads path t p q × (k ≡ rmdir q)
ShellMeans t (Mv a b) k = (p : Path) × (q : Path) × PartReads path t a p × PartReads path t b q × (k ≡ mv p q)
ShellMeans t (Chmod p m) k = (q : Path) × PartReads path t p q × (k ≡ chmod q m)
ShellMeans t (Chgrp p g) k = (q : Path) × PartReads path t p q × (k ≡ chgrp q g)
ShellMeans t (Chown p u) k = (q : Path) × PartReads path t p q × (k ≡ chown q u)

unfoldable pub AccountMeans : Text → AccountParts → AccountAction → Type 0
AccountMeans t (Login r w) k = (z : BoundedRole) × (z.role ≡ r) × Inside w t × (k ≡ login z (span_text t w))
AccountMeans t Logout k = k ≡ logout
AccountMeans t (Cd p) k = (q : Path) × PartReads path t p q × (k ≡ cd q)

unfoldable pub EntryMeans : Text → EntryParts → EntryAction → Type 0
EntryMeans t (Add w e r) k = (p : Path) × (q : EntryPath) × (z : BoundedRole) × PartReads path t w p × PartReads entry_path t e q × (z.role ≡ r) × (k ≡ add p q z)
EntryMeans t (Co e d) k = (q : EntryPath) × (p : Path) × PartReads entry_path t e q × PartReads path t d p × (k ≡ co q p)
EntryMeans t (Commit w) k = (q : Path) × PartReads path t w q × (k ≡ commit q)
EntryMeans t (Up w) k = (q : Path) × PartReads path t w q × (k ≡ up q)
EntryMeans t (Del e) k = (q : EntryPath) × PartReads entry_path t e q × (k ≡ del q)

-- and it is of their kind
unfoldable pub Means : Text → Parts → Command → Type 0
Means t (Shell c) k = (e : ShellAction) × ShellMeans t c e × (k ≡ shell e)
Means t (Account c) k = (e : AccountAction) × AccountMeans t c e × (k ≡ account e)
Means t (Entry c) k = (e : EntryAction) × EntryMeans t c e × (k ≡ entry e)

-- and it is in range
pub record ShellMeant (t : Text) (c : ShellParts) (k : ShellAction) : Type 0 where
  pub means : ShellMeans t c k
  pub in_range : is_shell_command k ≡ true

pub record Meant (t : Text) (c : Parts) (k : Command) : Type 0 where
  pub means : Means t c k
  pub in_range : is_command k ≡ true

-- the parts are those of some command
abbrev pub SomeShellCommand : Text → ShellParts → Type 0
SomeShellCommand t c = (k : ShellAction) × ShellMeant t c k

abbrev pub SomeAccountCommand : Text → AccountParts → Type 0
SomeAccountCommand t c = (k : AccountAction) × AccountMeans t c k

abbrev pub SomeEntryCommand : Text → EntryParts → Type 0
SomeEntryCommand t c = (k : EntryAction) × EntryMeans t c k

abbrev pub SomeCommand : Text → Parts → Type 0
SomeCommand t c = (k : Command) × Meant t c k
