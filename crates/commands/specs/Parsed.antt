-- What the code's commands mean: the command of a listed form, with the parts of a text that it holds. As it is typed it is its word with
-- the places and numbers of its arguments; once its paths are whole, its parts.
--
-- A part that lies outside the text, or that has not the form of its field, has no meaning.
use Rattle.std.specs.Prelude.{◌≡◌, List, [], ◌∷◌, cond, ℕ, eqb, Option as Found, Some, None}
use Rattle.std.proofs.Math.Option.{Option, none, some}
use Rattle.buffers.specs.Text.{Text}
use Rattle.accounts.specs.declared.Uid.{Uid}
use Rattle.syntax.specs.declared.Span.{Span}
use Rattle.line_fields.specs.declared.Fields.{Fields}
use Rattle.arguments.specs.Kinds.{number_in, read_in, Argument, ArgumentRead, values_of, arguments_of}
use Rattle.commands.specs.declared.Command.{Command as Parts}
use Rattle.commands.specs.declared.Command.TheVariants.{Shell, Account, Entry}
use Rattle.commands.specs.declared.ShellCommand.{ShellCommand as ShellParts}
use Rattle.commands.specs.declared.ShellCommand.TheVariants.{Create, Mkdir, Read, Write, Rm, Rmdir, Mv, Chmod, Chgrp, Chown}
use Rattle.commands.specs.declared.AccountCommand.{AccountCommand as AccountParts}
use Rattle.commands.specs.declared.AccountCommand.TheVariants.{Login, Logout, Cd}
use Rattle.commands.specs.declared.EntryCommand.{EntryCommand as EntryParts}
use Rattle.commands.specs.declared.EntryCommand.TheVariants.{Add, Co, Commit, Up, Del}
use Rattle.commands.specs.declared.Word.{Word}
use Rattle.commands.specs.declared.Shape.{Shape}
use Rattle.commands.specs.declared.Typed.{Typed}
use Rattle.commands.specs.declared.CommandLine.{CommandLine}
use Rattle.syntax.specs.Form.{◌>>=◌, by_form}
use Rattle.syntax.specs.Path.{Path, TypedPath, EntryPath, path, typed_path, entry_path}
use Rattle.syntax.specs.Field.{bounded}
use Rattle.commands.specs.Command.{create, mkdir, read, write, rm, rmdir, mv, chmod, chgrp, chown, login, logout, cd, add, co, commit, up, del}
use Rattle.commands.specs.Command.{Command, TypedCommand, shell, account, entry, Line, listed, forms}
use Rattle.commands.specs.Words.{shape_of}
use Rattle.syntax.specs.Parts.{span_text, text_in}

-- a command with a path or an entry path
unfoldable pub with_path : Text → Span → (Path → Command) → Option Command
with_path t s k = read_in path t s >>= λ p. some (k p)

unfoldable pub with_entry : Text → Span → (EntryPath → Command) → Option Command
with_entry t s k = read_in entry_path t s >>= λ e. some (k e)

-- what the parts of each kind mean
unfoldable pub shell_meaning : Text → ShellParts → Option Command
shell_meaning t (Create p m) = with_path t p (λ q. shell (create q m))
shell_meaning t (Mkdir p m) = with_path t p (λ q. shell (mkdir q m))
shell_meaning t (Read p) = with_path t p (λ q. shell (read q))
shell_meaning t (Write p c) = read_in path t p >>= λ q. text_in t c >>= λ x. some (shell (write q x))
shell_meaning t (Rm p) = with_path t p (λ q. shell (rm q))
shell_meaning t (Rmdir p) = with_path t p (λ q. shell (rmdir q))
shell_meaning t (Mv a b) = read_in path t a >>= λ p. with_path t b (λ q. shell (mv p q))
shell_meaning t (Chmod p m) = with_path t p (λ q. shell (chmod q m))
shell_meaning t (Chgrp p g) = with_path t p (λ q. shell (chgrp q g))
shell_meaning t (Chown p u) = with_path t p (λ q. shell (chown q u))

unfoldable pub account_meaning : Text → AccountParts → Option Command
account_meaning t (Login r w) = bounded r.0 >>= λ z. text_in t w >>= λ x. some (account (login z x))
account_meaning t Logout = some (account logout)
account_meaning t (Cd p) = with_path t p (λ q. account (cd q))

unfoldable pub entry_meaning : Text → EntryParts → Option Command
entry_meaning t (Add w e r) = read_in path t w >>= λ p. read_in entry_path t e >>= λ q. bounded r.0 >>= λ z. some (entry (add p q z))
entry_meaning t (Co e d) = read_in entry_path t e >>= λ q. with_path t d (λ p. entry (co q p))
entry_meaning t (Commit w) = with_path t w (λ q. entry (commit q))
entry_meaning t (Up w) = with_path t w (λ q. entry (up q))
entry_meaning t (Del e) = with_entry t e (λ q. entry (del q))

unfoldable pub meaning : Text → Parts → Option Command
meaning t (Shell c) = shell_meaning t c
meaning t (Account c) = account_meaning t c
meaning t (Entry c) = entry_meaning t c

-- the arguments of a typed command that were read, with their numbers
abbrev pub first_of : Typed → Argument
first_of c = record { part = c.fields.first; number = c.first }

abbrev pub second_of : Typed → Argument
second_of c = record { part = c.fields.second; number = c.second }

abbrev pub third_of : Typed → Argument
third_of c = record { part = c.fields.third; number = c.third }

abbrev pub arguments : Typed → List Argument
arguments c = first_of c ∷ (second_of c ∷ (third_of c ∷ []))

-- what the word of a typed command makes of its arguments in a text: as they are typed, and where all its paths are whole
unfoldable pub typed_meaning : Text → Typed → Option TypedCommand
typed_meaning t c = values_of typed_path (listed c.word).kinds ((listed c.word).makes TypedPath) t (arguments c)

unfoldable pub whole_meaning : Text → Typed → Option Command
whole_meaning t c = values_of path (listed c.word).kinds ((listed c.word).makes Path) t (arguments c)

-- parts are made of a typed command: over every text they mean what whole paths there make
pub record MakesOf (c : Typed) (d : Parts) : Type 0 where
  pub means : (t : Text) → meaning t d ≡ whole_meaning t c

-- no form, or the line of a caller and a command with its meaning
unfoldable pub line_with : Uid → Option TypedCommand → Option Line
line_with u k = k >>= λ c. some (record { caller = u; command = c })

unfoldable pub parsed : Text → Found CommandLine → Option (Option Line)
parsed t (Some l) = some (line_with l.caller (typed_meaning t l.typed))
parsed t None = none

-- a typed command was read in a line: its shape is that of its word, and each argument lies inside and has the form of its kind
pub record TypedRead (t : Text) (c : Typed) : Type 0 where
  pub shaped : c.shape ≡ shape_of (listed c.word).kinds
  pub first : ArgumentRead c.shape.first t (first_of c)
  pub second : ArgumentRead c.shape.second t (second_of c)
  pub third : ArgumentRead c.shape.third t (third_of c)

abbrev pub ReadIn : Text → Found CommandLine → Type 0
ReadIn t (Some l) = TypedRead t l.typed
ReadIn t None = Unit {0}

-- the command of a word with these arguments
abbrev pub command_from : Word → List Text → Option TypedCommand
command_from w arguments = arguments_of typed_path (listed w).kinds ((listed w).makes TypedPath) arguments

-- a word and its arguments
unfoldable pub command_of : List Text → Option TypedCommand
command_of [] = none
command_of (w ∷ arguments) = by_form forms w arguments

-- the numbers of a command's arguments, where these are as many as its shape says and each has its form
unfoldable pub numbers_of : Option ℕ → Option ℕ → Option ℕ → Found (ℕ × ℕ × ℕ)
numbers_of none m l = None
numbers_of (some n) none l = None
numbers_of (some n) (some m) none = None
numbers_of (some n) (some m) (some l) = Some (n, m, l)

unfoldable pub numbers_in : Text → Fields → Shape → Found (ℕ × ℕ × ℕ)
numbers_in t f s =
    cond (eqb f.count s.count)
    (numbers_of (number_in s.first (span_text t f.first)) (number_in s.second (span_text t f.second)) (number_in s.third (span_text t f.third)))
    None
