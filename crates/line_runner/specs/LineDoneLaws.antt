-- What follows for a typed command where its paths are whole in its line or were made so in a second text, and where one would be too
-- deep.
use Rattle.std.specs.Prelude.{◌≡◌, List, true, false, ℕ, length, Result as Told, Ok, Err}
use Rattle.std.proofs.Common.{sym, ◌∙◌, ap}
use Rattle.std.proofs.Math.Option.{some}
use Rattle.buffers.specs.Text.{Text}
use Rattle.accounts.specs.declared.Caller.{Caller}
use Rattle.accounts.specs.declared.Uid.{Uid}
use Rattle.syntax.specs.Path.{Path, is_path, path, path_text}
use Rattle.syntax.proofs.PathLaws.{path_of_text}
use Rattle.commands.specs.declared.Typed.{Typed}
use Rattle.commands.specs.Command.{Command, TypedCommand}
use Rattle.commands.specs.Parsed.{whole_meaning, TypedRead}
use Rattle.commands.specs.Meaning.{TypedMeant}
use Rattle.tree.specs.declared.Cause.{Cause}
use Rattle.tree.specs.Result.{refused, done}
use Rattle.tree.proofs.ResultLaws.{done_bind, refused_bind}
use Rattle.shell.specs.Replies.{Answer}
use Rattle.tree.specs.declared.Refusal.TheVariants.{For}
use Rattle.shell.specs.CommandBytes.{Carries}
use Rattle.shell.proofs.CommandBytesLaws.{refusal_follows}
use Rattle.shell.specs.WholePaths.{whole_command}
use Rattle.shell.proofs.WholePathsLaws.{whole_in_range}
use Rattle.store.specs.State.{working_directory, State}
use Rattle.store.proofs.RegistryLaws.{working_directory_is_path}
use Rattle.machine.specs.Machine.{run}
use Rattle.machine.specs.StoreMachine.{store}
use Rattle.stored_header.specs.Stored.{Stored, bytes_with}
use Rattle.whole_paths.specs.WholeText.{text_width, any_short, whole_text, whole_or_deep}
use Rattle.whole_paths.specs.WholeTextLaws.{unshort_done, deep_told, whole_told}
use Rattle.line_runner.specs.LineDone.{WholeMeant, joins_and_runs}

-- ---- the directory

module _ {b : List ℕ} {s : State} (h : Stored b s) (uid : Uid) where
  kept_is_path : is_path (working_directory uid s.store.registry) ≡ true
  kept_is_path = working_directory_is_path s.store.registry uid h.header.registered

  -- its text reads as it
  pub directory_reads : (d : Text) → d ≡ path_text (working_directory uid s.store.registry) → path d ≡ some (working_directory uid s.store.registry)
  directory_reads d e = ap path e ∙ path_of_text (working_directory uid s.store.registry) kept_is_path

-- ---- the whole command

-- a whole command that is made in a text, of a command that was typed in a directory
pub record MadeWhole (q : Path) (k : TypedCommand) (t : Text) (c : Typed) : Type 0 where
  pub command : Command
  pub is_whole : whole_command q k ≡ done command
  pub meant : WholeMeant t c command

module _ {b : List ℕ} {s : State} (h : Stored b s) (uid : Uid) {t : Text} {c : Typed} {k : TypedCommand} (m : TypedMeant t c k) (i : TypedRead t c) where
  abbrev directory : Path
  directory = working_directory uid s.store.registry

  made_of : {x : Text} {d : Typed} → (l : Command) × (whole_command directory k ≡ done l) × (whole_meaning x d ≡ some l) → MadeWhole directory k x d
  made_of j = record {
    command = j.0;
    is_whole = j.1;
    meant = record { means = j.2; in_range = whole_in_range directory k j.1 (kept_is_path h uid) m.in_range };
  }

  -- without short paths it is made in the line
  pub line_made : any_short t c ≡ false → MadeWhole directory k t c
  line_made e = made_of (unshort_done t c k e i m directory)

  -- with them in the second text, or one is too deep
  module _ (d : Text) (same : d ≡ path_text directory) (x : List ℕ) (wide : length x ≡ text_width) {r : Told Typed Cause} (told : r ≡ whole_or_deep d t c x) where
    pub text_made : (y : Text) → y ≡ whole_text d t c x → {moved : Typed} → r ≡ Ok moved → MadeWhole directory k y moved
    text_made y left e = rw left (made_of (whole_told d directory (directory_reads h uid d same) t c i k m x wide (sym e ∙ told)))

    pub text_too_deep : {why : Cause} → r ≡ Err why → whole_command directory k ≡ refused why
    text_too_deep e = deep_told d directory (directory_reads h uid d same) t c i k m x wide (sym e ∙ told)

-- ---- what is carried out

module _ (s : State) (c : Caller) (k : TypedCommand) where
  -- the whole command carried out is the typed one
  pub whole_carries : (l : Command) → whole_command (working_directory c.account.uid s.store.registry) k ≡ done l
      → {b a : List ℕ} {r : Answer} {b' a' : List ℕ} → Carries (bytes_with s.setup) (run store s.setup s.store c l) b a r b' a'
      → Carries (bytes_with s.setup) (joins_and_runs s c k) b a r b' a'
  whole_carries l e f = rw (e, done_bind l (λ x. run store s.setup s.store c x)) f

  -- what is refused as too deep is refused by 19
  pub deep_carries : {why : Cause} → whole_command (working_directory c.account.uid s.store.registry) k ≡ refused why → (b a : List ℕ)
      → Carries (bytes_with s.setup) (joins_and_runs s c k) b a (Err (For why)) b a
  deep_carries {why} e b a = refusal_follows b (rw e (refused_bind why (λ x. run store s.setup s.store c x))) a
