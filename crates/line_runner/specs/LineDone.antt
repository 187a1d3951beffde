-- A typed command of a known caller on a store's bytes: what the code promises.
use Rattle.std.specs.Prelude.{◌≡◌, List, true, ℕ}
use Rattle.std.proofs.Math.Option.{some}
use Rattle.buffers.specs.Text.{Text}
use Rattle.accounts.specs.declared.Caller.{Caller}
use Rattle.commands.specs.declared.Typed.{Typed}
use Rattle.commands.specs.Command.{Command, TypedCommand, is_command}
use Rattle.commands.specs.Parsed.{TypedRead, whole_meaning}
use Rattle.commands.specs.Meaning.{TypedMeant}
use Rattle.tree.specs.Result.{Result, ◌>>=◌, Outcome}
use Rattle.shell.specs.Replies.{Answer}
use Rattle.shell.specs.CommandBytes.{Carries}
use Rattle.shell.specs.WholePaths.{whole_command}
use Rattle.store.specs.State.{working_directory, Store, State}
use Rattle.machine.specs.Machine.{run}
use Rattle.machine.specs.StoreMachine.{store}
use Rattle.stored_header.specs.Stored.{Stored, bytes_with}

-- what a typed command makes in a text where all its paths are whole, in range
pub record WholeMeant (t : Text) (c : Typed) (k : Command) : Type 0 where
  pub means : whole_meaning t c ≡ some k
  pub in_range : is_command k ≡ true

abbrev pub SomeWhole : Text → Typed → Type 0
SomeWhole t c = (k : Command) × WholeMeant t c k

-- a typed command that was read in a line
pub record SomeTyped (t : Text) (c : Typed) : Type 0 where
  pub command : TypedCommand
  pub meant : TypedMeant t c command
  pub read : TypedRead t c

-- the working directory in front of its short paths, then its steps
abbrev pub joins_and_runs : State → Caller → TypedCommand → Result (Outcome Store)
joins_and_runs s c k = whole_command (working_directory c.account.uid s.store.registry) k >>= λ l. run store s.setup s.store c l

module _ (c : Caller) (t : Text) (typed : Typed) where
  -- whichever store's bytes these are, and whatever whole command is made in the text
  abbrev pub WholeDone : List ℕ → List ℕ → Answer → List ℕ → List ℕ → Type 0
  WholeDone b a r b' a' = (s : State) (k : Command) → Stored b s → WholeMeant t typed k
      → Carries (bytes_with s.setup) (run store s.setup s.store c k) b a r b' a'

  -- and whatever typed command was read
  abbrev pub LineDone : List ℕ → List ℕ → Answer → List ℕ → List ℕ → Type 0
  LineDone b a r b' a' = (s : State) (k : TypedCommand) → Stored b s → TypedMeant t typed k
      → Carries (bytes_with s.setup) (joins_and_runs s c k) b a r b' a'
