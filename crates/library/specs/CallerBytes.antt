-- A typed command by whom a number names, on a store's bytes: what the code of `run` promises on the way.
use Rattle.std.specs.Prelude.{List, ℕ}
use Rattle.buffers.specs.Text.{Text}
use Rattle.accounts.specs.declared.Uid.{Uid}
use Rattle.commands.specs.declared.Typed.{Typed}
use Rattle.commands.specs.Command.{TypedCommand}
use Rattle.commands.specs.Meaning.{TypedMeant}
use Rattle.tree.specs.Result.{Result, ◌>>=◌, Outcome}
use Rattle.shell.specs.Replies.{Answer}
use Rattle.shell.specs.CommandBytes.{Carries}
use Rattle.shell.specs.WholePaths.{whole_command}
use Rattle.store.specs.State.{working_directory, Store, State}
use Rattle.store.specs.Callers.{caller}
use Rattle.machine.specs.Machine.{run}
use Rattle.machine.specs.StoreMachine.{store}
use Rattle.stored_header.specs.Stored.{Stored, bytes_with}

-- who calls, then the working directory in front of the short paths, then the command
abbrev pub calls_and_runs : State → Uid → TypedCommand → Result (Outcome Store)
calls_and_runs s uid k = do
  c ← caller s.setup uid
  l ← whole_command (working_directory uid s.store.registry) k
  run store s.setup s.store c l

-- whichever store's bytes these are, and whatever command was read
abbrev pub CalledBy : Uid → Text → Typed → List ℕ → List ℕ → Answer → List ℕ → List ℕ → Type 0
CalledBy uid line typed b a r b' a' = (s : State) (k : TypedCommand) → Stored b s → TypedMeant line typed k
    → Carries (bytes_with s.setup) (calls_and_runs s uid k) b a r b' a'
