-- A parsed command carried out on a store's bytes: what the code promises, for the command that its parts mean.
use Rattle.std.specs.Prelude.{◌≡◌, List, ℕ, get_or}
use Rattle.std.proofs.Math.Option.{none}
use Rattle.buffers.specs.Text.{Text}
use Rattle.accounts.specs.declared.Caller.{Caller}
use Rattle.accounts.specs.declared.Role.{Role}
use Rattle.accounts.specs.Session.{as_role}
use Rattle.commands.specs.declared.Command.{Command as Parts}
use Rattle.commands.specs.declared.ShellCommand.{ShellCommand as ShellParts}
use Rattle.commands.specs.declared.EntryCommand.{EntryCommand as EntryParts}
use Rattle.commands.specs.Command.{ShellAction, EntryAction, Command, shell}
use Rattle.commands.specs.Meaning.{EntryMeans, ShellMeant, Meant}
use Rattle.shell.specs.Replies.{Answer}
use Rattle.shell.specs.CommandBytes.{Carries}
use Rattle.store.specs.State.{State}
use Rattle.header.specs.HeaderBytes.{session_held}
use Rattle.machine.specs.Machine.{run_entry, run}
use Rattle.machine.specs.StoreMachine.{store}
use Rattle.stored_header.specs.Stored.{Stored, bytes_with}

-- the session of a caller is that of a role
abbrev pub HeldRole : Caller → Role → List ℕ → Type 0
HeldRole c role b = (s : State) → Stored b s → as_role role ≡ session_held (get_or s.store.registry.sessions c.account.uid.0 none)

-- a caller's command that the parts of a line mean
module _ (c : Caller) (line : Text) where
  -- the shell's
  abbrev pub StoreShellDone : ShellParts → List ℕ → List ℕ → Answer → List ℕ → List ℕ → Type 0
  StoreShellDone command b a r b' a' = (s : State) (k : ShellAction) → Stored b s → ShellMeant line command k
      → Carries (bytes_with s.setup) (run store s.setup s.store c (shell k)) b a r b' a'

  -- one on entries
  abbrev pub SessionDone : EntryParts → List ℕ → List ℕ → Answer → List ℕ → List ℕ → Type 0
  SessionDone command b a r b' a' = (s : State) (k : EntryAction) → Stored b s → EntryMeans line command k
      → Carries (bytes_with s.setup) (run_entry store s.setup s.store c k) b a r b' a'

  -- any command
  abbrev pub CommandDone : Parts → List ℕ → List ℕ → Answer → List ℕ → List ℕ → Type 0
  CommandDone command b a r b' a' = (s : State) (k : Command) → Stored b s → Meant line command k
      → Carries (bytes_with s.setup) (run store s.setup s.store c k) b a r b' a'
