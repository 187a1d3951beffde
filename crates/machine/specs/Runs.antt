-- Library calls on a machine: one command line of any bytes, and a list of them.
use Rattle.std.specs.Prelude.{List, [], ◌∷◌, Bool, false, ℕ, leb}
use Rattle.std.proofs.Math.Option.{Option, none, some}
use Rattle.buffers.specs.Text.{Text}
use Rattle.accounts.specs.Access.{is_root}
use Rattle.commands.specs.Command.{Line, line}
use Rattle.setup.specs.Setup.{Setup}
use Rattle.tree.specs.declared.Cause.TheVariants.{NoForm, ShortAnswer}
use Rattle.tree.specs.Result.{Result, ◌>>=◌, ◌>>◌, require, present, Outcome}
use Rattle.shell.specs.Replies.{Reply, reply, after}
use Rattle.shell.specs.WholePaths.{whole_command}
use Rattle.store.specs.State.{working_directory}
use Rattle.store.specs.Callers.{caller}
use Rattle.machine.specs.Machine.{Machine, run}

-- a command line and the length of the answer buffer lent for it
pub record Call : Type 0 where
  pub line : Text
  pub room : ℕ

-- an answer buffer holds every text a command gives
unfoldable pub least_room : ℕ
least_room = 4096

-- the replies to a list of calls, and the state after it
pub record Ran (S : Type 0) : Type 0 where
  pub replies : List Reply
  pub state : S

module _ {S A : Type 0} (M : Machine S A) (u : Setup) where
  -- before the command's checks: no listed form 1, an unknown caller 2, a path behind the caller's working directory too deep 19
  unfoldable pub perform : S → Text → Result (Outcome S)
  perform s t = do
    l ← present (line t) NoForm
    c ← caller u l.caller
    command ← whole_command (working_directory l.caller (M.registry s)) l.command
    run M u s c command

  -- and before these: answer buffer too short 20
  unfoldable pub step : S → Call → Result (Outcome S)
  step s call = do
    require (leb least_room call.room) ShortAnswer
    perform s call.line

  unfoldable pub runs : S → List Call → Ran S
  runs s [] = record { replies = []; state = s }
  runs s (call ∷ calls) =
      let o = step s call in
      let rest = runs (after s o) calls in
      record { replies = reply o ∷ rest.replies; state = rest.state }

-- a line is root's if it has a listed form and caller 0
unfoldable pub of_root : Option Line → Bool
of_root none = false
of_root (some l) = is_root l.caller

unfoldable pub root's : Call → Bool
root's call = of_root (line call.line)
