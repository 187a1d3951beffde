-- `run` where the code answers: at each refusal before the command, and where a command was carried out.
use Rattle.std.specs.Prelude.{◌≡◌, List, false, ℕ, ◌≤◌, ◌<◌, length, Err}
use Rattle.std.proofs.Common.{sym, ◌∙◌, ltb-true}
use Rattle.std.proofs.Math.Path.{ap}
use Rattle.std.proofs.Math.Option.{none, some}
use Rattle.buffers.specs.Text.{Text}
use Rattle.accounts.specs.declared.Caller.{Caller}
use Rattle.accounts.specs.declared.Uid.{Uid}
use Rattle.syntax.specs.Form.{is_some}
use Rattle.syntax.proofs.FormLaws.{is_none}
use Rattle.commands.specs.Command.{TypedCommand, line}
use Rattle.tree.specs.declared.Cause.TheVariants.{NoForm, UnknownCaller, Unsound, ShortAnswer}
use Rattle.tree.specs.Result.{refused, done, ◌>>=◌}
use Rattle.tree.proofs.ResultLaws.{present_of, present_none, done_bind, refused_bind}
use Rattle.tree.specs.declared.Refusal.TheVariants.{For}
use Rattle.shell.specs.Replies.{Answer}
use Rattle.shell.specs.CommandBytes.{Carries}
use Rattle.shell.proofs.CommandBytesLaws.{refusal_follows}
use Rattle.store.specs.State.{State}
use Rattle.store.specs.StoreBytes.{decode}
use Rattle.store.specs.Callers.{caller}
use Rattle.machine.specs.Runs.{perform}
use Rattle.machine.proofs.CallerLaws.{caller_uid, caller_in_range}
use Rattle.calls.specs.Calls.{called, encoded, line_on, run_result, run_call}
use Rattle.stored_header.specs.Stored.{Stored, bytes_with}
use Rattle.library.specs.CallBytes.{called_as}
use Rattle.library.specs.CallBytesLaws.{refused_call, short_call, unsound_call, sound_call, carried_call}
use Rattle.line_runner.specs.LineDone.{joins_and_runs}
use Rattle.library.specs.CallerBytes.{calls_and_runs}

-- ---- who calls

module _ {b : List ℕ} {s : State} (h : Stored b s) (uid : Uid) where
  -- a number that the setup knows nobody by
  pub unknown_carries : (k : TypedCommand) (a : List ℕ) → refused UnknownCaller ≡ caller s.setup uid
      → Carries (bytes_with s.setup) (calls_and_runs s uid k) b a (Err (For UnknownCaller)) b a
  unknown_carries k a e = refusal_follows b (rw (← e) (refused_bind UnknownCaller _)) a

  -- a number that it knows somebody by, who is below 16
  pub known_carries : (c : Caller) (k : TypedCommand) {a : List ℕ} {r : Answer} {b' a' : List ℕ} → done c ≡ caller s.setup uid
      → Carries (bytes_with s.setup) (joins_and_runs s c k) b a r b' a' → Carries (bytes_with s.setup) (calls_and_runs s uid k) b a r b' a'
  known_carries c k e f = rw (← e, done_bind c _, ← caller_uid s.setup uid c (sym e)) f

  pub caller_low : (c : Caller) → done c ≡ caller s.setup uid → c.account.uid.0 < 16
  caller_low c e = ltb-true c.account.uid.0 16 (caller_in_range s.setup h.header.in_range uid c (sym e)).0

-- ---- the line

module _ (s : State) (t : Text) where
  -- a line without a form
  unformed_line : line t ≡ none → line_on t s ≡ refused NoForm
  unfolding line_on perform
  unformed_line e = rw (e, present_none, refused_bind, refused_bind)

  -- one with a form: who calls, the whole paths, then the command
  formed_line : (uid : Uid) (k : TypedCommand) → line t ≡ some (record { caller = uid; command = k })
      → line_on t s ≡ (calls_and_runs s uid k >>= λ o. done (encoded s.setup o))
  unfolding line_on perform
  formed_line uid k e = rw (e, present_of, done_bind)

-- ---- the call

module _ (b a : List ℕ) (t : Text) where
  pub run_short : length a < 4096 → called_as (Err (For ShortAnswer)) b a ≡ run_call b t a
  unfolding run_call run_result
  run_short l = refused_call b a (short_call b a (line_on t) l)

  pub run_unsound : 4096 ≤ length a → is_some (decode b) ≡ false → called_as (Err (For Unsound)) b a ≡ run_call b t a
  unfolding run_call run_result
  run_unsound l e = refused_call b a (unsound_call b a (line_on t) l (is_none (decode b) e))

  module _ (s : State) (l : 4096 ≤ length a) (e : decode b ≡ some s) where
    pub run_unformed : line t ≡ none → called_as (Err (For NoForm)) b a ≡ run_call b t a
    unfolding run_call run_result
    run_unformed n = refused_call b a (sound_call b a (line_on t) s l e ∙ unformed_line s t n)

    pub run_carried : (uid : Uid) (k : TypedCommand) {r : Answer} {b' a' : List ℕ} → line t ≡ some (record { caller = uid; command = k })
        → Carries (bytes_with s.setup) (calls_and_runs s uid k) b a r b' a' → called_as r b' a' ≡ run_call b t a
    unfolding run_call run_result
    run_carried uid k n f =
        carried_call s.setup b a (calls_and_runs s uid k) f
        ∙ ap (called b a) (sym (sound_call b a (line_on t) s l e ∙ formed_line s t uid k n))
