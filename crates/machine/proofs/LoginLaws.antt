-- `login` and `logout` of a machine: they are what comes to its registry, and leave all else.
use Rattle.std.specs.Prelude.{◌≡◌}
use Rattle.std.proofs.Math.Option.{none, some}
use Rattle.buffers.specs.Text.{Text}
use Rattle.accounts.specs.declared.Caller.{Caller}
use Rattle.accounts.specs.Dominance.{BoundedRole}
use Rattle.setup.specs.Setup.{Setup}
use Rattle.tree.specs.declared.Cause.TheVariants.{NoGrant}
use Rattle.tree.specs.Result.{Result, done, ◌>>=◌, require, Outcome}
use Rattle.tree.proofs.ResultLaws.{then_bind, done_bind}
use Rattle.store.specs.State.{Registry, set_session}
use Rattle.store.specs.Callers.{granted}
use Rattle.store.specs.Logins.{logged_in, logged_out}
use Rattle.machine.specs.Machine.{Machine, run_login, run_logout}

module _ {S A : Type 0} (M : Machine S A) (setup : Setup) (s : S) (c : Caller) where
  -- done without a text, with another registry
  abbrev continued_with : Registry → Result (Outcome S)
  continued_with registry = done (record { text = none; state = M.with_registry registry s })

  pub run_login_is : (z : BoundedRole) (password : Text)
      → run_login M setup s c z password ≡ (logged_in setup (M.registry s) c.account.uid z password >>= continued_with)
  unfolding run_login logged_in
  run_login_is z password =
      let after = set_session c.account.uid (some z) (M.registry s) in
      let allowed = require (granted setup.grants c.account.uid z password) NoGrant in
      rw (then_bind allowed (done after) continued_with, done_bind after continued_with)

  pub run_logout_is : run_logout M setup s c ≡ (logged_out (M.registry s) c.account.uid >>= continued_with)
  unfolding run_logout logged_out
  run_logout_is = rw (done_bind (set_session c.account.uid none (M.registry s)) continued_with)
