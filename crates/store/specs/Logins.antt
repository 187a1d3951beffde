-- `login` and `logout`: the registry after them.
use Rattle.std.proofs.Math.Option.{none, some}
use Rattle.buffers.specs.Text.{Text}
use Rattle.accounts.specs.declared.Uid.{Uid}
use Rattle.accounts.specs.Dominance.{BoundedRole}
use Rattle.setup.specs.Setup.{Setup}
use Rattle.tree.specs.declared.Cause.TheVariants.{NoGrant}
use Rattle.tree.specs.Result.{Result, done, ◌>>◌, require}
use Rattle.store.specs.State.{Registry, set_session}
use Rattle.store.specs.Callers.{granted}

-- 13 unless a grant has just these three; the role replaces the account's session
unfoldable pub logged_in : Setup → Registry → Uid → BoundedRole → Text → Result Registry
logged_in u registry uid z password = do
  require (granted u.grants uid z password) NoGrant
  done (set_session uid (some z) registry)

-- the account's session becomes none
unfoldable pub logged_out : Registry → Uid → Result Registry
logged_out registry uid = done (set_session uid none registry)
