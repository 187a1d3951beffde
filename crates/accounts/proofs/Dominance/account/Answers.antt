-- `accounts::Dominance::account` meets its contract.
-- Assumes nothing.
use Rattle.accounts.specs.Closure.{row_account}
use Rattle.accounts.specs.Service.{service_uid}
use Rattle.accounts.proofs.Dominance.account.Goals as goal

pub returns : goal.returns
unfolding row_account service_uid
returns c = rw c.from.ensures
