-- `accounts::Dominance::own` meets its contract.
-- Assumes nothing.
use mathlib.Core.Path.{refl}
use Rattle.accounts.specs.Closure.{own_rows}
use Rattle.accounts.proofs.Dominance.own.Goals as goal

pub returns : goal.returns
unfolding own_rows
returns c = refl
