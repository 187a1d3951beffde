-- `accounts::Groups::empty` meets its contract.
-- Assumes nothing.
use mathlib.Core.Path.{refl}
use Rattle.accounts.specs.Groups.{no_groups}
use Rattle.accounts.proofs.Groups.empty.Goals as goal

pub returns : goal.returns
unfolding no_groups
returns c = refl
