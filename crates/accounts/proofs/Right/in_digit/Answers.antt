-- `accounts::Right::in_digit` meets its contract, right by right.
-- Assumes nothing.
use Rattle.accounts.specs.Access.{grants}
use Rattle.accounts.proofs.Right.in_digit.Goals as goal

pub returns-in-R : goal.returns-in-R
unfolding grants
returns-in-R c = rw c.in-R.is

pub returns-in-W : goal.returns-in-W
unfolding grants
returns-in-W c = rw c.in-W.is

pub returns-in-X : goal.returns-in-X
unfolding grants
returns-in-X c = rw c.in-X.is
