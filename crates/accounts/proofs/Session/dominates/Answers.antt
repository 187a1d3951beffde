-- `accounts::Session::dominates` meets its contract, with a session and without.
-- Assumes nothing.
use Rattle.accounts.specs.Closure.{session_dominates}
use Rattle.accounts.proofs.Session.dominates.Goals as goal

pub returns-in-Some : goal.returns-in-Some
unfolding session_dominates
returns-in-Some c = rw c.in-Some.is c.dominates.ensures

pub returns-in-None : goal.returns-in-None
unfolding session_dominates
returns-in-None c = rw c.in-None.is
