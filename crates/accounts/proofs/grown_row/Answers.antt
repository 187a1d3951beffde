-- `accounts::grown_row` meets its contract, by whether the row has the senior.
-- Assumes nothing.
use mathlib.Core.Path.{sym, ◌∙◌}
use Rattle.accounts.specs.Closure.{grown_row}
use Rattle.accounts.proofs.grown_row.Goals as goal

pub returns-then-has_role : goal.returns-then-has_role
unfolding grown_row
returns-then-has_role c = rw (sym c.has_role.ensures ∙ c.if-has_role.true)

pub returns : goal.returns
unfolding grown_row
returns c = rw (sym c.has_role.ensures ∙ c.if-has_role.false)
