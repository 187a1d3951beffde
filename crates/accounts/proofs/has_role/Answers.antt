-- `accounts::has_role` meets its contract: a row of 8 bits has none from 8 on.
-- Assumes nothing.
use Rattle.std.proofs.Common.{◌∙◌, sym, le-ltb, rules}
use Rattle.accounts.specs.Closure.{has_role}
use Rattle.accounts.proofs.Bits.{no_bit}
use Rattle.accounts.proofs.has_role.Goals as goal

pub returns-then-role-lt8 : goal.returns-then-role-lt8
unfolding has_role
returns-then-role-lt8 c = search rules

pub returns-else-role-lt8 : goal.returns-else-role-lt8
unfolding has_role
returns-else-role-lt8 c =
    let a = c.args in
    le-ltb a.role.0 8 c.if-role-lt8.false ∙ sym (no_bit 8 a.role.0 a.row c.ranges.row.fits c.if-role-lt8.false)
