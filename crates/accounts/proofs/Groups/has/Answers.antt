-- `accounts::Groups::has` meets its contract: a number of 32 bits has none from 32 on, and below that a shift brings the bit to the end.
-- Assumes nothing.
use mathlib.Core.Path.{sym, refl}
use Prim.Native.Nat.{◌<◌, ◌^◌}
use borrow.Author.Rules.{rules}
use Rattle.accounts.specs.Groups.{member}
use Rattle.accounts.proofs.Bits.{no_bit}
use Rattle.accounts.proofs.Groups.has.Goals as goal

pub returns-then-g-ge32 : goal.returns-then-g-ge32
unfolding member
returns-then-g-ge32 c =
    let a = c.args in
    let l : a.self.0 < 2 ^ 32 = search rules in
    sym (no_bit 32 a.g.0 a.self.0 l c.if-g-ge32.true)

pub returns : goal.returns
unfolding member
returns c = refl
