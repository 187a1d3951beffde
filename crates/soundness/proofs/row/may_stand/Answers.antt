-- `soundness::row::may_stand` meets its contract: a zero is no byte of a content.
use mathlib.Core.Path.{◌≡◌}
use mathlib.Core.Bool.{◌&&◌, ◌||◌, not, or-false}
use Prim.Native.Nat.{ℕ}
use native.Mathlib.Omega.{arith}
use lib.Dec.{eqb, leb}
use borrow.Author.Tests.{eqb-true, lt-leb}
use Rattle.buffers.specs.Cases.{case}
use Rattle.syntax.specs.Field.{content_byte}
use Rattle.soundness.specs.Tests.{may_stand}
use Rattle.soundness.proofs.row.may_stand.Goals as goal

by_zero : (b next : ℕ) → ((eqb b 0 && eqb next 0) || ((leb 32 b && leb b 126) && not (eqb b 44))) ≡ may_stand content_byte b next
unfolding may_stand content_byte
by_zero b next = case (eqb b 0) (λ e. rw (e, lt-leb 32 b (omega (arith, eqb-true b 0 e))) (or-false (eqb next 0))) (λ e. rw e)

pub returns : goal.returns
returns c = by_zero c.args.b c.args.next
