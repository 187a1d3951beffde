-- `setups::line::is_known` meets its contract: root, or an account whose slot is filled.
use Prim.Native.Nat.{◌*◌}
use native.Mathlib.Omega.{arith}
use borrow.Author.Tests.{eq-eqb, ne_eqb, eqb-true, eqb-false}
use lib.Dec.{eqb}
use lib.ListN.{get_or}
use Rattle.buffers.specs.Cases.{case}
use Rattle.accounts.proofs.AccessLaws.{is_root_is}
use Rattle.syntax.specs.Form.{is_some}
use Rattle.setups.specs.LineReadLaws.{begun_wide, slot_empty, slot_filled}
use Rattle.setups.proofs.line.is_known.Goals as goal

pub returns-then-uid-eq0 : goal.returns-then-uid-eq0
returns-then-uid-eq0 c = rw (is_root_is c.args.uid, eq-eqb c.args.uid.0 0 c.if-uid-eq0.true)

pub bounds-header-at : goal.bounds-header-at
bounds-header-at c = omega (arith, begun_wide c.args.header.now c.requires.begun)

pub returns : goal.returns
unfolding is_some
returns c =
    let u = c.args.uid in
    let b = c.args.header.now in
    case (eqb (get_or b (3 * u.0) 0) 0)
    (λ e. rw (e, is_root_is u, ne_eqb u.0 0 c.if-uid-eq0.false, slot_empty b c.requires.begun u c.requires.uid_bound (eqb-true (get_or b (3 * u.0) 0) 0 e)))
    (λ e. rw (e, is_root_is u, ne_eqb u.0 0 c.if-uid-eq0.false, slot_filled b c.requires.begun u c.requires.uid_bound (eqb-false (get_or b (3 * u.0) 0) 0 e)))
