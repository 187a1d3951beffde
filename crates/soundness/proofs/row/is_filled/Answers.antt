-- `soundness::row::is_filled` meets its contract: what is left, with what was seen, is the whole.
use mathlib.Core.Path.{◌≡◌, sym, ◌∙◌, ap}
use mathlib.Core.Bool.{◌||◌, not}
use Prim.Native.Nat.{ℕ, suc, ◌-◌}
use native.Mathlib.Omega.{arith}
use lib.Dec.{eqb}
use Rattle.buffers.specs.Fields.{is_filled}
use Rattle.buffers.specs.Cases.{case}
use Rattle.soundness.specs.Tests.{may_stand, any_byte}
use Rattle.soundness.specs.NeighbourLaws.{begins, one_more, ends}
use Rattle.soundness.specs.FilledLaws.{filled_by_bytes}
use Rattle.soundness.proofs.row.is_filled.Goals as goal

by_zero : (b next : ℕ) → (not (eqb b 0) || eqb next 0) ≡ may_stand any_byte b next
unfolding may_stand any_byte
by_zero b next = case (eqb b 0) (λ e. rw e) (λ e. rw e)

pub loop-k-init : goal.loop-k-init
loop-k-init c = let a = c.args in begins (may_stand any_byte) a.s.now a.at (a.width - 1)

pub loop-k-preserved : goal.loop-k-preserved
loop-k-preserved c =
    let a = c.args in
    one_more (may_stand any_byte) a.s.now a.at (a.width - 1) _ c.loop-k.invariant (omega arith) (by_zero _ _)

pub returns : goal.returns
returns c =
    let a = c.args in
    let s = a.s.now in
    let q : suc (a.width - 1) ≡ a.width = omega arith in
    ends (may_stand any_byte) s a.at (a.width - 1) c.loop-k.invariant (omega arith)
    ∙ sym (filled_by_bytes a.at (a.width - 1) s (omega arith))
    ∙ ap (λ (w : ℕ). is_filled a.at w s) q
