-- `soundness::row::content_stands` meets its contract: both stretches together are all bytes before the last.
use mathlib.Core.Path.{◌≡◌, refl, ◌∙◌}
use mathlib.Core.Bool.{◌&&◌}
use Prim.Native.Nat.{ℕ, ◌+◌, ◌-◌}
use native.Mathlib.Omega.{arith}
use Rattle.syntax.specs.Field.{content_byte}
use Rattle.tree.specs.Layout.{content_width}
use Rattle.soundness.specs.Tests.{may_stand, neighbours_pass, content_stands}
use Rattle.soundness.specs.BothLaws.{both, not_both}
use Rattle.soundness.specs.NeighbourLaws.{in_two}
use Rattle.soundness.proofs.row.content_stands.Goals as goal
use Rattle.soundness.proofs.row.content_stands.Goals.{Joined-all_stand, then-all_stand, else-all_stand}

abbrev at_once : ℕ
at_once = 16

-- all bytes but the last
front : (c : Joined-all_stand) → c.if-all_stand.value ≡ neighbours_pass (may_stand content_byte) c.args.at (content_width - 1) c.args.s.now
front c =
    let a = c.args in
    let s = a.s.now in
    let f = may_stand content_byte in
    let q : a.at + content_width - 1 - at_once ≡ a.at + (content_width - 1 - at_once) = omega arith in
    let two : c.if-all_stand.value ≡ (neighbours_pass f a.at (content_width - at_once) s && neighbours_pass f (a.at + (content_width - 1 - at_once)) at_once s) =
    elim c.if-all_stand.branch [
      | then-all_stand w ↦ both c.all_stand.ensures w.if-all_stand.true (w.value-is ∙ rw q at w.all_stand-then-all_stand.ensures)
      | else-all_stand w ↦ not_both _ c.all_stand.ensures w.if-all_stand.false w.value-is
    ] in
    two ∙ in_two f (content_width - 1) a.at s (content_width - at_once) at_once (omega arith) (omega arith) (omega arith)

pub returns-then-all_stand-2 : goal.returns-then-all_stand-2
unfolding content_stands
returns-then-all_stand-2 c =
    let a = c.args in
    let p : a.at + content_width - 1 ≡ a.at + (content_width - 1) = omega arith in
    both (front (goal.at.returns-then-all_stand-2 c).Joined-all_stand) c.if-all_stand-2.true (rw p at c.may_stand.ensures)

pub returns-else-all_stand-2 : goal.returns-else-all_stand-2
unfolding content_stands
returns-else-all_stand-2 c = not_both _ (front (goal.at.returns-else-all_stand-2 c).Joined-all_stand) c.if-all_stand-2.false refl
