-- `listing::fields::write_behind` meets its contract: a byte is stored, then a text behind it.
use mathlib.Core.Path.{refl, ◌∙◌}
use native.Mathlib.Omega.{arith}
use Prim.Native.Nat.{◌+◌}
use lib.ListN.{length, set, length-set}
use Rattle.buffers.specs.Over.{Wrote}
use Rattle.buffers.specs.OverLaws.{over_paste, wrote_byte, wrote_both}
use Rattle.listing.proofs.fields.write_behind.Goals as goal

pub shape_of-answer : goal.shape_of-answer
shape_of-answer c = c.write.auto.b ∙ simp length-set

pub returns : goal.returns
returns c =
    let w = c.write in
    let a = c.args in
    let b = a.answer.now in
    let t = a.text.now in
    let v : Wrote t (set b a.at a.mark) (a.at + 1) w.new.b (a.at + 1 + length t) =
    record { ends = refl; holds = w.ensures ∙ over_paste (set b a.at a.mark) t (a.at + 1) } in
    wrote_both (wrote_byte a.mark b a.at (omega arith)) v (omega arith)
