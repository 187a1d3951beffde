-- `listing::fields::write_decimal_field` meets its contract: the comma is stored, and the digits stand behind it.
use mathlib.Core.Path.{◌∙◌}
use native.Mathlib.Omega.{arith}
use Prim.Native.Nat.{◌+◌}
use lib.ListN.{set, length-set}
use Rattle.buffers.specs.OverLaws.{wrote_byte, wrote_both}
use Rattle.syntax.specs.Pieces.{comma}
use Rattle.syntax.proofs.NumberLaws.{decimal_length}
use Rattle.syntax.proofs.RenderLaws.{wrote_decimal_ends}
use Rattle.listing.proofs.fields.write_decimal_field.Goals as goal

pub write_decimal-requires : goal.write_decimal-requires
write_decimal-requires c = simp length-set (omega (arith, decimal_length 4 c.args.n (omega arith)))

pub shape_of-answer : goal.shape_of-answer
shape_of-answer c = c.write_decimal.auto.b ∙ simp length-set

pub returns : goal.returns
unfolding comma
returns c =
    let w = c.write_decimal in
    let a = c.args in
    let e = wrote_decimal_ends a.n (set a.answer.now a.at 44) (a.at + 1) w.new.b w.result (omega arith) w.ensures in
    record {
      wrote = wrote_both (wrote_byte 44 a.answer.now a.at (omega arith)) w.ensures (omega (arith));
      short = omega (arith);
    }
