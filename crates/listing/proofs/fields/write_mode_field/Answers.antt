-- `listing::fields::write_mode_field` meets its contract: the comma is stored, and the digits stand behind it.
use mathlib.Core.Path.{◌∙◌}
use native.Mathlib.Omega.{arith}
use lib.ListN.{length-set}
use Rattle.buffers.specs.OverLaws.{wrote_byte, wrote_both}
use Rattle.syntax.specs.Pieces.{comma}
use Rattle.syntax.proofs.NumberLaws.{mode_length}
use Rattle.listing.proofs.fields.write_mode_field.Goals as goal

pub write_mode-requires : goal.write_mode-requires
write_mode-requires c = simp length-set (omega arith)

pub shape_of-answer : goal.shape_of-answer
shape_of-answer c = c.write_mode.auto.b ∙ simp length-set

pub returns : goal.returns
unfolding comma
returns c =
    let w = c.write_mode in
    let a = c.args in
    let e = w.ensures.ends in
    record {
      wrote = wrote_both (wrote_byte 44 a.answer.now a.at (omega arith)) w.ensures (omega (arith, mode_length a.mode));
      short = omega (arith, mode_length a.mode);
    }
