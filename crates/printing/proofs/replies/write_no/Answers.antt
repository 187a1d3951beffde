-- `printing::replies::write_no` meets its contract: the digits stand behind the word.
use native.Mathlib.Omega.{arith}
use Rattle.syntax.proofs.NumberLaws.{decimal_length}
use Rattle.printing.specs.PrintedLaws.{wrote_behind, wrote_number}
use Rattle.printing.proofs.replies.write_no.Goals as goal

pub write_decimal-requires : goal.write_decimal-requires
write_decimal-requires c =
    let w = c.write_word-at in
    omega (arith, w.auto.out, w.ensures.ends, decimal_length 19 c.args.n (omega arith))

pub returns : goal.returns
returns c = wrote_behind c.write_word-at.ensures (wrote_number (omega arith) c.write_decimal.ensures) (omega arith)
