-- `printing::replies::write_text` meets its contract: byte 10 stands behind the bytes.
use native.Mathlib.Omega.{arith}
use Rattle.syntax.specs.Pieces.{newline}
use Rattle.printing.specs.PrintedLaws.{printed_line}
use Rattle.printing.proofs.replies.write_text.Goals as goal

pub bounds-out-end : goal.bounds-out-end
bounds-out-end c = let w = c.write_first-end in omega (arith, w.auto.out, w.ensures.short)

pub overflow_add-result : goal.overflow_add-result
overflow_add-result c = let w = c.write_first-end in omega (arith, w.auto.out, w.ensures.short)

pub returns : goal.returns
unfolding newline
returns c = let w = c.write_first-end in printed_line w.ensures w.auto.out (omega arith)
