-- `printing::replies::write_reply` meets its contract: byte 10 stands behind the line.
use native.Mathlib.Omega.{arith}
use Rattle.syntax.specs.Pieces.{newline}
use Rattle.printing.specs.PrintedLaws.{printed_line}
use Rattle.printing.proofs.replies.write_reply.Goals as goal

pub bounds-out-end : goal.bounds-out-end
bounds-out-end c = let w = c.write_answer-end in omega (arith, w.auto.out, w.ensures.short)

pub overflow_add-result : goal.overflow_add-result
overflow_add-result c = let w = c.write_answer-end in omega (arith, w.auto.out, w.ensures.short)

pub returns : goal.returns
unfolding newline
returns c = let w = c.write_answer-end in printed_line w.ensures w.auto.out (omega arith)
