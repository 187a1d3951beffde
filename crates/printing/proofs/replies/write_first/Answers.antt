-- `printing::replies::write_first` meets its contract: the first bytes are copied, or all where there are no more.
use native.Mathlib.Omega.{arith}
use Rattle.buffers.specs.PasteLaws.{paste_taken}
use Rattle.printing.specs.PrintedLaws.{wrote_first, wrote_all}
use Rattle.printing.proofs.replies.write_first.Goals as goal

pub returns-then-n-answer : goal.returns-then-n-answer
returns-then-n-answer c =
    let a = c.args in
    rw (c.write.ensures, paste_taken a.out.now a.answer.now a.at a.n (omega arith)) (wrote_first a.answer.now a.out.now a.at a.n (omega arith))

pub returns : goal.returns
returns c =
    let a = c.args in
    let w = c.write_word in
    wrote_all a.answer.now a.out.now w.new.out a.at a.n w.result (omega arith) w.ensures
