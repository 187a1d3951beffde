-- `printing::replies::write_word` meets its contract: a text copied whole is written.
use Rattle.buffers.specs.OverLaws.{wrote_text}
use Rattle.printing.proofs.replies.write_word.Goals as goal

pub returns : goal.returns
returns c =
    let a = c.args in
    rw c.write.ensures (wrote_text a.word.now a.out.now a.at)
