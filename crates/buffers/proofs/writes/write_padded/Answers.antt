-- `buffers::writes::write_padded` meets its contract: the text and the zeros behind it are one piece.
use Rattle.std.proofs.Common.{ℕ, List, ◌+◌, ◌-◌, length, replicate, arith, ap, ◌∙◌}
use Rattle.std.proofs.Math.Seq.{paste}
use Rattle.buffers.specs.PasteLaws.{padded_paste}
use Rattle.buffers.proofs.writes.write_padded.Goals as goal

pub returns : goal.returns
returns c =
    let a = c.args in
    let s = a.s.now in
    let n = length s in
    c.clear.ensures
    ∙ ap (λ (l : List ℕ). paste l (a.at + n) (replicate (a.width - n) 0) (a.width - n)) c.write.ensures
    ∙ padded_paste a.b.now s a.at a.width (omega arith) (omega arith)
