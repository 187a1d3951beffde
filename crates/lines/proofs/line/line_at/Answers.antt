-- `lines::line::line_at` meets its contract: what the line tells of the text up to its end, it tells of the whole.
use mathlib.Core.Path.{sym}
use lib.Seq.{length-take-le}
use Rattle.lines.specs.LineLaws.{told_whole}
use Rattle.lines.proofs.line.line_at.Goals as goal

pub slice_bounds-last_line-end : goal.slice_bounds-last_line-end
slice_bounds-last_line-end c =
    let a = c.args in
    sym (length-take-le a.end a.text.now c.requires.end_in_bounds)

pub last_line-requires : goal.last_line-requires
last_line-requires c =
    let a = c.args in
    rw (length-take-le a.end a.text.now c.requires.end_in_bounds) c.requires.start_le_end

pub returns : goal.returns
returns c =
    let a = c.args in
    told_whole a.text.now a.start a.end c.last_line.result c.requires.start_le_end c.requires.end_in_bounds c.last_line.ensures
