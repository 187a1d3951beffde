-- `agenda::lines_ahead::line_next` meets its contract: a line ends within the window, so there is a number behind its end.
use mathlib.Core.Path.{sym}
use native.Mathlib.Omega.{arith}
use Rattle.agenda.proofs.AgendaLaws.{line_within}
use Rattle.agenda.proofs.lines_ahead.line_next.Goals as goal

pub overflow_add-end : goal.overflow_add-end
overflow_add-end c =
    let h = c.requires in
    omega (arith, (line_within c.args.window.now c.args.at h c.in-Line.end (sym c.in-Line.ensures)).1, h.wide, h.within)
