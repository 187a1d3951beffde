-- `patterns::refused` meets its contract: what is printed stands in the buffer.
use mathlib.Core.Path.{◌∙◌}
use Rattle.printing.specs.PrintedLaws.{printed_text}
use Rattle.agenda.specs.Agenda.{report_text}
use Rattle.agenda.proofs.AgendaLaws.{wrong_line_told}
use Rattle.patterns.proofs.refused.Goals as goal

pub print-printed-requires-clause-out_value : goal.print-printed-requires-clause-out_value
unfolding report_text
print-printed-requires-clause-out_value c = printed_text c.refuse-n.ensures ∙ wrong_line_told _ c.args.answer.now
