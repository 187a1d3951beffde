-- `agenda::reports::refuse` meets its contract: it is the reply of a wrong line.
use Rattle.agenda.proofs.AgendaLaws.{wrong_line_told}
use Rattle.agenda.proofs.reports.refuse.Goals as goal

pub returns : goal.returns
returns c = rw (wrong_line_told c.args.line c.args.answer.now) c.write_reply.ensures
