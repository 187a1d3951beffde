-- `line_fields::parts::place_after` meets its contract: the test decides the definition.
use borrow.Author.Tests.{lt-ltb, le-ltb}
use lib.ListN.{length}
use Rattle.line_fields.specs.FieldsRead.{place_after}
use Rattle.line_fields.proofs.parts.place_after.Goals as goal

pub returns-then-f-line : goal.returns-then-f-line
unfolding place_after
returns-then-f-line c = rw (lt-ltb _ _ c.if-f-line.true)

pub returns : goal.returns
unfolding place_after
returns c = rw (le-ltb c.args.f.end (length c.args.line.now) c.if-f-line.false)
