-- `syntax::text::field_at` meets its contract: the end is where `piece_end` says.
use mathlib.Core.Path.{sym}
use Rattle.syntax.specs.Pieces.{comma}
use Rattle.syntax.specs.Parts.{field_at}
use Rattle.syntax.proofs.text.field_at.Goals as goal

pub returns : goal.returns
unfolding field_at comma
returns c = rw (sym c.piece_end-end.ensures.0)
