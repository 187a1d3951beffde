-- `syntax::Span::of` meets its contract: the bytes from the start up to the end are its text.
use Rattle.std.proofs.Common.{refl}
use Rattle.syntax.specs.Parts.{part, span_text}
use Rattle.syntax.proofs.Span.of.Goals as goal

pub returns : goal.returns
unfolding span_text part
returns c = refl
