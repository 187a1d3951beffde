-- `soundness::row::may_name` meets its contract: it is the definition's text.
use mathlib.Core.Path.{refl}
use Rattle.syntax.specs.Path.{name_byte}
use Rattle.soundness.specs.Tests.{may_name}
use Rattle.soundness.proofs.row.may_name.Goals as goal

pub returns : goal.returns
unfolding may_name name_byte
returns c = λ next. refl
