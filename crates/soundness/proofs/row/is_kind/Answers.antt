-- `soundness::row::is_kind` meets its contract: by the two bytes that say one.
use Rattle.std.proofs.Common.{arith}
use Rattle.std.proofs.lemmas.Bool.Decides.{nat_tests}
use Rattle.tree.specs.Encoding.{kind_byte}
use Rattle.soundness.specs.Tests.{is_kind_byte}
use Rattle.soundness.proofs.row.is_kind.Goals as goal

pub returns-in-100 : goal.returns-in-100
unfolding is_kind_byte kind_byte
returns-in-100 c = grind (arith, nat_tests)

pub returns-in_default : goal.returns-in_default
unfolding is_kind_byte kind_byte
returns-in_default c = grind (arith, nat_tests)
