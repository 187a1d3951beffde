-- `sound_store::pairs_part::is_pair` meets its contract: by both bytes.
use Rattle.std.proofs.Common.{arith}
use Rattle.std.proofs.lemmas.Bool.Decides.{nat_tests}
use Rattle.sound_store.specs.HeaderTests.{is_pair_at}
use Rattle.sound_store.proofs.pairs_part.is_pair.Goals as goal

pub returns-then-senior-junior : goal.returns-then-senior-junior
unfolding is_pair_at
returns-then-senior-junior c = grind (arith, nat_tests)

pub returns-else-senior-junior : goal.returns-else-senior-junior
unfolding is_pair_at
returns-else-senior-junior c = grind (arith, nat_tests)
