-- `sound_store::accounts_part::is_named` meets its contract: by what is known of the number.
use Rattle.std.proofs.Common.{arith}
use Rattle.std.proofs.lemmas.Bool.Decides.{nat_tests}
use Rattle.sound_store.specs.HeaderTests.{named_at}
use Rattle.sound_store.proofs.accounts_part.is_named.Goals as goal

pub returns-then-uid-eq0 : goal.returns-then-uid-eq0
unfolding named_at
returns-then-uid-eq0 c = grind (arith, nat_tests)

pub returns-then-uid-le15 : goal.returns-then-uid-le15
unfolding named_at
returns-then-uid-le15 c = grind (arith, nat_tests)

pub returns-else-uid-le15 : goal.returns-else-uid-le15
unfolding named_at
returns-else-uid-le15 c = grind (arith, nat_tests)
