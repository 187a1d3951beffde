-- `search_export::has_row` meets its contract: each test is the definition's.
use Rattle.std.proofs.Common.{arith}
use Rattle.std.proofs.lemmas.Bool.Decides.{nat_tests}
use Rattle.search_export.specs.SearchCall.{is_used}
use Rattle.search_export.proofs.has_row.Goals as goal

pub returns-then-count-le-MOST_ROWS : goal.returns-then-count-le-MOST_ROWS
unfolding is_used
returns-then-count-le-MOST_ROWS c = grind (arith, nat_tests)

pub returns-else-count-le-MOST_ROWS : goal.returns-else-count-le-MOST_ROWS
unfolding is_used
returns-else-count-le-MOST_ROWS c = grind (arith, nat_tests)
