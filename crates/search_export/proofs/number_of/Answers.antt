-- `search_export::number_of` meets its contract: each case is the definition's.
use Rattle.std.proofs.Common.{rules}
use Rattle.search_export.specs.SearchCall.{number_told}
use Rattle.search_export.proofs.number_of.Goals as goal

pub returns-in-Ok : goal.returns-in-Ok
unfolding number_told
returns-in-Ok c = search rules

pub returns-in-Err : goal.returns-in-Err
unfolding number_told
returns-in-Err c = search rules
