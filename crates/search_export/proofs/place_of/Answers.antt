-- `search_export::place_of` meets its contract: each case is the definition's.
use Rattle.std.proofs.Common.{rules}
use Rattle.search_export.specs.SearchCall.{place_told}
use Rattle.search_export.proofs.place_of.Goals as goal

pub returns : goal.returns
unfolding place_told
returns c = search rules
