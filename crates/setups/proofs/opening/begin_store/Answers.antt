-- `setups::opening::begin_store` meets its contract: a header of zeros is the one of nothing.
use mathlib.Core.Path.{◌∙◌}
use native.Mathlib.Omega.{arith}
use Rattle.store.specs.StoreBytes.{store_width}
use Rattle.setups.specs.OpeningLaws.{nothing_cleared}
use Rattle.setups.proofs.opening.begin_store.Goals as goal

pub clear-requires : goal.clear-requires
unfolding store_width
clear-requires c = omega arith

pub returns : goal.returns
returns c = c.clear.ensures ∙ nothing_cleared c.args.store.now
