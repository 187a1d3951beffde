-- `stored_header::dominance_in` meets its contract: it is what the header tells.
use mathlib.Core.Path.{sym}
use Rattle.stored_header.specs.StoredLaws.{header_length, lent_headed}
use Rattle.stored_header.proofs.dominance_in.Goals as goal

pub slice_bounds-dominance_of-end : goal.slice_bounds-dominance_of-end
slice_bounds-dominance_of-end c = sym (header_length c.requires)

pub dominance_of-requires : goal.dominance_of-requires
dominance_of-requires c = lent_headed c.requires

pub returns : goal.returns
returns c s h = c.dominance_of.ensures s.setup s.store.registry h.header
