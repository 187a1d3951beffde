-- `stored_header::caller_in` meets its contract: it is what the header tells.
use mathlib.Core.Path.{sym}
use Rattle.stored_header.specs.StoredLaws.{header_length, lent_headed}
use Rattle.stored_header.proofs.caller_in.Goals as goal

pub slice_bounds-caller_of-end : goal.slice_bounds-caller_of-end
slice_bounds-caller_of-end c = sym (header_length c.requires)

pub caller_of-requires : goal.caller_of-requires
caller_of-requires c = lent_headed c.requires

pub returns : goal.returns
returns c s h = c.caller_of.ensures s.setup s.store.registry h.header
