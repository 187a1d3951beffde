-- `stored_header::directory_in` meets its contract: it is what the header tells.
use mathlib.Core.Path.{sym}
use Rattle.stored_header.specs.StoredLaws.{header_length, lent_headed}
use Rattle.stored_header.proofs.directory_in.Goals as goal

pub slice_bounds-directory_of-end : goal.slice_bounds-directory_of-end
slice_bounds-directory_of-end c = sym (header_length c.requires.some_store)

pub directory_of-requires : goal.directory_of-requires
directory_of-requires c = record {
  headed = lent_headed c.requires.some_store;
  uid_bound = c.requires.uid_bound;
}

pub returns : goal.returns
returns c s h = c.directory_of.ensures s.setup s.store.registry h.header
