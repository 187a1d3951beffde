-- `stored_header::log_out` meets its contract: the header is lent, and the tree stays behind what is left of it.
use mathlib.Core.Path.{sym}
use Rattle.stored_header.specs.StoredLaws.{long_enough, header_length, lent_headed, logout_carries}
use Rattle.stored_header.proofs.log_out.Goals as goal

pub slice_bounds-logout-end : goal.slice_bounds-logout-end
slice_bounds-logout-end c = long_enough c.requires.some_store

pub slice_bounds-logout-end-2 : goal.slice_bounds-logout-end-2
slice_bounds-logout-end-2 c = sym (header_length c.requires.some_store)

pub logout-requires : goal.logout-requires
logout-requires c = record {
  headed = lent_headed c.requires.some_store;
  uid_bound = c.requires.uid_bound;
}

pub returns : goal.returns
returns c s h =
    let l = c.logout in
    let a = c.args in
    logout_carries h a.caller l.result l.new.header (l.ensures s.setup s.store.registry h.header)
