-- `stored_header::log_in` meets its contract: the header is lent, and the tree stays behind what is left of it.
use mathlib.Core.Path.{sym, subst}
use lib.ListN.{take}
use Rattle.buffers.specs.Text.{Text}
use Rattle.header.specs.HeaderBytes.{LogsIn}
use Rattle.store.specs.HeaderLayout.{header_width}
use Rattle.stored_header.specs.StoredLaws.{long_enough, header_length, lent_headed, login_carries}
use Rattle.stored_header.proofs.log_in.Goals as goal

pub slice_bounds-login-end : goal.slice_bounds-login-end
slice_bounds-login-end c = long_enough c.requires.some_store

pub slice_bounds-login-end-2 : goal.slice_bounds-login-end-2
slice_bounds-login-end-2 c = sym (header_length c.requires.some_store)

pub of-requires : goal.of-requires
of-requires c = c.requires.inside

pub login-requires : goal.login-requires
login-requires c = record {
  headed = lent_headed c.requires.some_store;
  uid_bound = c.requires.uid_bound;
  role_bound = c.requires.role_bound;
}

pub returns : goal.returns
returns c s z h e =
    let a = c.args in
    let l = c.login in
    let H = take header_width a.store.now in
    let logs = subst (λ (x : Text). LogsIn H a.caller.account.uid a.role x l.result l.new.header) c.of.ensures l.ensures in
    login_carries h a.caller z _ l.result l.new.header (logs s.setup s.store.registry h.header z e)
