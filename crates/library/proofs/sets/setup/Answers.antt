-- `library::sets::setup` meets its contract: the buffer's length decides first, then what the text comes to.
use mathlib.Core.Path.{sym, ◌∙◌, ap}
use native.Mathlib.Omega.{arith}
use Rattle.setups.specs.Making.{TextRead}
use Rattle.store.specs.StoreBytes.{store_width}
use Rattle.library.specs.CallBytes.{set_up_as}
use Rattle.library.specs.CallBytesLaws.{setup_told, unset_elsewhere, made_called}
use Rattle.library.proofs.sets.setup.Goals as goal

pub returns-then-store-ne-STORE : goal.returns-then-store-ne-STORE
returns-then-store-ne-STORE c =
    let d = c.args in
    unset_elsewhere d.store.now d.text.now c.if-store-ne-STORE.true

pub make_store-requires : goal.make_store-requires
unfolding store_width
make_store-requires c = omega arith

pub returns-in-Ok : goal.returns-in-Ok
unfolding setup_told
returns-in-Ok c =
    let d = c.args in
    let m = c.make_store in
    ap (λ (x : TextRead). set_up_as (setup_told x) m.new.store) (sym c.in-Ok.is)
    ∙ made_called d.store.now d.text.now m.result m.new.store (omega arith) m.ensures

pub returns-in-Err : goal.returns-in-Err
unfolding setup_told
returns-in-Err c =
    let d = c.args in
    let m = c.make_store in
    ap (λ (x : TextRead). set_up_as (setup_told x) m.new.store) (sym c.in-Err.is)
    ∙ made_called d.store.now d.text.now m.result m.new.store (omega arith) m.ensures
