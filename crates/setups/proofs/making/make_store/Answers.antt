-- `setups::making::make_store` meets its contract: by what the text comes to in a header of its own.
use Rattle.std.proofs.Common.{sym, ap, ◌∙◌, arith}
use Rattle.std.proofs.Math.Seq.{paste}
use Rattle.std.proofs.lemmas.Result.{err_from_is_err_and}
use Rattle.store.specs.StoreBytes.{store_width}
use Rattle.store.proofs.SetupHeaderLaws.{nothing_is_zeros}
use Rattle.setups.specs.MakingLaws.{store_left, held_wide, to_open, store_opened}
use Rattle.setups.proofs.making.make_store.Goals as goal

pub read_header-requires : goal.read_header-requires
read_header-requires c = sym nothing_is_zeros

pub returns-in_err-read_header : goal.returns-in_err-read_header
returns-in_err-read_header c =
    let a = c.args in
    let h = c.read_header in
    let p = err_from_is_err_and c.from_residual.result c.from_residual.ensures.1 in
    rw (p.1, p.2) (store_left a.text.now h.new.header a.store.now h.result h.ensures _ c.in_err-read_header.was)

pub write-requires : goal.write-requires
unfolding store_width
write-requires c =
    let a = c.args in
    let h = c.read_header in
    omega (arith, held_wide a.text.now h.new.header a.store.now h.result h.ensures c.in_ok-read_header.was)

pub open_store-requires : goal.open_store-requires
unfolding store_width
open_store-requires c =
    let a = c.args in
    let h = c.read_header in
    let wide = held_wide a.text.now h.new.header a.store.now h.result h.ensures c.in_ok-read_header.was in
    to_open a.text.now h.new.header a.store.now h.result h.ensures c.in_ok-read_header.was c.write.new.b
    (c.write.ensures ∙ ap (paste a.store.now 0 h.new.header) wide) c.requires

pub returns : goal.returns
returns c =
    let a = c.args in
    let h = c.read_header in
    let o = c.open_store in
    let wide = held_wide a.text.now h.new.header a.store.now h.result h.ensures c.in_ok-read_header.was in
    store_opened a.text.now h.new.header a.store.now h.result h.ensures c.in_ok-read_header.was c.write.new.b
    (c.write.ensures ∙ ap (paste a.store.now 0 h.new.header) wide) o.new.store o.ensures
