-- `setups::opening::setup_line` meets its contract: by what the line comes to in the header.
use Rattle.std.specs.Prelude.{Some}
use mathlib.Core.Path.{sym, ap, ◌∙◌}
use native.Mathlib.Omega.{arith}
use lib.Seq.{length-take-le}
use Rattle.store.specs.HeaderLayout.{header_width}
use Rattle.setups.specs.OpeningLaws.{store_wide, front_begun, leads_called, wrong_called, still_begun, end_called}
use Rattle.setups.proofs.opening.setup_line.Goals as goal

pub slice_bounds-read_line-end : goal.slice_bounds-read_line-end
slice_bounds-read_line-end c = omega (arith, store_wide c.args.store.now c.requires.begun_store)

pub slice_bounds-read_line-end-2 : goal.slice_bounds-read_line-end-2
slice_bounds-read_line-end-2 c = sym (length-take-le header_width c.args.store.now (omega (arith, store_wide c.args.store.now c.requires.begun_store)))

pub read_line-requires : goal.read_line-requires
read_line-requires c = record {
  begun = front_begun c.args.store.now c.requires.begun_store;
  kind_bound = c.requires.kind_bound;
}

pub returns-in_err-read : goal.returns-in_err-read
returns-in_err-read c =
    let a = c.args in
    let l = c.read_line in
    rw c.from_residual.ensures (wrong_called a.store.now c.requires.begun_store a.line.now a.kind l.new.header l.result l.ensures c.in_err-read.was)

pub open_store-requires : goal.open_store-requires
open_store-requires c =
    let a = c.args in
    let l = c.read_line in
    still_begun a.store.now c.requires.begun_store a.line.now a.kind l.new.header l.result l.ensures (c.in_ok-read.was ∙ ap Some c.in-End.is)

pub returns-in-End : goal.returns-in-End
returns-in-End c =
    let a = c.args in
    let l = c.read_line in
    let o = c.open_store in
    rw c.in-End.is
    (end_called a.store.now c.requires.begun_store a.line.now a.kind l.new.header l.result l.ensures (c.in_ok-read.was ∙ ap Some c.in-End.is) o.new.store o.ensures)

pub returns-in_default : goal.returns-in_default
returns-in_default c =
    let a = c.args in
    let l = c.read_line in
    leads_called a.store.now c.requires.begun_store a.line.now a.kind l.new.header l.result l.ensures c.in_ok-read.read c.in_default.not-End c.in_ok-read.was
