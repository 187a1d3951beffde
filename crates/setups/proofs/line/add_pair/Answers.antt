-- `setups::line::add_pair` meets its contract: too late, not falling, one too many, or written behind the others.
use mathlib.Core.Path.{refl}
use Prim.Native.Nat.{◌≤◌, ◌<◌}
use native.Mathlib.Omega.{arith}
use lib.ListN.{length}
use Rattle.store.specs.StoreBytes.{setup_of}
use Rattle.setups.specs.LineReadLaws.{late_pair, no_fall, pairs_full, new_pair, begun_wide, pairs_counted, wrong_done, pair_done}
use Rattle.setups.proofs.line.add_pair.Goals as goal

pub returns-then-kind-gt2 : goal.returns-then-kind-gt2
returns-then-kind-gt2 c =
    let a = c.args in
    wrong_done a.header.now c.requires (late_pair a.kind (setup_of a.header.now) a.senior a.junior c.if-kind-gt2.true)

pub returns-then-junior-senior : goal.returns-then-junior-senior
returns-then-junior-senior c =
    let a = c.args in
    wrong_done a.header.now c.requires (no_fall a.kind (setup_of a.header.now) a.senior a.junior c.if-junior-senior.true)

pub bounds-header-64 : goal.bounds-header-64
bounds-header-64 c = omega (arith, begun_wide c.args.header.now c.requires)

pub returns-then-n-ge28 : goal.returns-then-n-ge28
returns-then-n-ge28 c =
    let a = c.args in
    let b = a.header.now in
    let few : 28 ≤ length (setup_of b).pairs = omega (arith, c.if-n-ge28.true, pairs_counted b c.requires) in
    wrong_done b c.requires (pairs_full a.kind (setup_of b) a.senior a.junior few)

pub write_pair-requires : goal.write_pair-requires
write_pair-requires c = omega (arith, begun_wide c.args.header.now c.requires)

pub bounds-header-64-2 : goal.bounds-header-64-2
bounds-header-64-2 c = omega (arith, c.write_pair.auto.header, begun_wide c.args.header.now c.requires)

pub returns : goal.returns
returns c =
    let a = c.args in
    let w = c.requires in
    let b = a.header.now in
    let few : length (setup_of b).pairs < 28 = omega (arith, pairs_counted b w) in
    pair_done b w (record { senior = a.senior; junior = a.junior }) c.write_pair.new.header _ (omega arith)
    (new_pair a.kind (setup_of b) a.senior a.junior (omega arith) (omega arith) few)
    c.write_pair.auto.header c.write_pair.ensures refl
