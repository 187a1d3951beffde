-- `setups::opening::open_store` meets its contract: the first working directories in the header that stands there, the initial tree
-- behind it.
use mathlib.Core.Path.{sym, ◌∙◌}
use native.Mathlib.Omega.{arith}
use Rattle.store.specs.StoreBytes.{setup_of}
use Rattle.store.proofs.InitialRowsLaws.{slots_of_setup}
use Rattle.setups.specs.OpeningLaws.{store_wide, tree_wide, opened}
use Rattle.setups.proofs.opening.open_store.Goals as goal

pub slots_in-persons-requires : goal.slots_in-persons-requires
slots_in-persons-requires c = omega (arith, store_wide c.args.store.now c.requires)

pub write_directories-requires : goal.write_directories-requires
write_directories-requires c = omega (arith, store_wide c.args.store.now c.requires)

pub slice_bounds-write_initial-count : goal.slice_bounds-write_initial-count
slice_bounds-write_initial-count c =
    omega (arith, c.write_directories.auto.header, store_wide c.args.store.now c.requires)

pub slice_bounds-write_initial-start : goal.slice_bounds-write_initial-start
slice_bounds-write_initial-start c =
    omega (arith, c.write_directories.auto.header, store_wide c.args.store.now c.requires)

pub write_initial-requires : goal.write_initial-requires
write_initial-requires c =
    let b = c.args.store.now in
    let d = c.write_directories in
    let p = c.slots_in-persons in
    record {
      wide = tree_wide d.new.header (d.auto.header ∙ store_wide b c.requires);
      persons_value = slots_of_setup p.result (setup_of b) c.requires.in_range (sym p.ensures);
    }

pub returns : goal.returns
returns c =
    let b = c.args.store.now in
    let p = c.slots_in-persons in
    let d = c.write_directories in
    let t = c.write_initial in
    opened b c.requires p.result d.new.header p.ensures d.ensures t.new.tree (t.ensures (setup_of b) (sym p.ensures))
