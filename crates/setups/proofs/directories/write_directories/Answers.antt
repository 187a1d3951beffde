-- `setups::directories::write_directories` meets its contract: after k turns those of the accounts below k are written.
use native.Mathlib.Omega.{arith}
use Rattle.setups.specs.DirectoriesLaws.{none_written, one_written, all_written}
use Rattle.setups.proofs.directories.write_directories.Goals as goal

pub loop-k-init : goal.loop-k-init
loop-k-init c = none_written c.args.header.now c.args.persons (omega arith)

pub loop-k-preserved : goal.loop-k-preserved
loop-k-preserved c =
    let w = c.write_directory in
    one_written c.loop-k.invariant w.new.header (omega arith) (omega arith) w.auto.header w.ensures

pub returns : goal.returns
returns c = all_written c.loop-k.invariant (omega arith)
