use Rattle.setups.specs.DirectoriesLaws.{DirectoriesWritten}
use Rattle.setups.proofs.directories.write_directories.Given as goal

abbrev pub invariant-loop-k : goal.invariant-loop-k
invariant-loop-k l = DirectoriesWritten l.initial.header l.persons l.header l.k
