-- `directory_commits::command::commit_directory` meets its contract: the number of the files committed is written over the answer.
use native.Mathlib.Omega.{arith}
use Rattle.directory_commits.specs.CommandLaws.{number_fits, directory_carries}
use Rattle.directory_commits.proofs.command.commit_directory.Goals as goal

pub write_decimal-requires : goal.write_decimal-requires
write_decimal-requires c =
    omega (arith, number_fits c.requires.directory_row (c.commit_below-n.ensures c.requires.directory_row), c.requires.in_bounds)

pub returns : goal.returns
returns c x = directory_carries x (c.commit_below-n.ensures x) c.write_decimal.ensures
