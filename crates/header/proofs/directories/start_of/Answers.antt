-- `header::directories::start_of` meets its contract: the directories stand one after another.
use native.Mathlib.Omega.{arith}
use Rattle.header.proofs.directories.start_of.Goals as goal

pub returns : goal.returns
returns c = omega arith
