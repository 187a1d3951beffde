-- `store::home::home_path` meets its contract: one digit, or two of which the first is 1.
use native.Mathlib.Omega.{arith}
use Rattle.store.proofs.InitialRowsLaws.{short_path, long_path}
use Rattle.store.proofs.home.home_path.Goals as goal

pub returns-then-uid-lt10-clause-path : goal.returns-then-uid-lt10-clause-path
returns-then-uid-lt10-clause-path c = short_path c.args.uid (omega arith)

pub returns-clause-path : goal.returns-clause-path
returns-clause-path c = long_path c.args.uid (omega arith) (omega arith)
