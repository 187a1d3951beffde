-- `soundness::row::is_mode` meets its contract: less than 512, or with set-gid.
use Rattle.std.proofs.Common.{arith}
use Rattle.std.proofs.lemmas.Bool.Decides.{nat_tests}
use Rattle.syntax.specs.Number.{is_mode}
use Rattle.soundness.proofs.row.is_mode.Goals as goal

pub returns-then-mode-lt512 : goal.returns-then-mode-lt512
unfolding is_mode
returns-then-mode-lt512 c = grind (arith, nat_tests)

pub returns-else-mode-lt512 : goal.returns-else-mode-lt512
unfolding is_mode
returns-else-mode-lt512 c = grind (arith, nat_tests)
