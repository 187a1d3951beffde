-- `moving::relabel::shift` meets its contract: to add and to subtract with the remainder of each is to do both and take one remainder.
use Rattle.std.proofs.Common.{arith}
use Rattle.moving.specs.Relabel.{shifted}
use Rattle.moving.proofs.relabel.shift.Goals as goal

pub returns : goal.returns
unfolding shifted
returns c = omega arith
