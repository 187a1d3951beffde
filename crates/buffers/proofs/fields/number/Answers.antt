-- `buffers::fields::number` meets its contract: the sum of the two bytes is the same, whichever stands first.
use Rattle.std.proofs.Common.{arith, add-one}
use Rattle.buffers.specs.Fields.{number_at}
use Rattle.buffers.proofs.fields.number.Goals as goal

pub returns : goal.returns
unfolding number_at
returns c = let e = rw add-one at c.from_le_bytes.ensures in omega (arith, e)
