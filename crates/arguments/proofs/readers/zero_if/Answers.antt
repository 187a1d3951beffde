-- `arguments::readers::zero_if` meets its contract: the test is what the definition checks.
use Rattle.std.proofs.Common.{◌≡◌, Bool, true, false, refl}
use Rattle.std.specs.Bool.{then_some}
use Rattle.buffers.specs.Options.{option_of}
use Rattle.syntax.specs.Form.{◌>>◌, check}
use Rattle.arguments.specs.Kinds.{zero_if}
use Rattle.arguments.proofs.readers.zero_if.Goals as goal

by_test : (b : Bool) → option_of (then_some b 0) ≡ zero_if b
unfolding zero_if check ◌>>◌
by_test true = refl
by_test false = refl

pub returns : goal.returns
returns c = rw c.then_some.ensures (by_test c.args.formed)
