-- `sound_store::grants_part::is_password` meets its contract: it is the contract of what it calls.
use Rattle.std.proofs.Common.{rules}
use Rattle.syntax.specs.Path.{is_name}
use Rattle.sound_store.specs.HeaderTests.{is_password_at}
use Rattle.sound_store.proofs.grants_part.is_password.Goals as goal

pub returns : goal.returns
unfolding is_password_at
returns c = c.holds_padded.ensures is_name (λ t r k. search rules)
