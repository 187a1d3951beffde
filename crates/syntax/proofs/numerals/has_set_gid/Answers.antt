-- `syntax::numerals::has_set_gid` meets its contract: the first octal digit is what the mode's bits leave above the other three.
use mathlib.Core.Path.{refl}
use Rattle.syntax.specs.Number.{set_gid}
use Rattle.syntax.proofs.numerals.has_set_gid.Goals as goal

pub returns : goal.returns
unfolding set_gid
returns c = refl
