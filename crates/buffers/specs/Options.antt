-- The code's options as those of the specification: where nothing is found, `None` in the one is `none` in the other.
use Rattle.std.specs.Prelude.{◌≡◌, Option as Found, Some, None}
use Rattle.std.proofs.Math.Option.{Option, none, some}

abbrev pub option_of : {A : Type 0} → Found A → Option A
option_of (Some a) = some a
option_of None = none

pub option_some : {A : Type 0} {r : Found A} {a : A} → r ≡ Some a → option_of r ≡ some a
option_some e = rw e

pub option_none : {A : Type 0} {r : Found A} → r ≡ None → option_of r ≡ none
option_none e = rw e
