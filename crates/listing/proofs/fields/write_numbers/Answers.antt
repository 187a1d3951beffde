-- `listing::fields::write_numbers` meets its contract: the mode, and the revision behind it.
use mathlib.Core.Path.{ap₂}
use mathlib.Core.List.{◌∷◌, ◌++◌}
use Prim.Native.Nat.{ℕ}
use native.Mathlib.Omega.{arith}
use Rattle.syntax.specs.Pieces.{comma}
use Rattle.syntax.specs.Number.{decimal_text, mode_text}
use Rattle.listing.specs.RowListing.{number_fields}
use Rattle.listing.proofs.RowListingLaws.{writes_as, writes_both}
use Rattle.listing.proofs.fields.write_numbers.Goals as goal

pub returns : goal.returns
unfolding number_fields
returns c =
    let mode = c.mode_at.ensures in
    let revision = c.revision_at.ensures in
    writes_as (ap₂ (λ (u v : ℕ). (comma ∷ mode_text u) ++ (comma ∷ decimal_text v)) mode revision)
    (writes_both c.write_mode_field-end.ensures c.write_decimal_field.ensures (omega arith))
