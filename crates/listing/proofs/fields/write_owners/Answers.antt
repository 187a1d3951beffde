-- `listing::fields::write_owners` meets its contract: the owner, and the group behind it.
use mathlib.Core.Path.{ap, ap₂}
use mathlib.Core.List.{◌∷◌, ◌++◌}
use Prim.Native.Nat.{ℕ}
use native.Mathlib.Omega.{arith}
use Rattle.accounts.specs.declared.Uid.{Uid}
use Rattle.accounts.specs.declared.Gid.{Gid}
use Rattle.syntax.specs.Pieces.{comma}
use Rattle.syntax.specs.Number.{decimal_text}
use Rattle.listing.specs.RowListing.{owner_fields}
use Rattle.listing.proofs.RowListingLaws.{writes_as, writes_both}
use Rattle.listing.proofs.fields.write_owners.Goals as goal

pub returns : goal.returns
unfolding owner_fields
returns c =
    let owner = ap (λ (x : Uid). x.0) c.owner_at-owner.ensures in
    let group = ap (λ (x : Gid). x.0) c.group_at-group.ensures in
    writes_as (ap₂ (λ (u v : ℕ). (comma ∷ decimal_text u) ++ (comma ∷ decimal_text v)) owner group)
    (writes_both c.write_decimal_field-end.ensures c.write_decimal_field.ensures (omega arith))
