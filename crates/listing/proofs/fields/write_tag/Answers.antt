-- `listing::fields::write_tag` meets its contract: the path of the tag, and its revision behind it.
use mathlib.Core.Path.{ap, ap₂}
use mathlib.Core.List.{◌∷◌, ◌++◌}
use Prim.Native.Nat.{ℕ}
use native.Mathlib.Omega.{arith}
use lib.ListN.{length}
use Rattle.buffers.specs.Text.{Text}
use Rattle.syntax.specs.Pieces.{comma}
use Rattle.syntax.specs.Number.{decimal_text}
use Rattle.tree.proofs.RowAtLaws.{row_tag_fits}
use Rattle.listing.specs.RowListing.{or_dash, tag_fields_at}
use Rattle.listing.proofs.RowListingLaws.{writes_as, writes_both}
use Rattle.listing.proofs.fields.write_tag.Goals as goal

pub write_tag_path-end-requires : goal.write_tag_path-end-requires
write_tag_path-end-requires c =
    let a = c.args in
    let e = ap length c.tag_path_at.ensures in
    record {
      path_len_bound = omega (arith, row_tag_fits a.tree.now a.i);
      at_in_bounds = omega arith;
    }

pub returns : goal.returns
unfolding tag_fields_at
returns c =
    let path = c.tag_path_at.ensures in
    let revision = c.tag_revision_at.ensures in
    writes_as (ap₂ (λ (t : Text) (v : ℕ). (comma ∷ or_dash t) ++ (comma ∷ decimal_text v)) path revision)
    (writes_both c.write_tag_path-end.ensures c.write_decimal_field.ensures (omega arith))
