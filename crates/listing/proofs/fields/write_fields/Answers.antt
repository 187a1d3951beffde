-- `listing::fields::write_fields` meets its contract: the fields stand one behind the other.
use mathlib.Core.Path.{ap}
use mathlib.Core.List.{◌∷◌}
use native.Mathlib.Omega.{arith}
use lib.ListN.{length}
use Rattle.buffers.specs.Text.{Text}
use Rattle.syntax.specs.Pieces.{comma}
use Rattle.tree.proofs.RowAtLaws.{row_content_fits}
use Rattle.listing.specs.RowListing.{fields_at}
use Rattle.listing.proofs.RowListingLaws.{writes_as, writes_both, writes_behind}
use Rattle.tree.specs.Layout.{content_width}
use Rattle.listing.proofs.fields.write_fields.Goals as goal

pub write_behind-requires : goal.write_behind-requires
write_behind-requires c =
    let a = c.args in
    let e = ap length c.content_at.ensures in
    omega (arith, row_content_fits a.tree.now a.i)

pub returns : goal.returns
unfolding fields_at comma
returns c =
    let a = c.args in
    let content = c.content_at.ensures in
    let e = ap length content in
    let first = writes_both c.write_kind-kind.ensures c.write_owners-owners.ensures (omega arith) in
    let second = writes_both first c.write_numbers-numbers.ensures (omega arith) in
    let third = writes_both second c.write_tag-tag.ensures (omega arith) in
    writes_both third
    (writes_as (ap (λ (t : Text). 44 ∷ t) content)
    (writes_behind {k = content_width} c.write_behind.ensures (omega (arith, row_content_fits a.tree.now a.i))))
    (omega arith)
