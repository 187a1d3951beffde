-- `listing::path::write_name` meets its contract: the name stands behind the byte `/`.
use mathlib.Core.Path.{ap}
use mathlib.Core.List.{◌∷◌}
use native.Mathlib.Omega.{arith}
use lib.ListN.{length}
use Rattle.buffers.specs.Text.{Text}
use Rattle.tree.proofs.RowAtLaws.{row_name_fits}
use Rattle.listing.proofs.RowListingLaws.{writes_as, writes_behind}
use Rattle.listing.proofs.path.write_name.Goals as goal

pub write_behind-requires : goal.write_behind-requires
write_behind-requires c =
    let a = c.args in
    let e = ap length c.name_at.ensures in
    omega (arith, row_name_fits a.tree.now a.i)

pub returns : goal.returns
returns c =
    let a = c.args in
    let name = c.name_at.ensures in
    let e = ap length name in
    writes_as (ap (λ (t : Text). 47 ∷ t) name)
    (writes_behind {k = 8} c.write_behind.ensures (omega (arith, row_name_fits a.tree.now a.i)))
