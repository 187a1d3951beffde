-- `listing::path::last_rows` meets its contract: each row takes the place of the one last seen at its depth.
use mathlib.Core.Path.{◌≡◌, refl}
use native.Mathlib.Omega.{arith}
use Prim.Native.Nat.{◌+◌}
use Rattle.tree.proofs.TreeBytesLaws.{encoded_depth}
use Rattle.listing.specs.RowListing.{last_among}
use Rattle.listing.proofs.RowListingLaws.{whole_row, last_next}
use Rattle.listing.proofs.path.last_rows.Goals as goal

pub loop-i-init : goal.loop-i-init
unfolding last_among
loop-i-init c = (omega arith, refl)

pub depth_at-depth-requires : goal.depth_at-depth-requires
depth_at-depth-requires c = whole_row c.loop-i.i c.requires.whole (omega arith)

pub offset_bounds-last-depth : goal.offset_bounds-last-depth
offset_bounds-last-depth c =
    let l = c.loop-i in
    omega (arith, c.depth_at-depth.ensures, encoded_depth c.requires.whole.1 {i = l.i} (omega arith))

pub bounds-last-depth : goal.bounds-last-depth
bounds-last-depth c =
    let l = c.loop-i in
    omega (arith, c.depth_at-depth.ensures, encoded_depth c.requires.whole.1 {i = l.i} (omega arith))

pub loop-i-preserved : goal.loop-i-preserved
loop-i-preserved c =
    let l = c.loop-i in
    (omega arith, last_next c.args.tree.now l.i c.depth_at-depth.result l.invariant.1 c.depth_at-depth.ensures)

pub returns : goal.returns
returns c =
    let l = c.loop-i in
    let z : l.i ≡ c.args.n + 1 = omega arith in
    rw z at l.invariant.1
