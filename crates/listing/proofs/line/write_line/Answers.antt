-- `listing::line::write_line` meets its contract: the path and the fields behind it are the line of the row.
use native.Mathlib.Omega.{arith}
use Rattle.buffers.specs.OverLaws.{wrote_both}
use Rattle.listing.proofs.RowListingLaws.{whole_row, line_wrote}
use Rattle.listing.proofs.line.write_line.Goals as goal

pub write_fields-requires : goal.write_fields-requires
write_fields-requires c =
    record {
      has_row = whole_row c.args.n c.requires.whole c.requires.n_bound;
      at_in_bounds = omega (arith, c.write_path-end.ensures.short);
    }

pub returns : goal.returns
returns c =
    let p = c.write_path-end.ensures in
    let f = c.write_fields.ensures in
    λ t e. line_wrote e c.args.n c.requires.n_bound (wrote_both p.wrote f.wrote (omega (arith, p.short, f.short)))
