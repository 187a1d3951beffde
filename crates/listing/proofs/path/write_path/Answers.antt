-- `listing::path::write_path` meets its contract: `/` stands alone, another path is the names of the rows last seen down to its own.
use mathlib.Core.Path.{sym, ap, ◌∙◌}
use native.Mathlib.Omega.{arith}
use Rattle.buffers.specs.OverLaws.{wrote_byte}
use Rattle.syntax.specs.Path.{path_text}
use Rattle.tree.proofs.TreeBytesLaws.{encoded_depth}
use Rattle.listing.specs.RowListing.{names_told}
use Rattle.listing.proofs.RowListingLaws.{top_path, told_path, last_told, path_of_names, writes_as}
use Rattle.listing.proofs.path.write_path.Goals as goal

pub returns-then-depth-eq0 : goal.returns-then-depth-eq0
returns-then-depth-eq0 c =
    let a = c.args in
    let q = top_path a.tree.now a.n (sym c.depth_at-depth.ensures ∙ c.if-depth-eq0.true) in
    writes_as (sym q) (record { wrote = wrote_byte 47 a.answer.now 0 (omega arith); short = omega arith })

pub write_names-requires : goal.write_names-requires
write_names-requires c =
    let low = encoded_depth c.requires.whole.1 {i = c.args.n} (omega arith) in
    record {
      told_rows = (last_told c.requires.whole c.args.n (omega arith) c.last_rows-last.ensures).told;
      depth_bound = omega (arith, c.depth_at-depth.ensures);
      in_bounds = omega arith;
    }

pub returns : goal.returns
returns c =
    let v = c.last_rows-last in
    let d = c.depth_at-depth in
    let b = c.args.tree.now in
    let low = encoded_depth c.requires.whole.1 {i = c.args.n} (omega arith) in
    let same = told_path c.args.n (last_told c.requires.whole c.args.n (omega arith) v.ensures) d.result d.ensures (omega (arith, d.ensures)) in
    let text = path_of_names (names_told b v.result) d.result c.if-depth-eq0.false in
    writes_as (sym text ∙ ap path_text same) c.write_names.ensures
