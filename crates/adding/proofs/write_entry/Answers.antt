-- `adding::write_entry` meets its contract: the row of a new node, and then the content over its zeros.
use mathlib.Core.Path.{ap}
use native.Mathlib.Omega.{arith}
use lib.ListN.{length}
use Rattle.tree.specs.RowAt.{row_at}
use Rattle.tree.proofs.RowAtLaws.{row_content_fits}
use Rattle.adding.specs.AddRowLaws.{entry_written}
use Rattle.adding.proofs.write_entry.Goals as goal

pub write_padded-requires-2 : goal.write_padded-requires-2
write_padded-requires-2 c = let short = row_content_fits c.args.tree.now c.args.working in
    record {
      width_in_bounds = omega (arith, c.clear.auto.b, c.write_padded.auto.b, c.write_head.auto.tree, c.requires.row_len);
      s_len_bound = omega (arith, ap length c.content_at.ensures, short);
    }

pub returns : goal.returns
returns c = let a = c.args in
    let T = a.tree.now in
    entry_written a.depth a.name.now (row_at T a.working).here.content a.node c.requires.name_len_bound (row_content_fits T a.working)
    a.row.now c.requires.row_len c.write_head.ensures c.write_padded.ensures c.clear.ensures c.content_at.ensures c.write_padded-2.ensures
