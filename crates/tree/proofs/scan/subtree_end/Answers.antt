-- `tree::scan::subtree_end` meets its contract: the scan from where it is now ends where the scan from the next row does.
use Prim.Native.Nat.{ℕ, ◌≤◌, ◌<◌, ◌+◌}
use native.Mathlib.Omega.{arith}
use mathlib.Core.Path.{◌≡◌, refl, ◌∙◌}
use mathlib.Core.List.{List}
use borrow.Author.Tests.{lt-ltb, le-ltb}
use Rattle.tree.specs.RowScan.{is_deeper, end_of_subtree}
use Rattle.tree.specs.RowAt.{row_at, all_rows}
use Rattle.tree.proofs.RowAtLaws.{scan_go, scan_stop, scan_end, end_at}
use Rattle.tree.proofs.scan.subtree_end.Invariants.{Going}
use Rattle.tree.proofs.scan.subtree_end.Goals as goal

module _ {tree : List ℕ} {at n depth i : ℕ} (g : Going tree at n depth i) where
  -- a deeper row
  goes_on : i < n → depth < (row_at tree i).depth → Going tree at n depth (i + 1)
  unfolding is_deeper
  goes_on h e = record {
    le = omega arith;
    all = g.all;
    from = g.from;
    level = g.level;
    goes = scan_go tree (is_deeper depth) i (at + 1) (omega (arith, g.all)) (lt-ltb depth (row_at tree i).depth e) g.goes;
  }

  -- one that is not
  stops : i < n → (row_at tree i).depth ≤ depth → i ≡ end_of_subtree (all_rows tree) at
  unfolding is_deeper
  stops h e =
      let stop = scan_stop tree (is_deeper depth) i (omega (arith, g.all)) (le-ltb depth (row_at tree i).depth e) in
      end_at tree at i g.from depth g.level g.goes stop

  -- the end of the rows
  ends : n ≤ i → n ≡ end_of_subtree (all_rows tree) at
  ends h = let e : n ≡ i = omega (arith, g.le) in e ∙ end_at tree at i g.from depth g.level g.goes (scan_end tree (is_deeper depth) i (omega (arith, g.all)))

pub loop-i-init : goal.loop-i-init
loop-i-init c = record { le = omega arith; all = c.count-n.ensures; from = omega arith; level = c.depth_at-depth.ensures; goes = refl }

pub returns-then-depth_at-depth : goal.returns-then-depth_at-depth
returns-then-depth_at-depth c = (stops c.loop-i.invariant (omega arith) (omega arith), omega arith)

pub loop-i-preserved : goal.loop-i-preserved
loop-i-preserved c = goes_on c.loop-i.invariant (omega arith) (omega arith)

pub returns : goal.returns
returns c = (ends c.loop-i.invariant (omega arith), omega arith)
