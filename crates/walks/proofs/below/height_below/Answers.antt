-- `walks::below::height_below` meets its contract: the greatest depth from what is found and what is left is that of all rows below.
use Prim.Native.Nat.{ℕ, ◌≤◌, ◌<◌, ◌-◌, ◌+◌}
use native.Mathlib.Omega.{arith}
use mathlib.Core.Path.{◌≡◌, refl, sym, ◌∙◌, ap}
use mathlib.Core.List.{List}
use lib.ListN.{drop}
use Rattle.tree.specs.Forest.{larger}
use Rattle.tree.proofs.ForestLaws.{larger_bounds}
use Rattle.tree.specs.RowAt.{row_at, all_rows}
use Rattle.walks.specs.RowBelow.{front_below, deepest_in, height_in}
use Rattle.walks.specs.RowBelowLaws.{larger_is_max, deepest_go, deepest_stop, deepest_end, height_from}
use Rattle.walks.proofs.below.height_below.Invariants.{Going}
use Rattle.walks.proofs.below.height_below.Goals as goal

module _ {tree : List ℕ} {at n depth most i : ℕ} (g : Going tree at n depth most i) where
  -- a deeper row
  goes_on : (m : ℕ) → m ≤ 255 → i < n → depth < (row_at tree i).depth → m ≡ larger most (row_at tree i).depth → Going tree at n depth m (i + 1)
  goes_on m w h l e = record {
    le = omega arith;
    all = g.all;
    from = g.from;
    level = g.level;
    least = let v = larger_bounds most (row_at tree i).depth in omega (arith, g.least);
    byte = w;
    goes = rw e (sym (deepest_go tree depth i most (omega (arith, g.all)) l) ∙ g.goes);
  }

  -- what is found when no more is left
  found : deepest_in most (front_below depth (drop i (all_rows tree))) ≡ most → most - depth ≡ height_in (all_rows tree) at
  found e = ap (λ (m : ℕ). m - depth) (sym e ∙ g.goes) ∙ sym (height_from tree at g.from depth g.level)

  -- one that is not
  stops : i < n → (row_at tree i).depth ≤ depth → most - depth ≡ height_in (all_rows tree) at
  stops h l = found (deepest_stop tree depth i most (omega (arith, g.all)) l)

  -- the end of the rows
  ends : n ≤ i → most - depth ≡ height_in (all_rows tree) at
  ends h = found (deepest_end tree depth i most (omega (arith, g.all)))

pub loop-i-init : goal.loop-i-init
loop-i-init c = record { le = omega arith; all = c.count-n.ensures; from = omega arith; level = c.depth_at-depth.ensures; least = omega arith; byte = omega arith; goes = refl }

pub returns-then-d-depth : goal.returns-then-d-depth
returns-then-d-depth c = (stops c.loop-i.invariant (omega arith) (omega arith), omega arith)

pub loop-i-preserved : goal.loop-i-preserved
loop-i-preserved c =
    let d = c.depth_at-d in
    goes_on c.loop-i.invariant c.max-most.result (omega arith) (omega arith) (omega arith)
    (c.max-most.ensures ∙ larger_is_max c.loop-i.most d.result ∙ ap (larger c.loop-i.most) d.ensures)

pub returns : goal.returns
returns c = (ends c.loop-i.invariant (omega arith), omega arith)
