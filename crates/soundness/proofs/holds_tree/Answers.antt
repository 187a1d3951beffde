-- `soundness::holds_tree` meets its contract: a length or a number of rows that is wrong, or the parts one after another.
use mathlib.Core.Path.{◌≡◌, refl, sym, ◌∙◌, ap}
use mathlib.Core.List.{[]}
use mathlib.Core.Bool.{◌&&◌, and_assoc}
use Prim.Native.Nat.{ℕ, ◌-◌}
use native.Mathlib.Omega.{arith}
use Rattle.buffers.specs.Cases.{and_both}
use Rattle.buffers.specs.Fields.{zeros_at}
use Rattle.tree.specs.Layout.{tree_width, row_start}
use Rattle.tree.specs.RowAt.{row_count, row_bytes_at, row_at}
use Rattle.soundness.specs.BothLaws.{both, not_both}
use Rattle.soundness.specs.Sound.{is_row, is_top_row, is_sound}
use Rattle.soundness.specs.SoundLaws.{sound_is}
use Rattle.soundness.specs.Tests.{rest_in_order}
use Rattle.soundness.specs.SoundTestLaws.{not_long, no_rows, many_rows, top_at_zero, sound_in_parts}
use Rattle.soundness.proofs.holds_tree.Goals as goal
use Rattle.soundness.proofs.holds_tree.Goals.{Joined-is_row, Joined-is_top_row, then-is_row, else-is_row, then-is_top_row, else-is_top_row, then-n-eq0-via-then-n-eq0, then-n-eq0-via-else-n-eq0+then-n-gt-MOST_ROWS}

pub returns-then-tree-ne-TREE : goal.returns-then-tree-ne-TREE
returns-then-tree-ne-TREE c = let t = c.args.tree.now in sym (not_long t c.if-tree-ne-TREE.true) ∙ sound_is t

pub returns-then-n-eq0 : goal.returns-then-n-eq0
returns-then-n-eq0 c =
    let t = c.args.tree.now in
    elim c.then-n-eq0.branch [
      | then-n-eq0-via-then-n-eq0 w ↦ sym (no_rows t (omega arith)) ∙ sound_is t
      | then-n-eq0-via-else-n-eq0+then-n-gt-MOST_ROWS w ↦ sym (many_rows t (omega arith)) ∙ sound_is t
    ]

-- the row of `/`
top : (c : Joined-is_row) → (let t = c.args.tree.now in c.if-is_row.value ≡ (is_row (row_bytes_at t 0) && is_top_row (row_at t 0)))
top c =
    elim c.if-is_row.branch [
      | then-is_row w ↦ both c.is_row.ensures w.if-is_row.true (w.value-is ∙ w.is_top_row.ensures)
      | else-is_row w ↦ not_both _ c.is_row.ensures w.if-is_row.false w.value-is
    ]

pub in_order-requires-clause-tree_value : goal.in_order-requires-clause-tree_value
in_order-requires-clause-tree_value c =
    let t = c.args.tree.now in
    let j = (goal.at.in_order-requires-clause-tree_value c).Joined-is_row in
    top_at_zero (row_at t 0) (and_both (is_row (row_bytes_at t 0)) (is_top_row (row_at t 0)) (sym (top j) ∙ c.if-is_top_row.true)).1

-- all rows
front : (c : Joined-is_top_row) → (let t = c.args.tree.now in
    c.if-is_row.value ≡ (is_row (row_bytes_at t 0) && is_top_row (row_at t 0))
    → c.if-is_top_row.value ≡ ((is_row (row_bytes_at t 0) && is_top_row (row_at t 0)) && rest_in_order t 1 [] (row_at t 0).here.kind))
front c two =
    elim c.if-is_top_row.branch [
      | then-is_top_row w ↦ both two w.if-is_top_row.true (w.value-is ∙ w.in_order.ensures)
      | else-is_top_row w ↦ not_both _ two w.if-is_top_row.false w.value-is
    ]

-- the rows, and the zeros behind them
whole : (c : Joined-is_top_row) → (let t = c.args.tree.now in
    (((is_row (row_bytes_at t 0) && is_top_row (row_at t 0)) && rest_in_order t 1 [] (row_at t 0).here.kind)
    && zeros_at (row_start (row_count t)) (tree_width - (row_start (row_count t))) t)
    ≡ is_sound t)
whole c =
    let t = c.args.tree.now in
    and_assoc (is_row (row_bytes_at t 0) && is_top_row (row_at t 0)) (rest_in_order t 1 [] (row_at t 0).here.kind) (zeros_at (row_start (row_count t)) (tree_width - (row_start (row_count t))) t)
    ∙ sym (sound_in_parts t (omega arith) (omega arith) (omega arith) (λ j. omega (arith, c.type_inv.tree j)))

pub returns-then-in_order : goal.returns-then-in_order
returns-then-in_order c =
    let t = c.args.tree.now in
    let j = (goal.at.returns-then-in_order c).Joined-is_top_row in
    both (front j (top (goal.at.returns-then-in_order c).Joined-is_row)) c.if-in_order.true
    (c.is_zero_in_blocks.ensures ∙ ap (λ (n : ℕ). zeros_at (row_start n) (tree_width - (row_start n)) t) c.count-n.ensures)
    ∙ whole j ∙ sound_is t

pub returns-else-in_order : goal.returns-else-in_order
returns-else-in_order c =
    let j = (goal.at.returns-else-in_order c).Joined-is_top_row in
    not_both _ (front j (top (goal.at.returns-else-in_order c).Joined-is_row)) c.if-in_order.false refl ∙ whole j ∙ sound_is c.args.tree.now
