-- `soundness::is_top_row` meets its contract: field by field.
use mathlib.Core.Path.{◌≡◌, refl, ◌∙◌, ap}
use mathlib.Core.List.{List}
use mathlib.Core.Bool.{◌&&◌}
use Prim.Native.Nat.{ℕ}
use lib.Dec.{eqb}
use lib.ListN.{length}
use Rattle.std.proofs.Common.{eq-eqb, ne_eqb}
use Rattle.tree.specs.Node.{is_directory}
use Rattle.tree.specs.RowAt.{row_at}
use Rattle.soundness.specs.BothLaws.{both, not_both}
use Rattle.soundness.specs.Sound.{is_top_row}
use Rattle.soundness.proofs.is_top_row.Goals as goal
use Rattle.soundness.proofs.is_top_row.Goals.{Joined-depth_at-eq0, then-depth_at-eq0, else-depth_at-eq0}

-- the depth and the name
front : (c : Joined-depth_at-eq0) → (let r = row_at c.args.tree.now 0 in c.if-depth_at-eq0.value ≡ (eqb r.depth 0 && eqb (length r.name) 0))
front c =
    let depth = ap (λ (d : ℕ). eqb d 0) c.depth_at.ensures in
    elim c.if-depth_at-eq0.branch [
      | then-depth_at-eq0 w ↦ both depth (eq-eqb c.depth_at.result 0 w.if-depth_at-eq0.true) (w.value-is ∙ w.is_empty.ensures ∙ ap (λ (n : List ℕ). eqb (length n) 0) w.name_at.ensures)
      | else-depth_at-eq0 w ↦ not_both _ depth (ne_eqb c.depth_at.result 0 w.if-depth_at-eq0.false) w.value-is
    ]

pub returns-then-is_empty : goal.returns-then-is_empty
unfolding is_top_row
returns-then-is_empty c =
    both (front (goal.at.returns-then-is_empty c).Joined-depth_at-eq0) c.if-is_empty.true (c.is_directory.ensures ∙ ap is_directory c.kind_at.ensures)

pub returns-else-is_empty : goal.returns-else-is_empty
unfolding is_top_row
returns-else-is_empty c = not_both _ (front (goal.at.returns-else-is_empty c).Joined-depth_at-eq0) c.if-is_empty.false refl
