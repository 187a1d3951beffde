-- `soundness::row::has_numbers` meets its contract: number by number.
use mathlib.Core.Path.{◌≡◌, refl, ◌∙◌, ap}
use mathlib.Core.Bool.{◌&&◌}
use Prim.Native.Nat.{ℕ, ◌+◌}
use lib.Dec.{leb}
use lib.ListN.{get_or}
use Rattle.syntax.specs.Number.{is_mode}
use Rattle.tree.specs.Layout.{row_start, kind_offset, owner_offset, group_offset}
use Rattle.tree.specs.RowAt.{row_at}
use Rattle.tree.specs.WellFormed.{last_revision}
use Rattle.soundness.specs.Tests.{is_kind_byte}
use Rattle.soundness.specs.BothLaws.{both, not_both}
use Rattle.soundness.specs.FieldTestLaws.{numbers_in_row}
use Rattle.soundness.proofs.row.has_numbers.Goals as goal
use Rattle.soundness.proofs.row.has_numbers.Goals.{Joined-tree-at-le-LAST_GROUP, then-is_kind, else-is_kind, then-tree-at-le-LAST_ACCOUNT, else-tree-at-le-LAST_ACCOUNT, then-tree-at-le-LAST_GROUP, else-tree-at-le-LAST_GROUP}

-- all numbers but the revision
front : (c : Joined-tree-at-le-LAST_GROUP) → (let t = c.args.tree.now in let at = row_start c.args.i in
    c.if-tree-at-le-LAST_GROUP.value
    ≡ (((is_kind_byte (get_or t (at + kind_offset) 0) && leb (get_or t (at + owner_offset) 0) 23) && leb (get_or t (at + group_offset) 0) 24)
    && is_mode (row_at t c.args.i).here.mode))
front c =
    let t = c.args.tree.now in
    let at = row_start c.args.i in
    let kind = is_kind_byte (get_or t (at + kind_offset) 0) in
    let owner = leb (get_or t (at + owner_offset) 0) 23 in
    let two : c.if-is_kind.value ≡ (kind && owner) = elim c.if-is_kind.branch [
      | then-is_kind w ↦ both c.is_kind.ensures w.if-is_kind.true w.value-is
      | else-is_kind w ↦ not_both _ c.is_kind.ensures w.if-is_kind.false w.value-is
    ] in
    let three : c.if-tree-at-le-LAST_ACCOUNT.value ≡ ((kind && owner) && leb (get_or t (at + group_offset) 0) 24) = elim c.if-tree-at-le-LAST_ACCOUNT.branch [
      | then-tree-at-le-LAST_ACCOUNT w ↦ both two w.if-tree-at-le-LAST_ACCOUNT.true w.value-is
      | else-tree-at-le-LAST_ACCOUNT w ↦ not_both _ two w.if-tree-at-le-LAST_ACCOUNT.false w.value-is
    ] in
    elim c.if-tree-at-le-LAST_GROUP.branch [
      | then-tree-at-le-LAST_GROUP w ↦ both three w.if-tree-at-le-LAST_GROUP.true (w.value-is ∙ w.is_mode.ensures ∙ ap is_mode w.mode_at.ensures)
      | else-tree-at-le-LAST_GROUP w ↦ not_both _ three w.if-tree-at-le-LAST_GROUP.false w.value-is
    ]

pub returns-then-is_mode : goal.returns-then-is_mode
unfolding last_revision
returns-then-is_mode c =
    both (front (goal.at.returns-then-is_mode c).Joined-tree-at-le-LAST_GROUP) c.if-is_mode.true (ap (λ (v : ℕ). leb v last_revision) c.revision_at.ensures)
    ∙ numbers_in_row c.args.tree.now c.args.i

pub returns-else-is_mode : goal.returns-else-is_mode
returns-else-is_mode c =
    not_both _ (front (goal.at.returns-else-is_mode c).Joined-tree-at-le-LAST_GROUP) c.if-is_mode.false refl ∙ numbers_in_row c.args.tree.now c.args.i
