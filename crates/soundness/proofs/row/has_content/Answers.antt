-- `soundness::row::has_content` meets its contract: the bytes, the kind, and the zeros behind them.
use mathlib.Core.Path.{◌≡◌, refl, sym, ◌∙◌}
use mathlib.Core.Bool.{◌&&◌}
use Prim.Native.Nat.{◌+◌}
use native.Mathlib.Omega.{arith}
use Rattle.tree.specs.Layout.{row_start, content_offset}
use Rattle.tree.specs.RowAt.{row_at}
use Rattle.tree.specs.WellFormed.{fits_kind}
use Rattle.soundness.specs.Tests.{content_stands}
use Rattle.soundness.specs.BothLaws.{both, not_both}
use Rattle.soundness.specs.FieldTestLaws.{content_empty, content_in_row}
use Rattle.soundness.proofs.row.has_content.Goals as goal
use Rattle.soundness.proofs.row.has_content.Goals.{Joined-content_stands, then-content_stands, else-content_stands}

-- the content itself
front : (c : Joined-content_stands) → (let t = c.args.tree.now in let n = (row_at t c.args.i).here in
    c.if-content_stands.value ≡ (content_stands (row_start c.args.i + content_offset) t && fits_kind n.kind n.mode n.content))
front c =
    let t = c.args.tree.now in
    let i = c.args.i in
    elim c.if-content_stands.branch [
      | then-content_stands w ↦
          let f = rw (w.kind_at.ensures, w.mode_at.ensures) at (w.fits_kind.ensures (row_at t i).here.content (content_empty t i)) in
          both c.content_stands.ensures w.if-content_stands.true (w.value-is ∙ f)
      | else-content_stands w ↦ not_both _ c.content_stands.ensures w.if-content_stands.false w.value-is
    ]

pub returns-then-fits_kind : goal.returns-then-fits_kind
returns-then-fits_kind c =
    both (front (goal.at.returns-then-fits_kind c).Joined-content_stands) c.if-fits_kind.true c.is_zero.ensures
    ∙ sym (content_in_row c.args.tree.now c.args.i (omega arith))

pub returns-else-fits_kind : goal.returns-else-fits_kind
returns-else-fits_kind c =
    not_both _ (front (goal.at.returns-else-fits_kind c).Joined-content_stands) c.if-fits_kind.false refl
    ∙ sym (content_in_row c.args.tree.now c.args.i (omega arith))
