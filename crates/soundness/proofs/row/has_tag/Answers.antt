-- `soundness::row::has_tag` meets its contract: each return by the path's field, its first byte, or whether its text is an entry path.
use mathlib.Core.Path.{◌≡◌, sym, ◌∙◌, ap}
use Prim.Native.Nat.{ℕ}
use native.Mathlib.Omega.{arith}
use lib.Dec.{eqb, leb}
use Rattle.buffers.specs.Cases.{answers_false, answers_true}
use Rattle.buffers.specs.Text.{Text}
use Rattle.syntax.specs.Path.{entry_path}
use Rattle.syntax.specs.Form.{is_some}
use Rattle.tree.specs.WellFormed.{last_revision}
use Rattle.tree.specs.RowAt.{tag_text_at}
use Rattle.soundness.specs.FieldTestLaws.{tag_unfilled, tag_none, tag_wrong, tag_right}
use Rattle.soundness.proofs.row.has_tag.Goals as goal
use Rattle.soundness.proofs.row.has_tag.Goals.{After-is_entry_path}

pub returns-then-not-is_filled : goal.returns-then-not-is_filled
returns-then-not-is_filled c =
    let a = c.args in
    sym (tag_unfilled a.tree.now a.i (omega arith) (answers_false c.is_filled.ensures c.if-not-is_filled.true-raw))

pub returns-then-tree-at-eq0 : goal.returns-then-tree-at-eq0
returns-then-tree-at-eq0 c =
    let a = c.args in
    let f = answers_true c.is_filled.ensures c.if-not-is_filled.false-raw in
    ap (λ (v : ℕ). eqb v 0) c.tag_revision_at-revision.ensures ∙ sym (tag_none a.tree.now a.i (omega arith) f (omega (arith, c.if-tree-at-eq0.true)))

-- whether the text is an entry path
answered : (c : After-is_entry_path) → is_some (entry_path (tag_text_at c.args.tree.now c.args.i)) ≡ c.is_entry_path.result
answered c = sym (c.is_entry_path.ensures ∙ ap (λ (t : Text). is_some (entry_path t)) c.tag_path_at.ensures)

pub returns-then-is_entry_path : goal.returns-then-is_entry_path
unfolding last_revision
returns-then-is_entry_path c =
    let a = c.args in
    let f = answers_true c.is_filled.ensures c.if-not-is_filled.false-raw in
    let e = answered (goal.at.returns-then-is_entry_path c).After-is_entry_path ∙ c.if-is_entry_path.true in
    ap (λ (v : ℕ). leb v last_revision) c.tag_revision_at-revision.ensures ∙ sym (tag_right a.tree.now a.i (omega arith) f e)

pub returns-else-is_entry_path : goal.returns-else-is_entry_path
returns-else-is_entry_path c =
    let a = c.args in
    let e = answered (goal.at.returns-else-is_entry_path c).After-is_entry_path ∙ c.if-is_entry_path.false in
    c.if-is_entry_path.false ∙ sym (tag_wrong a.tree.now a.i (omega arith) (λ z. omega (arith, c.if-tree-at-eq0.false)) e)
