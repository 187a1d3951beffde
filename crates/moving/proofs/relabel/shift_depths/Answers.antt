-- `moving::relabel::shift_depths` meets its contract: a turn changes the depth of one row more.
use Rattle.std.proofs.Common.{◌∙◌, ap, ℕ, ◌+◌, ◌-◌, ◌*◌, set, arith}
use Rattle.tree.specs.Layout.{row_width}
use Rattle.moving.specs.Relabel.{depths_shifted}
use Rattle.moving.specs.RelabelLaws.{shift_again, shift_end}
use Rattle.moving.proofs.relabel.shift_depths.Goals as goal

pub loop-i-preserved : goal.loop-i-preserved
loop-i-preserved c =
    let a = c.args in
    let l = c.loop-i in
    ap (λ (v : ℕ). depths_shifted a.old a.new (l.i + 1) (a.n - (l.i + 1)) (set l.rows (row_width * l.i) v)) c.shift.ensures
    ∙ shift_again a.old a.new l.i a.n l.rows (omega arith)
    ∙ l.invariant

pub returns : goal.returns
returns c = let l = c.loop-i in shift_end _ _ l.i _ l.rows (omega arith) ∙ l.invariant
