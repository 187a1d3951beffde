-- `syntax::paths::last_slash` meets its contract: the last `/` of what is left is that of the whole.
use Rattle.std.proofs.Common.{◌≡◌, ◌-◌, refl, sym, ap, ◌∙◌, arith}
use Rattle.syntax.specs.Parts.{slash_before, last_slash}
use Rattle.syntax.proofs.ParentLaws.{slash_here, slash_not_here}
use Rattle.syntax.proofs.paths.last_slash.Goals as goal

pub loop-i-init : goal.loop-i-init
unfolding last_slash
loop-i-init c = refl

pub returns-then-path-i-eq47 : goal.returns-then-path-i-eq47
returns-then-path-i-eq47 c =
    let l = c.loop-i in
    (sym (slash_here c.args.path.now l.i (l.i - 1) (omega arith) c.if-path-i-eq47.true) ∙ l.invariant, omega arith)

pub loop-i-preserved : goal.loop-i-preserved
loop-i-preserved c =
    let l = c.loop-i in
    slash_not_here c.args.path.now l.i (l.i - 1) (omega arith) c.if-path-i-eq47.false ∙ l.invariant

pub returns : goal.returns
unfolding slash_before
returns c =
    let l = c.loop-i in
    let none : 0 ≡ l.i = omega arith in
    (ap (slash_before c.args.path.now) none ∙ l.invariant, omega arith)
