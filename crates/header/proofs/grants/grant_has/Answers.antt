-- `header::grants::grant_has` meets its contract: field by field.
use mathlib.Core.Path.{sym, ◌∙◌, ap}
use borrow.Author.Tests.{eqb-true, eqb-false, ne_eqb}
use Rattle.buffers.specs.Cases.{contra}
use Rattle.buffers.specs.Text.{Text, same_text}
use Rattle.header.specs.HeaderBytes.{grant_in}
use Rattle.header.specs.GrantedLaws.{uid_differs, role_differs, password_decides}
use Rattle.header.proofs.grants.grant_has.Goals as goal
use Rattle.header.proofs.grants.grant_has.Goals.{then-header-at, else-header-at}

pub returns-then-header-at-2 : goal.returns-then-header-at-2
returns-then-header-at-2 c =
    let a = c.args in
    let g = grant_in a.header.now a.i in
    elim c.if-header-at.branch [
      | then-header-at w ↦
          c.same.ensures ∙ ap (λ (t : Text). same_text t a.password.now) c.password_at.ensures
          ∙ password_decides g a.uid a.role a.password.now w.if-header-at.true (eqb-true g.role.0 a.role.0 (sym w.value-is ∙ c.if-header-at-2.true))
      | else-header-at w ↦ contra c.if-header-at-2.true (w.value-is ∙ ne_eqb g.uid.0 a.uid.0 w.if-header-at.false)
    ]

pub returns-else-header-at-2 : goal.returns-else-header-at-2
returns-else-header-at-2 c =
    let a = c.args in
    let g = grant_in a.header.now a.i in
    c.if-header-at-2.false ∙ elim c.if-header-at.branch [
      | then-header-at w ↦ role_differs g a.uid a.role a.password.now w.if-header-at.true (eqb-false g.role.0 a.role.0 (sym w.value-is ∙ c.if-header-at-2.false))
      | else-header-at w ↦ uid_differs g a.uid a.role a.password.now w.if-header-at.false
    ]
