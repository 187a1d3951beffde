-- `lines::line::three_argument_line` meets its contract: the form of `l` answers what the numbers and the password make.
use Rattle.std.proofs.Common.{sym, ap, ◌∙◌}
use Rattle.syntax.proofs.PartsLaws.{inside_text}
use Rattle.syntax.specs.Form.{◌>>=◌}
use Rattle.syntax.specs.Path.{is_name}
use Rattle.lines.specs.Line.{three_texts, kind_form, line_told}
use Rattle.lines.specs.LineLaws.{not_three, l_form, l_nameless, told_wrong, told_nothing, told_both}
use Rattle.lines.proofs.line.three_argument_line.Goals as goal

pub returns-in_default : goal.returns-in_default
returns-in_default c = told_wrong c.args.text.now (not_three c.args.kind _ _ _ c.in_default.not-Grant)

pub returns-then-not-is_name : goal.returns-then-not-is_name
returns-then-not-is_name c =
    let a = c.args in
    let t = a.text.now in
    let n = sym (c.is_name.ensures ∙ ap is_name c.of.ensures) ∙ c.if-not-is_name.true in
    told_wrong t (ap (λ k. kind_form k (three_texts t a.a a.b a.c)) c.in-Grant.is ∙ l_nameless _ _ _ n)

pub returns-in_err-uid : goal.returns-in_err-uid
returns-in_err-uid c =
    let a = c.args in
    let t = a.text.now in
    let n = sym (c.is_name.ensures ∙ ap is_name c.of.ensures) ∙ c.if-not-is_name.false in
    rw c.from_residual.ensures
    (told_nothing t _ (ap (λ k. kind_form k (three_texts t a.a a.b a.c)) c.in-Grant.is ∙ l_form _ _ _ n) c.numbers_at.ensures c.in_err-uid.was)

pub returns : goal.returns
unfolding line_told ◌>>=◌
returns c =
    let a = c.args in
    let t = a.text.now in
    let n = sym (c.is_name.ensures ∙ ap is_name c.of.ensures) ∙ c.if-not-is_name.false in
    told_both t _ (ap (λ k. kind_form k (three_texts t a.a a.b a.c)) c.in-Grant.is ∙ l_form _ _ _ n) c.numbers_at.ensures c.in_ok-uid.was (rw (inside_text c.requires.inside_3))
