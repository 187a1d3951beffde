-- `lines::line::two_argument_line` meets its contract: the form of the word answers what the numbers make.
use Rattle.std.proofs.Common.{refl, ap, ◌∙◌}
use Rattle.lines.specs.Line.{two_texts, kind_form, line_told}
use Rattle.lines.specs.LineLaws.{p_form, g_form, r_form, l_short, told_wrong, told_nothing, told_both}
use Rattle.lines.proofs.line.two_argument_line.Goals as goal

pub returns-in_err-uid-in-Person : goal.returns-in_err-uid-in-Person
returns-in_err-uid-in-Person c =
    let a = c.args in
    let t = a.text.now in
    let form = ap (λ k. kind_form k (two_texts t a.a a.b)) c.in-Person.is ∙ p_form _ _ in
    rw c.from_residual.ensures (told_nothing t _ form c.numbers_at.ensures c.in_err-uid-in-Person.was)

pub returns-in_ok-uid-in-Person : goal.returns-in_ok-uid-in-Person
unfolding line_told
returns-in_ok-uid-in-Person c =
    let a = c.args in
    let t = a.text.now in
    let form = ap (λ k. kind_form k (two_texts t a.a a.b)) c.in-Person.is ∙ p_form _ _ in
    told_both t _ form c.numbers_at.ensures c.in_ok-uid-in-Person.was refl

pub returns-in_err-uid-in-Group : goal.returns-in_err-uid-in-Group
returns-in_err-uid-in-Group c =
    let a = c.args in
    let t = a.text.now in
    let form = ap (λ k. kind_form k (two_texts t a.a a.b)) c.in-Group.is ∙ g_form _ _ in
    rw c.from_residual-in_err-uid-in-Group.ensures (told_nothing t _ form c.numbers_at-in-Group.ensures c.in_err-uid-in-Group.was)

pub returns-in_ok-uid-in-Group : goal.returns-in_ok-uid-in-Group
unfolding line_told
returns-in_ok-uid-in-Group c =
    let a = c.args in
    let t = a.text.now in
    let form = ap (λ k. kind_form k (two_texts t a.a a.b)) c.in-Group.is ∙ g_form _ _ in
    told_both t _ form c.numbers_at-in-Group.ensures c.in_ok-uid-in-Group.was refl

pub returns-in_err-senior-in-Pair : goal.returns-in_err-senior-in-Pair
returns-in_err-senior-in-Pair c =
    let a = c.args in
    let t = a.text.now in
    let form = ap (λ k. kind_form k (two_texts t a.a a.b)) c.in-Pair.is ∙ r_form _ _ in
    rw c.from_residual-in_err-senior-in-Pair.ensures (told_nothing t _ form c.numbers_at-in-Pair.ensures c.in_err-senior-in-Pair.was)

pub returns-in_ok-senior-in-Pair : goal.returns-in_ok-senior-in-Pair
unfolding line_told
returns-in_ok-senior-in-Pair c =
    let a = c.args in
    let t = a.text.now in
    let form = ap (λ k. kind_form k (two_texts t a.a a.b)) c.in-Pair.is ∙ r_form _ _ in
    told_both t _ form c.numbers_at-in-Pair.ensures c.in_ok-senior-in-Pair.was refl

pub returns-in-Grant : goal.returns-in-Grant
returns-in-Grant c =
    let a = c.args in
    let t = a.text.now in
    told_wrong t (ap (λ k. kind_form k (two_texts t a.a a.b)) c.in-Grant.is ∙ l_short _ _)
