-- `lines::line::numbers_at` meets its contract: one law for each return.
use Rattle.std.proofs.Common.{sym, ap, ◌∙◌}
use Rattle.buffers.specs.Options.{option_some, option_none}
use Rattle.syntax.specs.Number.{between}
use Rattle.syntax.specs.Parts.{span_text}
use Rattle.lines.specs.LineLaws.{first_none, second_none, both_numbers}
use Rattle.lines.proofs.line.numbers_at.Goals as goal

pub returns-in_err-m : goal.returns-in_err-m
returns-in_err-m c =
    let a = c.args in
    let e = sym (option_none c.in_err-m.was) ∙ (c.between.ensures ∙ ap (between a.low a.high1) c.of.ensures) in
    rw c.from_residual.ensures (first_none a.low a.high1 a.high2 (span_text a.text.now a.a) (span_text a.text.now a.b) e)

pub returns-in_err-n : goal.returns-in_err-n
returns-in_err-n c =
    let a = c.args in
    let e = sym (option_none c.in_err-n.was) ∙ (c.between-2.ensures ∙ ap (between a.low a.high2) c.of-2.ensures) in
    rw c.from_residual-in_err-n.ensures (second_none a.low a.high1 a.high2 (span_text a.text.now a.a) (span_text a.text.now a.b) e)

pub returns : goal.returns
returns c =
    let a = c.args in
    let h = c.requires in
    let e = sym (option_some c.in_ok-m.was) ∙ (c.between.ensures ∙ ap (between a.low a.high1) c.of.ensures) in
    let f = sym (option_some c.in_ok-n.was) ∙ (c.between-2.ensures ∙ ap (between a.low a.high2) c.of-2.ensures) in
    both_numbers a.low a.high1 a.high2 (span_text a.text.now a.a) (span_text a.text.now a.b) _ _ h.high1_bound h.high2_bound e f
