-- `commands::parser::with_arguments` meets its contract: the numbers that were read, or not, tell whether the form answers.
use Rattle.std.proofs.Common.{sym, ◌∙◌}
use Rattle.line_fields.specs.FieldsRead.{given}
use Rattle.commands.specs.Parsed.{command_from}
use Rattle.commands.specs.ParsedLaws.{finds_none, wrong_arguments, typed_read, right_arguments}
use Rattle.commands.proofs.parser.with_arguments.Goals as goal

pub returns-in_err-first-clause-result_value : goal.returns-in_err-first-clause-result_value
returns-in_err-first-clause-result_value c =
    let a = c.args in
    let t = a.line.now in
    rw c.from_residual.ensures
    (finds_none t a.caller (command_from a.word (given t a.f))
    (wrong_arguments t a.caller a.f a.word c.requires.count_bound c.shape-shape.ensures (sym c.in_err-first.was ∙ c.numbers_at.ensures)))

pub returns-clause-result_value : goal.returns-clause-result_value
returns-clause-result_value c =
    let a = c.args in
    let n = c.in_ok-first in
    right_arguments a.line.now a.caller a.f a.word c.requires.count_bound c.shape-shape.ensures n.first n.second n.third c.requires.fields_inside (sym n.was ∙ c.numbers_at.ensures)

pub returns-clause-read_in : goal.returns-clause-read_in
returns-clause-read_in c =
    let a = c.args in
    let n = c.in_ok-first in
    typed_read a.line.now a.caller a.f a.word c.requires.count_bound c.shape-shape.ensures n.first n.second n.third c.requires.fields_inside (sym n.was ∙ c.numbers_at.ensures)
