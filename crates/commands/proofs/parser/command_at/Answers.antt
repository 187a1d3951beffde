-- `commands::parser::command_at` meets its contract: its fields are the pieces from the place on, and the word that was found has the
-- listed form.
use Rattle.std.proofs.Common.{drop, sym, ap, ◌∙◌}
use Rattle.std.proofs.Math.Option.{Option, some, map}
use Rattle.syntax.specs.Pieces.{comma, pieces}
use Rattle.syntax.specs.Parts.{span_text}
use Rattle.line_fields.specs.FieldsRead.{given}
use Rattle.line_fields.proofs.FieldsReadLaws.{few_pieces, many_pieces, fields_inside}
use Rattle.commands.specs.Command.{TypedCommand}
use Rattle.commands.specs.Parsed.{line_with}
use Rattle.commands.specs.Words.{word_of}
use Rattle.commands.specs.WordsLaws.{finds_word}
use Rattle.commands.specs.ParsedLaws.{finds_none, too_many, word_first}
use Rattle.commands.proofs.parser.command_at.Goals as goal

pub returns-then-f-gt3-clause-result_value : goal.returns-then-f-gt3-clause-result_value
returns-then-f-gt3-clause-result_value c =
    let f = c.fields_at-f in
    let a = c.args in
    let t = a.line.now in
    finds_none t a.caller _ (too_many (pieces comma (drop a.at t)) (many_pieces t a.at f.result c.requires f.ensures c.if-f-gt3.true))

pub of-requires : goal.of-requires
of-requires c =
    let f = c.fields_at-f in
    let a = c.args in
    (fields_inside a.line.now a.at f.result c.requires f.ensures).word

pub returns-in_err-word-clause-result_value : goal.returns-in_err-word-clause-result_value
returns-in_err-word-clause-result_value c =
    let f = c.fields_at-f in
    let a = c.args in
    let t = a.line.now in
    let w = span_text t f.result.word in
    let e = (finds_word w).unlisted (sym (c.word_of.ensures ∙ ap word_of c.of.ensures) ∙ c.in_err-word.was) (given t f.result) in
    rw c.from_residual.ensures
    (word_first t a.caller w (given t f.result) _ _ (few_pieces t a.at f.result c.requires f.ensures c.if-f-gt3.false) (finds_none t a.caller _ e))

pub with_arguments-requires-clause-fields_inside : goal.with_arguments-requires-clause-fields_inside
with_arguments-requires-clause-fields_inside c =
    let f = c.fields_at-f in
    let a = c.args in
    fields_inside a.line.now a.at f.result c.requires f.ensures

pub returns-clause-result_value : goal.returns-clause-result_value
returns-clause-result_value c =
    let f = c.fields_at-f in
    let a = c.args in
    let t = a.line.now in
    let w = span_text t f.result.word in
    let e = (finds_word w).listed_as c.in_ok-word.word (sym (c.word_of.ensures ∙ ap word_of c.of.ensures) ∙ c.in_ok-word.was) (given t f.result) in
    word_first t a.caller w (given t f.result) _ _ (few_pieces t a.at f.result c.requires f.ensures c.if-f-gt3.false)
    (c.with_arguments.ensures.result_value ∙ ap (λ (m : Option TypedCommand). map some (line_with a.caller m)) (sym e))
