-- `commands::parser::parse` meets its contract: the first field is the caller, and the command starts behind its comma.
use Rattle.std.proofs.Common.{◌≡◌, ◌∷◌, ◌+◌, ◌≤◌, length, drop, sym, ap, ◌∙◌, arith}
use Rattle.buffers.specs.Options.{option_some, option_none}
use Rattle.buffers.specs.Text.{Text}
use Rattle.syntax.specs.Number.{between}
use Rattle.syntax.specs.Pieces.{comma, pieces}
use Rattle.syntax.specs.Parts.{part, span_text}
use Rattle.syntax.proofs.FieldPartsLaws.{FieldAt, field_is, field_goes_on, field_inside, last_piece, next_field}
use Rattle.commands.specs.ParsedLaws.{uid_not_read, one_field_line, line_no_caller, line_found}
use Rattle.commands.proofs.parser.parse.Goals as goal
use Rattle.commands.proofs.parser.parse.Goals.{After-span}

-- the line, where the first field has been read
abbrev line1 : (c : After-span) → Text
line1 c = c.args.line.now

-- that field, what is behind it, and the pieces up to there
field1 : (c : After-span) → FieldAt (line1 c) 0 c.first_field-u.result
field1 c = field_is (line1 c) 0 c.first_field-u.result (omega arith) c.first_field-u.ensures

behind1 : (c : After-span) → c.first_field-u.result.end + 1 ≤ length (line1 c)
behind1 c = field_goes_on (field1 c) c.if-u.false

cut1 : (c : After-span) → pieces comma (line1 c) ≡ span_text (line1 c) c.span.result ∷ pieces comma (drop (c.first_field-u.result.end + 1) (line1 c))
cut1 c = next_field (field1 c) c.span.ensures c.if-u.false

pub returns-then-u-clause-result_value : goal.returns-then-u-clause-result_value
returns-then-u-clause-result_value c =
    let u = c.first_field-u in
    let t = c.args.line.now in
    one_field_line t (part t 0 u.result.end) (last_piece (field_is t 0 u.result (omega arith) u.ensures) c.if-u.true)

pub of-requires : goal.of-requires
of-requires c = field_inside (field1 (goal.at.of-requires c).After-span) c.span.ensures

pub returns-in_err-n-clause-result_value : goal.returns-in_err-n-clause-result_value
returns-in_err-n-clause-result_value c =
    let s = (goal.at.returns-in_err-n-clause-result_value c).After-span in
    let t = line1 s in
    let w = span_text t c.span.result in
    let e = sym (option_none c.in_err-n.was) ∙ (c.between.ensures ∙ ap (between 0 23) c.of.ensures) in
    rw c.from_residual.ensures (line_no_caller t w _ (cut1 s) (uid_not_read w e))

pub overflow_add-u : goal.overflow_add-u
overflow_add-u c = omega (arith, behind1 (goal.at.overflow_add-u c).After-span)

pub command_at-requires : goal.command_at-requires
command_at-requires c = behind1 (goal.at.command_at-requires c).After-span

pub returns-clause-result_value : goal.returns-clause-result_value
returns-clause-result_value c =
    let s = (goal.at.returns-clause-result_value c).After-span in
    let t = line1 s in
    let e = sym (option_some c.in_ok-n.was) ∙ (c.between.ensures ∙ ap (between 0 23) c.of.ensures) in
    line_found t (span_text t c.span.result) _ c.in_ok-n.n c.command_at.result (cut1 s) e c.command_at.ensures.result_value
