-- `lines::line::kind_of` meets its contract: the words of the forms are one byte.
use Rattle.std.proofs.Common.{get_or, refl, arith}
use Rattle.buffers.specs.Text.{same_text}
use Rattle.syntax.specs.Pieces.{bytes}
use Rattle.syntax.specs.Form.{by_form}
use Rattle.lines.specs.SetupLines.{setup_form, setup_forms, setup_line_of}
use Rattle.lines.specs.Line.{kind_form, line_form}
use Rattle.lines.specs.LineLaws.{one_byte, other_lengths, other_byte}
use Rattle.lines.proofs.line.kind_of.Goals as goal

pub returns-in-112 : goal.returns-in-112
unfolding setup_line_of by_form setup_forms setup_form line_form kind_form same_text bytes
returns-in-112 c = λ s. rw (one_byte c.args.word.now 112 (omega arith) (omega arith))

pub returns-in-103 : goal.returns-in-103
unfolding setup_line_of by_form setup_forms setup_form line_form kind_form same_text bytes
returns-in-103 c = λ s. rw (one_byte c.args.word.now 103 (omega arith) (omega arith))

pub returns-in-114 : goal.returns-in-114
unfolding setup_line_of by_form setup_forms setup_form line_form kind_form same_text bytes
returns-in-114 c = λ s. rw (one_byte c.args.word.now 114 (omega arith) (omega arith))

pub returns-in-108 : goal.returns-in-108
unfolding setup_line_of by_form setup_forms setup_form line_form kind_form same_text bytes
returns-in-108 c = λ s. rw (one_byte c.args.word.now 108 (omega arith) (omega arith))

pub returns-in_default : goal.returns-in_default
unfolding line_form
returns-in_default c = λ s. other_lengths c.args.word.now s (λ e. omega arith)

pub returns-in_default-2 : goal.returns-in_default-2
unfolding line_form
returns-in_default-2 c =
    let w = c.args.word.now in
    λ s. rw (one_byte w (get_or w 0 0) (omega arith) refl) (other_byte (get_or w 0 0) s (λ e. grind arith) (λ e. grind arith) (λ e. grind arith) (λ e. grind arith))

pub returns-in_default-3 : goal.returns-in_default-3
unfolding line_form
returns-in_default-3 c = λ s. other_lengths c.args.word.now s (λ e. omega arith)
