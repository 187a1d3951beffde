-- `printing::replies::write_answer` meets its contract: each arm writes the line of its answer.
use mathlib.Core.Path.{◌≡◌, ◌∙◌, ap}
use mathlib.Core.List.{◌++◌}
use Prim.Native.Nat.{ℕ}
use native.Mathlib.Omega.{arith}
use Rattle.std.proofs.Common.{rules}
use Rattle.std.specs.Prelude.{Ok, Err, Some, None}
use Rattle.syntax.specs.Number.{decimal_text}
use Rattle.syntax.specs.Pieces.{bytes}
use Rattle.tree.specs.declared.Refusal.TheVariants.{For, WrongLine}
use Rattle.printing.specs.PrintedLaws.{wrote_most, wrote_within, done_is, text_is, refusal_is, wrong_line_is}
use Rattle.printing.proofs.replies.write_answer.Goals as goal

pub returns-in-Ok-None : goal.returns-in-Ok-None
unfolding bytes
returns-in-Ok-None c =
    let a = c.args in
    let e : a.r ≡ Ok None = search rules in
    rw e (wrote_within (wrote_most c.write_word.ensures) (done_is a.answer.now) (omega arith))

pub returns-in-Ok-Some : goal.returns-in-Ok-Some
unfolding bytes
returns-in-Ok-Some c =
    let a = c.args in
    let e : a.r ≡ Ok (Some c.in-Ok-Some.n) = search rules in
    rw e (wrote_within c.write_ok.ensures (text_is a.answer.now c.in-Ok-Some.n) (omega arith))

pub returns-in-Err-For : goal.returns-in-Err-For
unfolding bytes
returns-in-Err-For c =
    let a = c.args in
    let e : a.r ≡ Err (For c.in-Err-For.cause) = search rules in
    let line = ap (λ (n : ℕ). bytes "no," ++ decimal_text n) c.number.ensures ∙ refusal_is a.answer.now c.in-Err-For.cause in
    rw e (wrote_within c.write_no.ensures line (omega arith))

pub returns-in-Err-WrongLine : goal.returns-in-Err-WrongLine
unfolding bytes
returns-in-Err-WrongLine c =
    let a = c.args in
    let e : a.r ≡ Err (WrongLine c.in-Err-WrongLine.line) = search rules in
    rw e (wrote_within c.write_no-in-Err-WrongLine.ensures (wrong_line_is a.answer.now c.in-Err-WrongLine.line) (omega arith))
