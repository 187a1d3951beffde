-- `printing::replies::is_missing` meets its contract: of all answers only a refusal has the number 3, and the one cause with it.
use Rattle.std.specs.Prelude.{◌≡◌, Ok, Err}
use Rattle.std.proofs.Common.{◌∙◌, rules}
use Rattle.tree.proofs.CausesLaws.{missing_compared}
use Rattle.tree.specs.declared.Refusal.TheVariants.{For, WrongLine}
use Rattle.shell.specs.Replies.{told}
use Rattle.printing.specs.PrintedLaws.{done_with_not_missing, wrong_line_not_missing}
use Rattle.printing.proofs.replies.is_missing.Goals as goal

pub returns-in-Ok : goal.returns-in-Ok
returns-in-Ok c =
    let e : c.args.r ≡ Ok c.in-Ok.field-0 = search rules in
    rw e (done_with_not_missing c.in-Ok.field-0)

pub returns-in-Err-For : goal.returns-in-Err-For
unfolding told
returns-in-Err-For c =
    let e : c.args.r ≡ Err (For c.in-Err-For.cause) = search rules in
    rw e (c.eq.ensures ∙ missing_compared c.in-Err-For.cause)

pub returns-in-Err-WrongLine : goal.returns-in-Err-WrongLine
returns-in-Err-WrongLine c =
    let e : c.args.r ≡ Err (WrongLine c.in-Err-WrongLine.field-0-0) = search rules in
    rw e (wrong_line_not_missing c.in-Err-WrongLine.field-0-0)
