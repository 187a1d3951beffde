-- `exports::number_of` meets its contract: a wrong line's number is document 01's; the others the check finds.
use Rattle.std.specs.Prelude.{◌≡◌, Err}
use Rattle.std.proofs.Common.{rules, sym}
use Rattle.tree.specs.declared.Refusal.TheVariants.{WrongLine}
use Rattle.exports.specs.ExportedLaws.{wrong_number}
use Rattle.exports.proofs.number_of.Goals as goal

pub returns-in-Err-WrongLine : goal.returns-in-Err-WrongLine
returns-in-Err-WrongLine c =
    let e : c.args.r ≡ Err (WrongLine c.in-Err-WrongLine.field-0-0) = search rules in
    rw e (sym (wrong_number c.in-Err-WrongLine.field-0-0))
