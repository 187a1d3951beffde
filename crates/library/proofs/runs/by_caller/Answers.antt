-- `library::runs::by_caller` meets its contract: refused where the setup knows nobody, else the command of whom it knows.
use mathlib.Core.Path.{sym, ◌∙◌, ap}
use Rattle.header.specs.HeaderBytes.{known}
use Rattle.library.specs.RunLaws.{unknown_carries, known_carries, caller_low}
use Rattle.library.proofs.runs.by_caller.Goals as goal

pub run_line-requires : goal.run_line-requires
unfolding known
run_line-requires c =
    let h = c.requires.some_store in
    let e = ap known (sym c.in-Some.is) ∙ c.caller_in.ensures h.0 h.1 in
    record {
      some_store = h;
      some_typed = c.requires.some_typed;
      in_bounds = c.requires.in_bounds;
      uid_bound = caller_low h.1 c.args.uid _ e;
    }

pub returns-in-None : goal.returns-in-None
unfolding known
returns-in-None c s k h m =
    let a = c.args in
    let e = ap known (sym c.in-None.is) ∙ c.caller_in.ensures s h in
    unknown_carries h a.uid k a.answer.now e

pub returns-in-Some : goal.returns-in-Some
unfolding known
returns-in-Some c s k h m =
    let a = c.args in
    let e = ap known (sym c.in-Some.is) ∙ c.caller_in.ensures s h in
    known_carries h a.uid _ k e (c.run_line.ensures s k h m)
