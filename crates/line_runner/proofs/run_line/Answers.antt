-- `line_runner::run_line` meets its contract: without short paths the line itself is the text in which all paths are whole.
use mathlib.Core.Path.{sym, ◌∙◌}
use Rattle.line_runner.specs.LineDoneLaws.{line_made, whole_carries}
use Rattle.line_runner.proofs.run_line.Goals as goal

pub run_whole-requires : goal.run_whole-requires
run_whole-requires c =
    let h = c.requires.some_store in
    let t = c.requires.some_typed in
    let i = line_made h.1 c.args.caller.account.uid t.meant t.read (sym c.any_short.ensures ∙ c.if-any_short.false) in
    record { some_store = h; some_whole = (i.command, i.meant); in_bounds = c.requires.in_bounds; uid_bound = c.requires.uid_bound }

pub returns : goal.returns
returns c s k h m =
    let i = line_made h c.args.caller.account.uid m c.requires.some_typed.read (sym c.any_short.ensures ∙ c.if-any_short.false) in
    whole_carries s c.args.caller k i.command i.is_whole (c.run_whole.ensures s i.command h i.meant)
