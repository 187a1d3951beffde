-- `line_runner::run_short` meets its contract: in the second text stands the whole command, or a path was too deep.
use Rattle.std.proofs.Common.{refl}
use Rattle.std.proofs.lemmas.Result.{err_from_is_err_and}
use Rattle.line_runner.specs.LineDoneLaws.{directory_reads, text_made, text_too_deep, whole_carries, deep_carries}
use Rattle.line_runner.proofs.run_short.Goals as goal

pub make_whole-requires : goal.make_whole-requires
make_whole-requires c =
    let d = c.directory_in in
    let h = c.requires.some_store in
    record {
      path_text = (_, directory_reads h.1 c.args.caller.account.uid d.result.now (d.ensures h.0 h.1));
      typed_read = c.requires.some_typed.read;
      text_len = refl;
    }

pub returns-in_err-moved : goal.returns-in_err-moved
returns-in_err-moved c s k h m =
    let d = c.directory_in in
    let x = c.in_err-moved.ensures in
    let passed = err_from_is_err_and c.from_residual.result c.from_residual.ensures.1 in
    rw (passed.1, passed.2)
    (deep_carries s c.args.caller k
    (text_too_deep h c.args.caller.account.uid m c.requires.some_typed.read d.result.now (d.ensures s h) _ refl x.value refl)
    c.args.store.now c.args.answer.now)

pub run_whole-requires : goal.run_whole-requires
run_whole-requires c =
    let d = c.directory_in in
    let x = c.in_ok-moved.ensures in
    let h = c.requires.some_store in
    let t = c.requires.some_typed in
    let i = text_made h.1 c.args.caller.account.uid t.meant t.read d.result.now (d.ensures h.0 h.1) _ refl x.value _ x.text_after refl in
    record { some_store = h; some_whole = (i.command, i.meant); in_bounds = c.requires.in_bounds; uid_bound = c.requires.uid_bound }

pub returns : goal.returns
returns c s k h m =
    let d = c.directory_in in
    let x = c.in_ok-moved.ensures in
    let i = text_made h c.args.caller.account.uid m c.requires.some_typed.read d.result.now (d.ensures s h) _ refl x.value _ x.text_after refl in
    whole_carries s c.args.caller k i.command i.is_whole (c.run_whole.ensures s i.command h i.meant)
