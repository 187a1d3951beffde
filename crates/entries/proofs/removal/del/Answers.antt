-- `entries::removal::del` meets its contract: the row it takes out is that of the entry that the steps lead to, and a refusal leaves all.
use Rattle.std.proofs.Common.{refl, ◌∙◌}
use Rattle.shell.proofs.CommandBytesLaws.{passed_follows, silence_follows}
use Rattle.entries.specs.EntrySteps.{del_walk, after_del}
use Rattle.entries.specs.RemovalLaws.{del_to, del_not, del_row, del_law}
use Rattle.entries.specs.EntryStepsLaws.{comes_to, comes_not}
use Rattle.entries.proofs.removal.del.Goals as goal

pub returns-in_err-spot : goal.returns-in_err-spot
returns-in_err-spot c t e tree read =
    let s = c.args in
    let a = s.account in
    passed_follows s.tree.now c.from_residual.ensures.1
    (comes_not (del_walk a t e) (λ d. after_del t e) (del_not a t e tree (c.in_err-spot.ensures t e tree read) refl))

pub take_rows-requires : goal.take_rows-requires
take_rows-requires c =
    let a = c.args.account in
    let t = c.requires.whole.0 in
    let e = c.requires.entry_path_text.0 in
    del_row a t e (del_to a t e c.requires.whole.1 (c.in_ok-spot.ensures t e c.requires.whole.1 c.requires.entry_path_text.1) refl)

pub returns : goal.returns
returns c t e tree read =
    let s = c.args in
    let a = s.account in
    let x = del_to a t e tree (c.in_ok-spot.ensures t e tree read) refl in
    silence_follows s.tree.now c.take_rows.new.tree (comes_to (del_walk a t e) (λ d. after_del t e) x.walked) (c.take_rows.ensures ∙ del_law a t e x)
