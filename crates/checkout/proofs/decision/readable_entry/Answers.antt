-- `checkout::decision::readable_entry` meets its contract: the walk's answer stands, but for an entry that may not be read.
use Rattle.std.proofs.Common.{refl, sym, ◌∙◌}
use Rattle.buffers.specs.Cases.{answers_false, answers_true}
use Rattle.tree.proofs.ResultLaws.{outcome_ok, outcome_err, outcome_passed}
use Rattle.checkout.specs.CheckoutLaws.{entry_told_not, entry_told_row, entry_told_shut, entry_told_open}
use Rattle.checkout.proofs.decision.readable_entry.Goals as goal

pub walk-requires : goal.walk-requires
walk-requires c = c.requires.whole.1.sized

pub returns-in_err-spot : goal.returns-in_err-spot
returns-in_err-spot c t e tree reads =
    outcome_passed c.from_residual.result c.from_residual.ensures.1
    ∙ sym (entry_told_not tree c.args.account c.args.entry.now reads c.in_err-spot.ensures refl)

pub readable_at-requires : goal.readable_at-requires
readable_at-requires c =
    entry_told_row c.requires.whole.1 c.args.account c.args.entry.now c.requires.entry_path_text.1 c.in_ok-spot.ensures refl

pub returns-then-not-readable_at : goal.returns-then-not-readable_at
returns-then-not-readable_at c t e tree reads =
    let v = c.readable_at.ensures in
    outcome_err _
    ∙ sym (entry_told_shut tree c.args.account c.args.entry.now reads c.in_ok-spot.ensures refl v (v ∙ answers_false v c.if-not-readable_at.true-raw))

pub returns : goal.returns
returns c t e tree reads =
    let v = c.readable_at.ensures in
    outcome_ok _
    ∙ sym (entry_told_open tree c.args.account c.args.entry.now reads c.in_ok-spot.ensures refl v (v ∙ answers_true v c.if-not-readable_at.false-raw))
