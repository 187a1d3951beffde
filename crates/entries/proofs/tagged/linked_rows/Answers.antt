-- `entries::tagged::linked_rows` meets its contract: from the row of the working file on it is the steps from its place on.
use Rattle.std.proofs.Common.{refl, ◌∙◌}
use Rattle.tree.proofs.ResultLaws.{outcome_passed}
use Rattle.walks.specs.WalkBytesLaws.{walk_to, walk_not}
use Rattle.entries.specs.LinkLaws.{link_came, link_refused}
use Rattle.entries.proofs.tagged.linked_rows.Goals as goal

pub returns-in_err-spot : goal.returns-in_err-spot
returns-in_err-spot c t w tree e =
    let a = c.args in
    outcome_passed c.from_residual.result c.from_residual.ensures.1
    ∙ link_refused a.person a.account a.right t w (walk_not tree a.person a.working.now e c.in_err-spot.ensures refl)

pub linked_at-requires : goal.linked_at-requires
linked_at-requires c =
    let w = walk_to c.requires.whole.1 c.args.person c.args.working.now c.requires.path_text.1 c.in_ok-spot.ensures refl in
    (c.requires.whole.0, c.requires.path_text.0, w.place, w.at)

pub returns : goal.returns
returns c t w tree e =
    let a = c.args in
    let x = walk_to tree a.person a.working.now e c.in_ok-spot.ensures refl in
    link_came a.person a.account a.right t w x.walked (c.linked_at.ensures t w x.place x.at)
