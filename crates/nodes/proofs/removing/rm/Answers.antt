-- `nodes::removing::rm` meets its contract: what the checks refuse stays, and what they pass is taken out with its one row.
use Rattle.std.proofs.Common.{◌∙◌, refl}
use Rattle.walks.specs.WalkBytesLaws.{came_not}
use Rattle.shell.proofs.CommandBytesLaws.{passed_follows, silence_follows}
use Rattle.nodes.specs.NodeChecks.{may_remove}
use Rattle.nodes.specs.NodeChecksLaws.{rm_refused, rm_done, removing_passed, removing_came}
use Rattle.nodes.specs.NodeChangesLaws.{rm_row, rm_law}
use Rattle.nodes.proofs.removing.rm.Goals as goal

pub returns-in_err-spot : goal.returns-in_err-spot
returns-in_err-spot c t p tree reads =
    let a = c.args in
    let told = c.in_err-spot.ensures t p tree reads in
    passed_follows a.tree.now c.from_residual.ensures.1
    (rm_refused a.caller t a.kind p (came_not tree (may_remove a.caller.account t a.kind p) p told refl))

pub take_rows-requires : goal.take_rows-requires
take_rows-requires c =
    let t = c.requires.whole in
    let p = c.requires.path_text in
    rm_row (removing_came t.1 c.args.caller.account c.args.kind p.0 (c.in_ok-spot.ensures t.0 p.0 t.1 p.1) refl).at

pub returns : goal.returns
returns c t p tree reads =
    let a = c.args in
    let w = removing_came tree a.caller.account a.kind p (c.in_ok-spot.ensures t p tree reads) refl in
    let z = removing_passed a.caller.account t a.kind p w.walked in
    silence_follows a.tree.now _ (rm_done a.caller t a.kind p w.walked) (c.take_rows.ensures ∙ rm_law w.at w.over_at z.0 z.1.1)
