-- `nodes::removing::may_remove` meets its contract: a reserved path, a refused walk, or the checks where the walk came to.
use Rattle.std.proofs.Common.{sym, ◌∙◌, refl}
use Rattle.tree.proofs.ResultLaws.{refused_bind, outcome_passed}
use Rattle.tree.proofs.TreeBytesLaws.{at_used}
use Rattle.walks.specs.WalkBytesLaws.{walk_to, walk_not}
use Rattle.gaps.specs.GapsLaws.{place_row}
use Rattle.nodes.specs.NodeChecks.{may_remove}
use Rattle.nodes.specs.NodeChecksLaws.{reserved_told, removing_reserved, removing_stops, removing_there, refusal_told_at}
use Rattle.nodes.proofs.removing.may_remove.Goals as goal

pub returns-then-is_reserved : goal.returns-then-is_reserved
returns-then-is_reserved c t p tree reads =
    let a = c.args in
    refusal_told_at t p (may_remove a.account t a.kind p)
    (removing_reserved a.account t a.kind p (sym (reserved_told a.path.now c.is_reserved.ensures p reads) ∙ c.if-is_reserved.true))

pub returns-in_err-spot : goal.returns-in_err-spot
returns-in_err-spot c t p tree reads =
    let a = c.args in
    let free = sym (reserved_told a.path.now c.is_reserved.ensures p reads) ∙ c.if-is_reserved.false in
    let stops = removing_stops a.account t a.kind p free (walk_not tree a.account a.path.now reads c.in_err-spot.ensures refl) in
    outcome_passed c.from_residual.result c.from_residual.ensures.1 ∙ sym (rw (stops, refused_bind))

pub may_remove_row-requires : goal.may_remove_row-requires
may_remove_row-requires c =
    let w = walk_to c.requires.whole.1 c.args.account c.args.path.now c.requires.path_text.1 c.in_ok-spot.ensures refl in
    record {
      used = at_used w.at;
      has_row = place_row w.over_at;
    }

pub returns : goal.returns
returns c t p tree reads =
    let a = c.args in
    let free = sym (reserved_told a.path.now c.is_reserved.ensures p reads) ∙ c.if-is_reserved.false in
    let w = walk_to tree a.account a.path.now reads c.in_ok-spot.ensures refl in
    c.may_remove_row.ensures ∙ removing_there a.account t a.kind p free w
