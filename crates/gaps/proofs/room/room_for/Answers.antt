-- `gaps::room::room_for` meets its contract: none for `/`, else what the walk to the directory and the checks there come to.
use Rattle.std.proofs.Common.{sym, ap, ◌∙◌, refl}
use Rattle.buffers.specs.Text.{Text}
use Rattle.syntax.specs.Path.{parent}
use Rattle.syntax.proofs.PathTextLaws.{top_by_length, below_by_length, text_begins}
use Rattle.tree.specs.Walk.{by_modes, room}
use Rattle.tree.proofs.ResultLaws.{outcome_err, outcome_passed}
use Rattle.walks.specs.WalkBytesLaws.{parent_walk_to, parent_walk_not}
use Rattle.gaps.specs.Gaps.{gap_below}
use Rattle.gaps.specs.GapsLaws.{last_in_text, room_top, room_stops, room_goes_on, gap_not}
use Rattle.gaps.proofs.room.room_for.Goals as goal

pub returns-then-path-eq1 : goal.returns-then-path-eq1
returns-then-path-eq1 c t p tree reads =
    let a = c.args in
    outcome_err _ ∙ sym (gap_not t p (room (by_modes a.account) t p) (room_top a.account t p (top_by_length a.path.now p reads c.if-path-eq1.true)))

pub returns-in_err-directory : goal.returns-in_err-directory
returns-in_err-directory c t p tree reads =
    let a = c.args in
    let below = below_by_length a.path.now p reads c.if-path-eq1.false in
    let refused = parent_walk_not tree a.account a.path.now reads c.in_err-directory.ensures refl in
    outcome_passed c.from_residual.result c.from_residual.ensures.1
    ∙ sym (gap_not t p (room (by_modes a.account) t p) (room_stops a.account t p below refused))

pub last_name-requires : goal.last_name-requires
last_name-requires c =
    text_begins c.args.path.now c.requires.path_text.0 c.requires.path_text.1

pub room_below-requires : goal.room_below-requires
room_below-requires c =
    let d = parent_walk_to c.requires.whole.1 c.args.account c.args.path.now c.requires.path_text.1 c.in_ok-directory.ensures refl in
    (c.requires.whole.0, parent c.requires.path_text.0, d.place, d.at)

pub returns : goal.returns
returns c t p tree reads =
    let a = c.args in
    let below = below_by_length a.path.now p reads c.if-path-eq1.false in
    let d = parent_walk_to tree a.account a.path.now reads c.in_ok-directory.ensures refl in
    let named = c.last_name.ensures ∙ last_in_text a.path.now reads in
    c.room_below.ensures t (parent p) d.place d.at
    ∙ ap (λ (n : Text). gap_below a.account t (parent p) n d.place) named
    ∙ sym (room_goes_on a.account t p below d.walked)
