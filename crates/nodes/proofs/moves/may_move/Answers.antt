-- `nodes::moves::may_move` meets its contract: a reserved path, a refused walk, or the checks by what stands where the second leads.
use Rattle.std.proofs.Common.{◌≡◌, refl, sym, ◌∙◌, ap, true, false, ◌||◌}
use Rattle.std.proofs.Math.Option.{some}
use Rattle.syntax.specs.Path.{Path, parent, path, reserved}
use Rattle.syntax.proofs.PathTextLaws.{text_begins, same_by_text}
use Rattle.tree.specs.Forest.{Place}
use Rattle.tree.specs.Node.{Node}
use Rattle.tree.specs.Walk.{by_modes, walk, parent_walk}
use Rattle.tree.specs.RowScan.{child_in}
use Rattle.tree.specs.RowAt.{all_rows}
use Rattle.tree.specs.TreeBytes.{Encodes}
use Rattle.tree.proofs.ResultLaws.{outcome_passed, refused_bind}
use Rattle.tree.proofs.TreeBytesLaws.{at_used, at_found, at_missing}
use Rattle.walks.specs.WalkBytes.{Came}
use Rattle.walks.specs.WalkBytesLaws.{walk_to, walk_not, parent_walk_to, parent_walk_not}
use Rattle.gaps.specs.GapsLaws.{last_in_text, place_row}
use Rattle.nodes.specs.NodeChecksLaws.{reserved_told}
use Rattle.nodes.specs.MoveChecksLaws.{within_told, moving_reserved, moving_stops, target_stops, moving_into, moving_onto, answer_refused}
use Rattle.nodes.proofs.moves.may_move.Goals as goal
use Rattle.nodes.proofs.moves.may_move.Goals.{Then-is_reserved, Else-is_reserved-2, In_ok-place, In_ok-directory}
use Rattle.nodes.proofs.moves.may_move.Goals.{then-is_reserved-via-then-is_reserved, then-is_reserved-via-else-is_reserved+then-is_reserved-2}

-- neither path is reserved
unreserved : (c : Else-is_reserved-2) (p q : Path) → path c.args.from.now ≡ some p → path c.args.to.now ≡ some q → (reserved p ≡ false) × (reserved q ≡ false)
unreserved c p q from to = (
  sym (reserved_told c.args.from.now c.is_reserved.ensures p from) ∙ c.if-is_reserved.false,
  sym (reserved_told c.args.to.now c.is_reserved-else-is_reserved.ensures q to) ∙ c.if-is_reserved-2.false,
)

-- the walk has come to the row of the place at the first path
led : (c : In_ok-place) {t : Place Node} {p : Path} → Encodes c.args.tree.now t → path c.args.from.now ≡ some p
    → Came c.args.tree.now t p (walk (by_modes c.args.account) t p) c.in_ok-place.place.row c.in_ok-place.place.above
led c tree from =
    let a = c.args in
    walk_to tree a.account a.from.now from c.in_ok-place.ensures refl

-- and the parent walk to that of the directory of the second
entered : (c : In_ok-directory) {t : Place Node} {q : Path} → Encodes c.args.tree.now t → path c.args.to.now ≡ some q
    → Came c.args.tree.now t (parent q) (parent_walk (by_modes c.args.account) t q) c.in_ok-directory.directory.row c.in_ok-directory.directory.above
entered c tree to =
    let a = c.args in
    parent_walk_to tree a.account a.to.now to c.in_ok-directory.ensures refl

pub returns-then-is_reserved : goal.returns-then-is_reserved
returns-then-is_reserved c t p q tree from to =
    let a = c.args in
    let first = sym (reserved_told a.from.now c.is_reserved.ensures p from) in
    let one : (reserved p || reserved q) ≡ true = elim c.then-is_reserved.branch [
      | then-is_reserved-via-then-is_reserved w ↦ rw (first ∙ w.if-is_reserved.true)
      | then-is_reserved-via-else-is_reserved+then-is_reserved-2 w ↦
          rw (first ∙ w.if-is_reserved.false, sym (reserved_told a.to.now w.is_reserved-else-is_reserved.ensures q to) ∙ w.if-is_reserved-2.true)
    ] in
    answer_refused t p q (moving_reserved a.account t p q one)

pub returns-in_err-place : goal.returns-in_err-place
returns-in_err-place c t p q tree from to =
    let a = c.args in
    let r = unreserved (goal.at.returns-in_err-place c).Else-is_reserved-2 p q from to in
    let stops = moving_stops a.account t p q r.0 r.1 (walk_not tree a.account a.from.now from c.in_err-place.ensures refl) in
    outcome_passed c.from_residual.result c.from_residual.ensures.1 ∙ sym (rw (stops, refused_bind))

pub returns-in_err-directory : goal.returns-in_err-directory
returns-in_err-directory c t p q tree from to =
    let a = c.args in
    let at = goal.at.returns-in_err-directory c in
    let r = unreserved at.Else-is_reserved-2 p q from to in
    let refused = parent_walk_not tree a.account a.to.now to c.in_err-directory.ensures refl in
    let stops = target_stops a.account t p q r.0 r.1 (led at.In_ok-place tree from).walked refused in
    outcome_passed c.from_residual-in_err-directory.result c.from_residual-in_err-directory.ensures.1 ∙ sym (rw (stops, refused_bind))

pub may_write_both-writable-requires : goal.may_write_both-writable-requires
may_write_both-writable-requires c =
    let at = goal.at.may_write_both-writable-requires c in
    record {
      has_row = place_row (led at.In_ok-place c.requires.whole.1 c.requires.path_text.1).over_at;
      has_row_2 = place_row (entered at.In_ok-directory c.requires.whole.1 c.requires.path_text_2.1).at;
    }

pub last_name-requires : goal.last_name-requires
last_name-requires c =
    text_begins c.args.to.now c.requires.path_text_2.0 c.requires.path_text_2.1

pub find_child-requires : goal.find_child-requires
find_child-requires c = at_used (entered (goal.at.find_child-requires c).In_ok-directory c.requires.whole.1 c.requires.path_text_2.1).at

pub judge_onto-requires : goal.judge_onto-requires
judge_onto-requires c =
    let at = goal.at.judge_onto-requires c in
    record {
      has_row = place_row (led at.In_ok-place c.requires.whole.1 c.requires.path_text.1).at;
      has_row_2 = place_row (at_found (entered at.In_ok-directory c.requires.whole.1 c.requires.path_text_2.1).at _ c.in-Ok.ensures).2;
    }

pub judge_into-requires : goal.judge_into-requires
judge_into-requires c =
    let at = goal.at.judge_into-requires c in
    record {
      used = at_used (led at.In_ok-place c.requires.whole.1 c.requires.path_text.1).at;
      has_row = place_row (entered at.In_ok-directory c.requires.whole.1 c.requires.path_text_2.1).at;
    }

pub returns-in-Ok : goal.returns-in-Ok
returns-in-Ok c t p q tree from to =
    let a = c.args in
    let at = goal.at.returns-in-Ok c in
    let r = unreserved at.Else-is_reserved-2 p q from to in
    let v = entered at.In_ok-directory tree to in
    let name = c.last_name.ensures ∙ last_in_text a.to.now to in
    let f = at_found v.at _ (c.in-Ok.ensures ∙ ap (child_in (all_rows a.tree.now) _) name) in
    c.judge_onto.ensures
    ∙ moving_onto a.account t p q r.0 r.1 (led at.In_ok-place tree from) v c.may_write_both-writable.ensures f.1 f.2
    (c.same.ensures ∙ sym (same_by_text a.from.now a.to.now p q from to))

pub returns-in-Err : goal.returns-in-Err
returns-in-Err c t p q tree from to =
    let a = c.args in
    let at = goal.at.returns-in-Err c in
    let r = unreserved at.Else-is_reserved-2 p q from to in
    let v = entered at.In_ok-directory tree to in
    let name = c.last_name.ensures ∙ last_in_text a.to.now to in
    let f = at_missing v.at _ (c.in-Err.ensures ∙ ap (child_in (all_rows a.tree.now) _) name) in
    c.judge_into.ensures
    ∙ moving_into a.account t p q r.0 r.1 (led at.In_ok-place tree from) v c.may_write_both-writable.ensures f.0
    (c.is_within.ensures ∙ within_told a.from.now a.to.now p q from to)
