-- `nodes::moves::mv` meets its contract: what the checks refuse stays, what they pass is moved to the tree of the steps.
use Rattle.std.proofs.Common.{◌≡◌, sym, ◌∙◌, ap, List, ℕ, Ok}
use Rattle.tree.specs.Encoding.{encode_tree}
use Rattle.tree.specs.Result.{outcome}
use Rattle.edits.specs.Changes.{rows_taken}
use Rattle.gaps.specs.GapsLaws.{place_row}
use Rattle.shell.proofs.CommandBytesLaws.{passed_follows, silence_follows}
use Rattle.nodes.specs.declared.Move.{Move}
use Rattle.nodes.specs.MoveChecksLaws.{mv_refused, mv_done, moving_passed, told_refused, told_itself, found_into, found_onto}
use Rattle.nodes.specs.NodeChangesLaws.{movable, movable_moves, copied_row, replace_law, still_law}
use Rattle.nodes.proofs.moves.mv.Goals as goal

-- what the checks told, by the move that they told
told : {m n : Move} → m ≡ n → outcome (Ok n) ≡ outcome (Ok m)
told e = ap (λ (m : Move). outcome (Ok m)) (sym e)

pub returns-in_err-row : goal.returns-in_err-row
returns-in_err-row c t p q tree from to =
    let a = c.args in
    passed_follows a.tree.now c.from_residual.ensures.1 (mv_refused a.caller t p q (told_refused t p q _ (c.in_err-row.ensures t p q tree from to)))

pub move_place-requires : goal.move_place-requires
move_place-requires c =
    let t = c.requires.whole in
    let p = c.requires.path_text in
    let q = c.requires.path_text_2 in
    let f = found_into t.1 c.args.caller.account p.0 q.0 (told c.in-Into.is ∙ c.in_ok-row.ensures t.0 p.0 q.0 t.1 p.1 q.1) in
    movable t.1 c.args.to.now q.1 f.2 (moving_passed c.args.caller.account t.0 p.0 q.0 f.1)

pub copy_node-requires : goal.copy_node-requires
copy_node-requires c =
    let t = c.requires.whole in
    let p = c.requires.path_text in
    let q = c.requires.path_text_2 in
    let f = found_onto t.1 c.args.caller.account p.0 q.0 (told c.in-Onto.is ∙ c.in_ok-row.ensures t.0 p.0 q.0 t.1 p.1 q.1) in
    record {
      has_row = place_row f.4.0;
      has_row_2 = place_row f.4.1;
    }

pub take_rows-requires : goal.take_rows-requires
take_rows-requires c =
    let t = c.requires.whole in
    let p = c.requires.path_text in
    let q = c.requires.path_text_2 in
    let f = found_onto t.1 c.args.caller.account p.0 q.0 (told c.in-Onto.is ∙ c.in_ok-row.ensures t.0 p.0 q.0 t.1 p.1 q.1) in
    rw c.copy_node.ensures (copied_row f.4.0 f.4.1 (moving_passed c.args.caller.account t.0 p.0 q.0 f.2))

pub returns-in-Into : goal.returns-in-Into
returns-in-Into c t p q tree from to =
    let a = c.args in
    let f = found_into tree a.caller.account p q (told c.in-Into.is ∙ c.in_ok-row.ensures t p q tree from to) in
    let m = moving_passed a.caller.account t p q f.1 in
    silence_follows a.tree.now _ (mv_done a.caller t p q f.1)
    (c.move_place.ensures (movable tree a.to.now to f.2 m) ∙ ap encode_tree (movable_moves tree a.to.now to f.2 m))

pub returns-in-Onto : goal.returns-in-Onto
returns-in-Onto c t p q tree from to =
    let a = c.args in
    let f = found_onto tree a.caller.account p q (told c.in-Onto.is ∙ c.in_ok-row.ensures t p q tree from to) in
    let m = moving_passed a.caller.account t p q f.2 in
    silence_follows a.tree.now _ (mv_done a.caller t p q f.2)
    (c.take_rows.ensures ∙ ap (λ (b : List ℕ). rows_taken b c.in-Onto.row 1) c.copy_node.ensures ∙ replace_law f.4.0 f.4.1 m f.3)

pub returns-in-Itself : goal.returns-in-Itself
returns-in-Itself c t p q tree from to =
    let a = c.args in
    let i = told_itself t p q _ (told c.in-Itself.is ∙ c.in_ok-row.ensures t p q tree from to) in
    silence_follows a.tree.now _ (mv_done a.caller t p q i.2) (still_law tree p q i.0 i.1 i.3)
