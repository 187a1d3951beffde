-- `adding::entry_room` meets its contract: no room, 256 nodes, or the room.
use Rattle.std.proofs.Common.{arith, sym, ap, ◌∙◌, refl}
use Rattle.syntax.specs.Path.{entry_location}
use Rattle.syntax.proofs.PathLaws.{entry_reads}
use Rattle.tree.proofs.ResultLaws.{outcome_err, outcome_passed}
use Rattle.tree.proofs.TreeBytesLaws.{encoded_count}
use Rattle.gaps.specs.Gaps.{gap_from}
use Rattle.gaps.specs.GapsLaws.{gap_not, room_to, room_not}
use Rattle.adding.specs.AddSteps.{add_room}
use Rattle.adding.specs.AddLaws.{add_stops, add_full, add_goes}
use Rattle.adding.proofs.entry_room.Goals as goal

pub room_for-requires : goal.room_for-requires
room_for-requires c = record {
  whole = c.requires.whole;
  path_text = (entry_location c.requires.entry_path_text.0, entry_reads c.args.entry.now c.requires.entry_path_text.0 c.requires.entry_path_text.1);
}

pub returns-in_err-gap : goal.returns-in_err-gap
returns-in_err-gap c t e tree read =
    let a = c.args in
    let p = entry_location e in
    let told = c.in_err-gap.ensures t p tree (entry_reads a.entry.now e read) in
    outcome_passed c.from_residual.result c.from_residual.ensures.1
    ∙ sym (gap_not t p (add_room a.account t e) (add_stops a.account t e (room_not tree a.account p told refl)))

pub returns-then-count-ge-MOST_ROWS : goal.returns-then-count-ge-MOST_ROWS
returns-then-count-ge-MOST_ROWS c t e tree read =
    let a = c.args in
    let p = entry_location e in
    let g = room_to tree a.account p (c.in_ok-gap.ensures t p tree (entry_reads a.entry.now e read)) refl in
    outcome_err _
    ∙ sym (gap_not t p (add_room a.account t e)
    (add_full a.account t e g.found (omega (arith, c.if-count-ge-MOST_ROWS.true, c.count.ensures, encoded_count tree))))

pub returns : goal.returns
returns c t e tree read =
    let a = c.args in
    let p = entry_location e in
    let told = c.in_ok-gap.ensures t p tree (entry_reads a.entry.now e read) in
    let g = room_to tree a.account p told refl in
    let fits = add_goes a.account t e g.found (omega (arith, c.if-count-ge-MOST_ROWS.false, c.count.ensures, encoded_count tree)) in
    told ∙ ap (gap_from t p) (g.found ∙ sym fits)
