-- `entries::removal::walk_del` meets its contract: the tests at the row that the walk came to are those at its place.
use Rattle.std.proofs.Common.{refl, ◌∙◌}
use Rattle.syntax.proofs.PathLaws.{entry_reads}
use Rattle.tree.proofs.ResultLaws.{outcome_ok, outcome_passed}
use Rattle.tree.proofs.TreeBytesLaws.{at_used}
use Rattle.walks.specs.WalkBytesLaws.{walk_to, walk_not}
use Rattle.entries.specs.LinkLaws.{at_has_row, passing_barred, passing_done}
use Rattle.entries.specs.RemovalLaws.{del_came, del_refused}
use Rattle.entries.proofs.removal.walk_del.Goals as goal

pub returns-in_err-spot : goal.returns-in_err-spot
returns-in_err-spot c t e tree read =
    let a = c.args in
    outcome_passed c.from_residual.result c.from_residual.ensures.1
    ∙ del_refused a.account t e (walk_not tree a.account a.entry.now (entry_reads a.entry.now e read) c.in_err-spot.ensures refl)

pub judge_del-requires : goal.judge_del-requires
judge_del-requires c =
    let a = c.args in
    let reads = entry_reads a.entry.now c.requires.entry_path_text.0 c.requires.entry_path_text.1 in
    let w = walk_to c.requires.whole.1 a.account a.entry.now reads c.in_ok-spot.ensures refl in
    record {
      used = at_used w.at;
      has_row = at_has_row w.over_at;
    }

pub returns-in_err-judge_del : goal.returns-in_err-judge_del
returns-in_err-judge_del c t e tree read =
    let a = c.args in
    let came = walk_to tree a.account a.entry.now (entry_reads a.entry.now e read) c.in_ok-spot.ensures refl in
    outcome_passed c.from_residual-in_err-judge_del.result c.from_residual-in_err-judge_del.ensures.1
    ∙ del_came a.account t e came (passing_barred _ c.in_err-judge_del.ensures)

pub returns : goal.returns
returns c t e tree read =
    let a = c.args in
    let came = walk_to tree a.account a.entry.now (entry_reads a.entry.now e read) c.in_ok-spot.ensures refl in
    outcome_ok _ ∙ del_came a.account t e came (passing_done _ c.in_ok-judge_del.ensures)
