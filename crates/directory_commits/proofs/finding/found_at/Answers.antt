-- `directory_commits::finding::found_at` meets its contract: one law of the steps for each return.
use Rattle.std.proofs.Common.{refl, sym, ◌∙◌}
use Rattle.tree.proofs.ResultLaws.{outcome_ok, outcome_err, outcome_passed}
use Rattle.walks.specs.WalkBytesLaws.{walk_to, walk_not}
use Rattle.entries.specs.LinkLaws.{at_has_row}
use Rattle.directory_commits.specs.StepsLaws.{not_found, file_found, directory_found, directory_shut}
use Rattle.directory_commits.proofs.finding.found_at.Goals as goal

pub returns-in_err-row : goal.returns-in_err-row
returns-in_err-row c t p tree e =
    let a = c.args in
    outcome_passed c.from_residual.result c.from_residual.ensures.1
    ∙ not_found a.person t p (walk_not tree a.person a.path.now e c.in_err-row.ensures refl)

pub kind_at-requires : goal.kind_at-requires
kind_at-requires c =
    at_has_row (walk_to c.requires.whole.1 c.args.person c.args.path.now c.requires.path_text.1 c.in_ok-row.ensures refl).at

pub readable_at-requires : goal.readable_at-requires
readable_at-requires c =
    at_has_row (walk_to c.requires.whole.1 c.args.person c.args.path.now c.requires.path_text.1 c.in_ok-row.ensures refl).at

pub returns-in-File : goal.returns-in-File
returns-in-File c t p tree e =
    let a = c.args in
    outcome_ok _
    ∙ file_found a.person t p (walk_to tree a.person a.path.now e c.in_ok-row.ensures refl) (sym c.in-File.ensures)

pub returns-in-Directory : goal.returns-in-Directory
returns-in-Directory c t p tree e =
    let a = c.args in
    outcome_ok _
    ∙ directory_found a.person t p (walk_to tree a.person a.path.now e c.in_ok-row.ensures refl)
    (sym c.in-Directory.ensures) (sym c.readable_at.ensures ∙ c.if-readable_at.true)

pub returns-in-Directory-2 : goal.returns-in-Directory-2
returns-in-Directory-2 c t p tree e =
    let a = c.args in
    outcome_err _
    ∙ directory_shut a.person t p (walk_to tree a.person a.path.now e c.in_ok-row.ensures refl)
    (sym c.in-Directory-2.ensures) (sym c.readable_at.ensures ∙ c.if-readable_at.false)
