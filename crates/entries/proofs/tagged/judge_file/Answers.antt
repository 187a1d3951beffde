-- `entries::tagged::judge_file` meets its contract: one law of the tests for each return.
use Rattle.std.proofs.Common.{sym, ◌∙◌}
use Rattle.tree.proofs.ResultLaws.{outcome_ok, outcome_err}
use Rattle.entries.specs.TestsLaws.{file_directory, file_shut, file_open}
use Rattle.entries.proofs.tagged.judge_file.Goals as goal

pub returns-in-Directory : goal.returns-in-Directory
returns-in-Directory c = outcome_err _ ∙ file_directory _ _ _ (sym c.in-Directory.ensures)

pub returns-in-File : goal.returns-in-File
returns-in-File c = outcome_ok _ ∙ file_open _ _ _ (sym c.in-File.ensures) (sym c.may_at.ensures ∙ c.if-may_at.true)

pub returns-in-File-2 : goal.returns-in-File-2
returns-in-File-2 c = outcome_err _ ∙ file_shut _ _ _ (sym c.in-File-2.ensures) (sym c.may_at.ensures ∙ c.if-may_at.false)
