-- `attributes::reading::give_text` meets its contract: a file's content, or a directory's names.
use mathlib.Core.Path.{sym, ◌∙◌}
use Rattle.attributes.specs.ChecksLaws.{file_text, directory_text, answers_with}
use Rattle.attributes.proofs.reading.give_text.Goals as goal

pub returns-in-File : goal.returns-in-File
returns-in-File c =
    let a = c.args in
    let kind = sym c.kind_at.ensures ∙ c.in-File.is in
    answers_with a.answer.now (file_text a.tree.now a.row kind) c.give_content.ensures

pub returns-in-Directory : goal.returns-in-Directory
returns-in-Directory c =
    let a = c.args in
    let kind = sym c.kind_at.ensures ∙ c.in-Directory.is in
    answers_with a.answer.now (directory_text a.tree.now a.row kind) c.child_names.ensures
