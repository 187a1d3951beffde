-- `directory_commits::row::row_after` meets its contract: the next row for a file and for a directory that may be read, else where its rows end.
use Rattle.std.proofs.Common.{arith, sym, ◌∙◌}
use Rattle.tree.proofs.TreeBytesLaws.{at_used}
use Rattle.entries.specs.LinkLaws.{at_has_row}
use Rattle.directory_commits.specs.StepsLaws.{file_row_after, next_row, row_passed}
use Rattle.directory_commits.proofs.row.row_after.Goals as goal

pub kind_at-requires : goal.kind_at-requires
kind_at-requires c = at_has_row c.requires.3

pub overflow_add-result : goal.overflow_add-result
overflow_add-result c = let u = at_used c.requires.3 in omega arith

pub overflow_add-result-in-Directory : goal.overflow_add-result-in-Directory
overflow_add-result-in-Directory c = let u = at_used c.requires.3 in omega arith

pub readable_at-requires : goal.readable_at-requires
readable_at-requires c = at_has_row c.requires.3

pub subtree_end-requires : goal.subtree_end-requires
subtree_end-requires c = at_used c.requires.3

pub returns-in-File : goal.returns-in-File
returns-in-File c t p d at = file_row_after c.args.person at (sym c.in-File.ensures)

pub returns-in-Directory : goal.returns-in-Directory
returns-in-Directory c t p d at = next_row c.args.person at (sym c.readable_at.ensures ∙ c.if-readable_at.true)

pub returns-in-Directory-2 : goal.returns-in-Directory-2
returns-in-Directory-2 c t p d at =
    c.subtree_end.ensures.0 ∙ row_passed c.args.person at (sym c.readable_at.ensures ∙ c.if-readable_at.false)
