-- `tree::rows::kind_at` meets its contract: the kind is byte 1 of the row, `d` for a directory.
use mathlib.Core.Path.{sym}
use Rattle.tree.proofs.RowAtLaws.{directory_in_row, file_in_row}
use Rattle.tree.proofs.rows.kind_at.Goals as goal

pub returns-then-tree-i-eq-DIRECTORY : goal.returns-then-tree-i-eq-DIRECTORY
returns-then-tree-i-eq-DIRECTORY c = sym (directory_in_row c.args.tree.now c.args.i c.if-tree-i-eq-DIRECTORY.true)

pub returns : goal.returns
returns c = sym (file_in_row c.args.tree.now c.args.i c.if-tree-i-eq-DIRECTORY.false)
