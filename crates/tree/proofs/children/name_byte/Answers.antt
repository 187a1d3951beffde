-- `tree::children::name_byte` meets its contract: within the field a byte stands in the tree's bytes, and behind it the name has ended.
use native.Mathlib.Omega.{arith}
use mathlib.Core.Path.{sym}
use lib.ListN.{get_or-eq_default}
use Rattle.tree.specs.RowAt.{row_at}
use Rattle.tree.proofs.RowAtLaws.{row_name_fits}
use Rattle.tree.proofs.SearchLaws.{name_byte}
use Rattle.tree.proofs.children.name_byte.Goals as goal

pub returns-then-k-lt-NAME_WIDTH : goal.returns-then-k-lt-NAME_WIDTH
returns-then-k-lt-NAME_WIDTH c =
    let a = c.args in
    sym (name_byte a.tree.now a.i a.k (omega arith) (omega arith))

pub returns : goal.returns
returns c =
    let a = c.args in
    sym (get_or-eq_default (row_at a.tree.now a.i).name 0 (omega (arith, row_name_fits a.tree.now a.i)))
