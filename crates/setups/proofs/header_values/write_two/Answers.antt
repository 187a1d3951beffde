-- `setups::header_values::write_two` meets its contract: two stores side by side are one piece.
use native.Mathlib.Omega.{arith}
use lib.ListN.{length-set}
use Rattle.setups.specs.HeaderValuesLaws.{two_stored}
use Rattle.setups.proofs.header_values.write_two.Goals as goal

pub bounds-header-at-2 : goal.bounds-header-at-2
bounds-header-at-2 c = simp length-set (omega arith)

pub returns : goal.returns
returns c = let a = c.args in two_stored a.header.now a.at a.v a.w (omega arith)
