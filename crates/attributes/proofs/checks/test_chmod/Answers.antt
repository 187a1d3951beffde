-- `attributes::checks::test_chmod` meets its contract: its two tests are those of the row, in this order.
use Rattle.std.proofs.Common.{◌∙◌}
use Rattle.tree.proofs.ResultLaws.{outcome_passed}
use Rattle.attributes.specs.Checks.{tests}
use Rattle.attributes.specs.ChecksLaws.{fails_first, passes_first}
use Rattle.attributes.proofs.checks.test_chmod.Goals as goal

pub returns-in_err-require : goal.returns-in_err-require
unfolding tests
returns-in_err-require c = rw (← c.kind_at.ensures, ← c.fits_mode.ensures) (outcome_passed _ c.from_residual.ensures.1 ∙ fails_first _ _ _ _ c.in_err-require.ensures)

pub returns : goal.returns
unfolding tests
returns c = rw (← c.kind_at.ensures, ← c.fits_mode.ensures, ← c.owns_at.ensures) (c.require-2.ensures ∙ passes_first _ _ _ _ c.in_ok-require.ensures)
