-- `attributes::checks::require` meets its contract: the test decides.
use Rattle.attributes.specs.ChecksLaws.{passes, fails}
use Rattle.attributes.proofs.checks.require.Goals as goal

pub returns-then-passes : goal.returns-then-passes
returns-then-passes c = passes c.args.cause c.if-passes.true

pub returns-else-passes : goal.returns-else-passes
returns-else-passes c = fails c.args.cause c.if-passes.false
