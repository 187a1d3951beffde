-- `walks::access::readable_at` meets its contract: r at the row, and x too at a directory's.
use Rattle.std.proofs.Common.{sym, ◌∙◌}
use Rattle.tree.specs.Node.{is_directory}
use Rattle.tree.specs.Walk.{by_modes}
use Rattle.walks.proofs.access.readable_at.Goals as goal

pub returns-in-File : goal.returns-in-File
unfolding by_modes is_directory
returns-in-File c = rw (sym c.may_at.ensures ∙ c.if-may_at.true, ← c.in-File.ensures)

pub returns-in-Directory : goal.returns-in-Directory
unfolding by_modes is_directory
returns-in-Directory c = rw (sym c.may_at.ensures ∙ c.if-may_at.true, ← c.in-Directory.ensures) c.may_at-in-Directory.ensures

pub returns-else-may_at : goal.returns-else-may_at
unfolding by_modes
returns-else-may_at c = rw (sym c.may_at.ensures ∙ c.if-may_at.false) c.if-may_at.false
