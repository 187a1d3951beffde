-- `nodes::paths::is_reserved` meets its contract: the text is compared with one and then the other.
use Rattle.std.proofs.Common.{sym, ◌∙◌}
use Rattle.syntax.specs.Pieces.{bytes}
use Rattle.nodes.specs.NodeChecks.{text_reserved}
use Rattle.nodes.proofs.paths.is_reserved.Goals as goal

pub returns-then-same : goal.returns-then-same
unfolding text_reserved bytes
returns-then-same c = rw (sym c.same.ensures ∙ c.if-same.true) c.if-same.true

pub returns-else-same : goal.returns-else-same
unfolding text_reserved bytes
returns-else-same c = rw (sym c.same.ensures ∙ c.if-same.false) c.same-else-same.ensures
