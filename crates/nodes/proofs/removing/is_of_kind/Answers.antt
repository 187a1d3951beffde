-- `nodes::removing::is_of_kind` meets its contract: the two kinds are compared.
use Rattle.std.proofs.Common.{ap, ◌∙◌}
use Rattle.tree.specs.Node.{same_kind}
use Rattle.tree.proofs.NodeLaws.{kinds_compared}
use Rattle.nodes.proofs.removing.is_of_kind.Goals as goal

pub returns : goal.returns
returns c = c.eq.ensures ∙ kinds_compared c.kind_at.result c.args.kind ∙ ap (λ k. same_kind k c.args.kind) c.kind_at.ensures
