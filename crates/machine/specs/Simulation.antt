-- When a store holds what the abstract machine holds, and when both give the same.
use Rattle.std.specs.Prelude.{◌≡◌}
use Rattle.std.proofs.Math.Option.{some}
use Rattle.syntax.specs.Path.{rep}
use Rattle.tree.specs.Result.{Outcome}
use Rattle.tree.specs.Forest.{get, leaf}
use Rattle.store.specs.State.{Store}
use Rattle.store.specs.Initial.{top_node, rep_node}
use Rattle.machine.specs.AbstractMachine.{Abstract}
use Rattle.machine.specs.Embedding.{embed}

-- what no command of a person changes
pub record Kept (h : Abstract) : Type 0 where
  pub top : h.workspace.here ≡ top_node
  pub there : get rep h.workspace.below ≡ some (leaf rep_node)

-- a store that holds what the abstract machine holds
pub record Tie (s : Store) (h : Abstract) : Type 0 where
  pub same : s ≡ embed h
  pub kept : Kept h

-- outcomes with one text, and states so tied
pub record Tied (a : Outcome Store) (b : Outcome Abstract) : Type 0 where
  pub text : a.text ≡ b.text
  pub state : Tie a.state b.state
