-- How a state of the abstract machine stands in the store: its entries, as nodes with the role's owner and group, below `/rep`
-- in the people's tree.
use Rattle.tree.specs.Forest.{Forest, Place, rooted}
use Rattle.tree.specs.Node.{Node}
use Rattle.tree.specs.Graft.{graft}
use Rattle.store.specs.State.{Store}
use Rattle.store.specs.Initial.{rep_node}
use Rattle.machine.specs.StoreMachine.{entry_node}
use Rattle.machine.specs.AbstractMachine.{Entry, Abstract, Filed, top, an_entry}

-- an entry of role r has owner and group 16+r, mode 0440 or 0770 by kind, and no tag
unfoldable pub in_store : Entry → Node
in_store x = entry_node x.kind x.role x.revision x.content

-- `/rep` with the entries below it
unfoldable pub stored : Forest Entry → Place Node
stored f = rooted in_store rep_node f

-- the node of what a walk from `/rep` meets
unfoldable pub met : Filed → Node
met top = rep_node
met (an_entry x) = in_store x

unfoldable pub embed : Abstract → Store
embed h = record { tree = graft (stored h.entries) h.workspace; registry = h.registry }
