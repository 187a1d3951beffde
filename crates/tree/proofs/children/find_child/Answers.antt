-- `tree::children::find_child` meets its contract: the child is that of the search.
use mathlib.Core.Path.{ap}
use Rattle.tree.specs.declared.Search.{Search}
use Rattle.tree.specs.Search.{search_in}
use Rattle.tree.proofs.children.find_child.Goals as goal

pub returns : goal.returns
unfolding search_in
returns c = ap (λ (x : Search). x.child) c.search_child.ensures
