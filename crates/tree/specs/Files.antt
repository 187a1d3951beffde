-- The files below a directory, as a judge meets them.
use Rattle.std.specs.Prelude.{List, [], ◌∷◌, ◌++◌, cond}
use Rattle.syntax.specs.Path.{Path, ◌▹◌}
use Rattle.tree.specs.Forest.{Forest, nil, node}
use Rattle.tree.specs.Node.{is_directory}
use Rattle.tree.specs.Walk.{Judge}

-- the files below a directory in path order, through directories that may be read
unfoldable pub files_below : {A : Type 0} → Judge A → Path → Forest A → List Path
files_below j p nil = []
files_below j p (node n x cs rest) =
    cond (is_directory (j.kind x)) (cond (j.readable x) (files_below j (p ▹ n) cs) []) ((p ▹ n) ∷ []) ++ files_below j p rest
