-- The checks of `mv` in the steps' order, apart from the change that it then makes, and what the code answers of them.
use Rattle.std.proofs.Math.Option.{Option, none, some}
use Rattle.std.specs.Prelude.{Bool, ◌||◌, not, cond, ℕ, ◌+◌, leb}
use Rattle.accounts.specs.declared.Account.{Account}
use Rattle.accounts.specs.declared.Right.TheVariants.{W}
use Rattle.syntax.specs.Path.{Path, parent, last, depth, same_path, lies_below, reserved, most_names}
use Rattle.tree.specs.declared.Kind.{Kind}
use Rattle.tree.specs.declared.Cause.TheVariants.{Access, Exists, WrongKind, Reserved, IntoItself, TooDeep}
use Rattle.tree.specs.Result.{Result, done, ◌>>=◌, ◌>>◌, require}
use Rattle.tree.specs.Forest.{Place, height}
use Rattle.tree.specs.Node.{is_directory, Node, allows}
use Rattle.tree.specs.Walk.{by_modes, sought, walk, parent_walk}
use Rattle.tree.specs.RowPlaces.{index_of}
use Rattle.shell.specs.Steps.{may_replace}
use Rattle.nodes.specs.declared.Move.{Move}
use Rattle.nodes.specs.declared.Move.TheVariants.{Into, Onto, Itself}

-- the place that is moved, and what stands where it goes
unfoldable pub may_move : Account → Place Node → Path → Path → Result (Place Node × Option (Place Node))
may_move a t p q = do
  require (not (reserved p || reserved q)) Reserved
  d ← walk (by_modes a) t p
  f ← parent_walk (by_modes a) t q
  there ← sought (last q) f.below
  may_replace d.here.kind there
  e ← walk (by_modes a) t (parent p)
  require (allows a W e.here) Access
  require (allows a W f.here) Access
  require (not (lies_below p q)) IntoItself
  require (leb (depth q + height d.below) most_names) TooDeep
  done (d, there)

-- ---- what the code answers

-- how a move from p to q is told, by what stands at q
unfoldable pub move_to : Place Node → Path → Path → Option (Place Node) → Move
move_to t p q none = Into (index_of t p)
move_to t p q (some g) = cond (same_path p q) Itself (Onto (index_of t p) (index_of t q))

-- the answer to the checks of `mv`
abbrev pub move_from : Place Node → Path → Path → Result (Place Node × Option (Place Node)) → Result Move
move_from t p q w = w >>= λ m. done (move_to t p q m.1)

-- ---- what the code judges at rows, once it has found what stands where a row goes; w on both directories is told

-- onto the node of another row; whether both paths are one is told
unfoldable pub row_onto : Kind → Kind → Bool → Bool → ℕ → ℕ → Result Move
row_onto kind there writable same row target = do
  require (not (is_directory there)) Exists
  require (not (is_directory kind)) WrongKind
  require writable Access
  done (cond same Itself (Onto row target))

-- to where nothing stands; whether that lies within what is moved is told, and how deep this would reach
unfoldable pub row_into : Bool → Bool → ℕ → ℕ → Result Move
row_into writable inside deep row = do
  require writable Access
  require (not inside) IntoItself
  require (leb deep most_names) TooDeep
  done (Into row)
