-- What a file moved onto another leaves.
use Rattle.std.specs.Prelude.{◌≡◌, false, suc}
use Rattle.std.proofs.Math.Option.{none, some}
use Rattle.syntax.specs.Path.{Path, same_path}
use Rattle.tree.specs.Forest.{Place, place_at, Holds}
use Rattle.tree.specs.Node.{is_directory, Node}
use Rattle.tree.specs.WellFormed.{nodes}

-- The tree t' is t with the file d, which stood at a, in the place of the file g at b: d stands there as it was, its tag too,
-- nothing stands at a, every other node is as it was, and there is one node less.
pub record Replaced (t : Place Node) (a b : Path) (d g : Place Node) (t' : Place Node) : Type 0 where
  pub file : is_directory d.here.kind ≡ false
  pub onto_file : is_directory g.here.kind ≡ false
  pub stands : place_at t' b ≡ some d
  pub gone : place_at t' a ≡ none
  pub others : (p : Path) (n : Node) → same_path p a ≡ false → same_path p b ≡ false → Holds t p n → Holds t' p n
  pub fewer : suc (nodes t') ≡ nodes t
