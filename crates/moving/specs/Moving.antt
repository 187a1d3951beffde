-- A place moved: what holds before, and what the tree and the bytes are then and on the way.
use Rattle.std.specs.Prelude.{◌≡◌, List, ◌++◌, false, ℕ, suc, ◌+◌, ◌*◌, ◌≤◌}
use Rattle.std.proofs.Math.Option.{some}
use Rattle.std.proofs.Math.ListN as L
use Rattle.buffers.specs.Text.{Text}
use Rattle.buffers.specs.Fields.{all_bytes}
use Rattle.accounts.specs.declared.Account.{Account}
use Rattle.syntax.specs.Path.{Path, parent, last, depth, is_top, within, most_names}
use Rattle.syntax.specs.Path as paths
use Rattle.tree.specs.Layout.{row_width}
use Rattle.tree.specs.Result.{done}
use Rattle.tree.specs.Forest.{Place, update, put, drop, size, height}
use Rattle.tree.specs.Node.{Node}
use Rattle.tree.specs.Walk.{by_modes, room}
use Rattle.tree.specs.RowPlaces.{place_rows}
use Rattle.tree.specs.Encoding.{row_bytes}
use Rattle.tree.specs.TreeBytes.{Encodes, At}
use Rattle.edits.specs.Changes.{rows_put}
use Rattle.gaps.specs.Gaps.{gap_of}
use Rattle.moving.specs.Relabel.{relabelled}

-- the account that passes every test
abbrev pub superuser : Account
superuser = record { uid = record { 0 = 0 }; groups = record { 0 = 0 } }

-- the bytes of a tree, and the text of a path where root finds room for a new child
pub record Vacant (b : List ℕ) (to : Text) : Type 0 where
  pub tree : Place Node
  pub path : Path
  pub directory : Place Node
  pub encoded : Encodes b tree
  pub reads : paths.path to ≡ some path
  pub found : room (by_modes superuser) tree path ≡ done directory

module _ {b : List ℕ} {to : Text} (v : Vacant b to) where
  -- n rows that begin with that of a place, with the name and the depth of the path
  unfoldable pub relabelled_for : ℕ → List ℕ → List ℕ
  relabelled_for n rows = relabelled n (depth v.path) (last v.path) rows

  -- the bytes with n rows put in there
  unfoldable pub filled : ℕ → List ℕ → List ℕ
  filled n rows = rows_put b (gap_of v.tree v.path v.directory).at n rows

-- and in the tree a place below `/`, with its row, that may be moved there: not into itself, and nothing below it comes too deep
pub record Movable (b : List ℕ) (at : ℕ) (to : Text) : Type 0 where
  pub vacant : Vacant b to
  pub from : Path
  pub place : Place Node
  pub stands : At b vacant.tree from at place
  pub from_below_top : is_top from ≡ false
  pub outside : within from vacant.path ≡ false
  pub low : depth vacant.path + height place.below ≤ most_names

module _ {b : List ℕ} {at : ℕ} {to : Text} (m : Movable b at to) where
  -- the tree without the place
  unfoldable pub remaining : Place Node
  remaining = update (parent m.from) (drop (last m.from)) m.vacant.tree

  -- the tree with the place moved
  unfoldable pub moved : Place Node
  moved = let p = m.vacant.path in update (parent p) (put (last p) m.place) remaining

  -- the bytes of the rows of the place where it is to stand
  unfoldable pub moved_rows : List ℕ
  moved_rows = let p = m.vacant.path in all_bytes row_bytes (place_rows (depth p) (last p) m.place)

  -- the bytes of a buffer that has held the rows of the place: its rows as they were put in, then what stood there
  unfoldable pub buffer_after : List ℕ → List ℕ
  buffer_after held = moved_rows ++ L.drop (row_width * suc (size m.place.below)) held
