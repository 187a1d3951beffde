-- What it is that bytes are a tree's: as many as a tree has, with a number of rows, with a row in use; the bytes of a well-formed
-- tree; the row of a place in them; and room for a row, in whatever bytes. What the code asks for is said in these words;
-- larger requirements include these records instead of listing their fields again.
use Rattle.std.specs.Prelude.{◌≡◌, List, true, ℕ, ◌+◌, ◌≤◌, ◌<◌, length}
use Rattle.std.proofs.Math.Option.{some}
use Rattle.buffers.specs.Text.{Text}
use Rattle.syntax.specs.Path.{Path, EntryPath, path, entry_path}
use Rattle.tree.specs.Layout.{row_width, most_rows, tree_width, row_start}
use Rattle.tree.specs.Forest.{Place, place_at}
use Rattle.tree.specs.Node.{Node}
use Rattle.tree.specs.WellFormed.{is_tree}
use Rattle.tree.specs.RowPlaces.{index_of}
use Rattle.tree.specs.Encoding.{encode_tree}
use Rattle.tree.specs.RowAt.{row_count}

-- as many bytes as a tree has
abbrev pub Wide : List ℕ → Type 0
Wide b = length b ≡ tree_width

-- room for a row at the index, which is all that its fields ask for: the bytes may be a tree's, or a buffer's for a few rows
pub record HasRow (b : List ℕ) (i : ℕ) : Type 0 where
  pub room : row_start i + row_width ≤ length b

-- with a number of rows: there is one at least, and room for all
pub record Sized (b : List ℕ) : Type 0 where
  pub wide : Wide b
  pub some_rows : 0 < row_count b
  pub few_rows : row_count b ≤ most_rows

-- the row at the index is one of them
pub record Used (b : List ℕ) (i : ℕ) : Type 0 where
  pub sized : Sized b
  pub used : i < row_count b

-- n rows may be put in before the row at the index
pub record Insertable (b : List ℕ) (i n : ℕ) : Type 0 where
  pub wide : Wide b
  pub inside : i ≤ row_count b
  pub room : row_count b + n ≤ most_rows

-- the n rows from the index on are among them
pub record Stretch (b : List ℕ) (i n : ℕ) : Type 0 where
  pub wide : Wide b
  pub few_rows : row_count b ≤ most_rows
  pub inside : i + n ≤ row_count b

-- the bytes of the well-formed tree t
pub record Encodes (b : List ℕ) (t : Place Node) : Type 0 where
  pub sized : Sized b
  pub whole : is_tree t ≡ true
  pub bytes : b ≡ encode_tree t

-- the bytes of some well-formed tree
abbrev pub Whole : List ℕ → Type 0
Whole b = (t : Place Node) × Encodes b t

-- a text that reads as a path
abbrev pub PathText : Text → Type 0
PathText s = (p : Path) × (path s ≡ some p)

-- for whatever tree the bytes are, and whatever path the text reads as
abbrev pub Whichever : List ℕ → Text → (Place Node → Path → Type 0) → Type 0
Whichever b s P = (t : Place Node) (p : Path) → Encodes b t → path s ≡ some p → P t p

-- and whatever entry path
abbrev pub WhicheverEntry : List ℕ → Text → (Place Node → EntryPath → Type 0) → Type 0
WhicheverEntry b s P = (t : Place Node) (e : EntryPath) → Encodes b t → entry_path s ≡ some e → P t e

-- in which row i is that of the place d at the path p
pub record At (b : List ℕ) (t : Place Node) (p : Path) (i : ℕ) (d : Place Node) : Type 0 where
  pub tree : Encodes b t
  pub there : place_at t p ≡ some d
  pub row : i ≡ index_of t p

-- a row of some place of a tree
abbrev pub SomePlace : List ℕ → ℕ → Type 0
SomePlace b i = (t : Place Node) × (q : Path) × (d : Place Node) × At b t q i d

-- for whatever place the row is
abbrev pub WhicheverPlace : List ℕ → ℕ → (Place Node → Path → Place Node → Type 0) → Type 0
WhicheverPlace b i P = (t : Place Node) (p : Path) (d : Place Node) → At b t p i d → P t p d

-- a text that reads as an entry path
abbrev pub EntryPathText : Text → Type 0
EntryPathText s = (e : EntryPath) × (entry_path s ≡ some e)
