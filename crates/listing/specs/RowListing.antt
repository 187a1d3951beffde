-- The listing by the rows of a tree: the names of a row's path are those last seen at each depth up to its own.
use Rattle.std.specs.Prelude.{◌≡◌, List, [], ◌∷◌, ◌++◌, cond, ℕ, zero, suc, ◌+◌, ◌≤◌, ◌<◌, eqb, length, get_or, set, take, replicate}
use Rattle.buffers.specs.Text.{Text}
use Rattle.buffers.specs.Over.{Wrote}
use Rattle.syntax.specs.Pieces.{bytes, comma}
use Rattle.syntax.specs.Number.{decimal_text, mode_text}
use Rattle.syntax.specs.Path.{Name, Path, root, ◌▹◌}
use Rattle.tree.specs.Node.{Node}
use Rattle.tree.specs.Rows.{Row}
use Rattle.tree.specs.RowAt.{row_at, all_rows, tag_text_at, tag_number_at}
use Rattle.tree.specs.TreeBytes.{HasRow}
use Rattle.listing.specs.Listing.{kind_text, node_line}

-- ---- paths

-- the name last seen at each depth
abbrev pub NamesSeen : Type 0
NamesSeen = ℕ → Name

-- before the first row there is none
abbrev pub none_seen : NamesSeen
none_seen k = []

-- once a row more is seen
unfoldable pub row_seen : NamesSeen → Row Node → NamesSeen
row_seen m r k = cond (eqb k r.depth) r.name (m k)

-- once all of some rows are
unfoldable pub rows_seen : NamesSeen → List (Row Node) → NamesSeen
rows_seen m [] = m
rows_seen m (r ∷ rs) = rows_seen (row_seen m r) rs

-- the path of the names last seen at depths 1 to k
unfoldable pub path_seen : NamesSeen → ℕ → Path
path_seen m zero = root
path_seen m (suc k) = path_seen m k ▹ m (suc k)

-- ---- lines

-- the lines of rows behind others
unfoldable pub lines_behind : NamesSeen → List (Row Node) → List Text
lines_behind m [] = []
lines_behind m (r ∷ rs) = node_line (path_seen (row_seen m r) r.depth) r.here ∷ lines_behind (row_seen m r) rs

-- the lines of all rows
unfoldable pub lines_in : List (Row Node) → List Text
lines_in rs = lines_behind none_seen rs

-- ---- in a tree's bytes

-- the names last seen among the first so many rows
unfoldable pub names_among : List ℕ → ℕ → NamesSeen
names_among b n = rows_seen none_seen (take n (all_rows b))

-- the path of the row at an index
unfoldable pub row_path : List ℕ → ℕ → Path
row_path b i = path_seen (names_among b (suc i)) (row_at b i).depth

-- a row for each depth up to 6
pub record ToldRows (b last : List ℕ) : Type 0 where
  pub size : length last ≡ 7
  pub there : (k : ℕ) → k < 7 → HasRow b (get_or last k 0)

-- their names
abbrev pub names_told : List ℕ → List ℕ → NamesSeen
names_told b last k = (row_at b (get_or last k 0)).name

-- the row last seen at each depth up to 6 among the first n; that of `/` where there is none
unfoldable pub last_among : List ℕ → ℕ → List ℕ
last_among b zero = replicate 7 0
last_among b (suc i) = set (last_among b i) (row_at b i).depth i

-- rows whose names are those last seen among the first n
pub record LastRows (b : List ℕ) (n : ℕ) (last : List ℕ) : Type 0 where
  pub told : ToldRows b last
  pub same : (k : ℕ) → k < 7 → names_told b last k ≡ names_among b n k

-- ---- written

-- a text of at most so many bytes written over a buffer from a place on, and where it ends
pub record WroteMost (most : ℕ) (t : Text) (b : List ℕ) (at : ℕ) (c : List ℕ) (r : ℕ) : Type 0 where
  pub wrote : Wrote t b at c r
  pub short : r ≤ at + most

-- a tag's path, or `-` where its text is empty
unfoldable pub or_dash : Text → Text
or_dash [] = bytes "-"
or_dash (c ∷ t) = c ∷ t

-- the owner and the group of a row, each behind a comma
unfoldable pub owner_fields : List ℕ → ℕ → Text
owner_fields b i = (comma ∷ decimal_text (row_at b i).here.owner.0) ++ (comma ∷ decimal_text (row_at b i).here.group.0)

-- its mode and its revision
unfoldable pub number_fields : List ℕ → ℕ → Text
number_fields b i = (comma ∷ mode_text (row_at b i).here.mode) ++ (comma ∷ decimal_text (row_at b i).here.revision)

-- the path and the revision of its tag
unfoldable pub tag_fields_at : List ℕ → ℕ → Text
tag_fields_at b i = (comma ∷ or_dash (tag_text_at b i)) ++ (comma ∷ decimal_text (tag_number_at b i))

-- all that stands behind its path
unfoldable pub fields_at : List ℕ → ℕ → Text
fields_at b i =
    ((((comma ∷ kind_text (row_at b i).here.kind) ++ owner_fields b i) ++ number_fields b i) ++ tag_fields_at b i) ++ (comma ∷ (row_at b i).here.content)
