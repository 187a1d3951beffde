-- Names, paths and entry paths, and their texts.
--
-- A path has its last name outermost, so that a path's parent and last name are its parts. An entry path is kept without its
-- leading `rep`, and so has at least one name.
use Rattle.std.specs.Prelude.{List, [], ◌∷◌, ◌++◌, Bool, true, false, ◌&&◌, ◌||◌, not, cond, ℕ, suc, eqb, leb, length}
use Rattle.std.proofs.Math.Option.{Option, none, some}
use Rattle.buffers.specs.Text.{Text, same_text, every}
use Rattle.syntax.specs.Pieces.{bytes, pieces}
use Rattle.syntax.specs.Form.{◌>>=◌, ◌>>◌, check}

abbrev pub Name : Type 0
Name = Text

-- `/`, or a path with one name more
infixl 60 ◌▹◌
pub data Path : Type 0 where
  root : Path
  ◌▹◌ : Path → Name → Path

pub record EntryPath : Type 0 where
  pub folder : Path
  pub name : Name

unfoldable pub parent : Path → Path
parent root = root
parent (p ▹ n) = p

unfoldable pub last : Path → Name
last root = []
last (p ▹ n) = n

unfoldable pub depth : Path → ℕ
depth root = 0
depth (p ▹ n) = suc (depth p)

unfoldable pub is_top : Path → Bool
is_top root = true
is_top (p ▹ n) = false

unfoldable pub same_path : Path → Path → Bool
same_path root root = true
same_path root (q ▹ m) = false
same_path (p ▹ n) root = false
same_path (p ▹ n) (q ▹ m) = same_text n m && same_path p q

-- whether b is a or lies below a
unfoldable pub within : Path → Path → Bool
within a root = same_path a root
within a (b ▹ n) = same_path a (b ▹ n) || within a b

-- whether b lies below a
unfoldable pub lies_below : Path → Path → Bool
lies_below a b = within a b && not (same_path a b)

-- where p leads after a was moved to b: b and what p has after a, or p if it is not within a
unfoldable pub carried : Path → Path → Path → Path
carried a b root = cond (same_path a root) b root
carried a b (p ▹ n) = cond (same_path a (p ▹ n)) b (carried a b p ▹ n)

-- the directory of the repository
unfoldable pub rep : Name
rep = bytes "rep"

-- a path below `/rep`, from `/`
unfoldable pub in_rep : Path → Path
in_rep root = root ▹ rep
in_rep (p ▹ n) = in_rep p ▹ n

-- the path of an entry below `/rep`, and from `/`
unfoldable pub below_rep : EntryPath → Path
below_rep e = e.folder ▹ e.name

unfoldable pub entry_location : EntryPath → Path
entry_location e = in_rep e.folder ▹ e.name

unfoldable pub reserved : Path → Bool
reserved root = true
reserved (root ▹ n) = same_text n rep
reserved (p ▹ m ▹ n) = false

-- a name is 1 to 8 bytes of a-z, 0-9, `_`
unfoldable pub name_byte : ℕ → Bool
name_byte b = (leb 97 b && leb b 122) || ((leb 48 b && leb b 57) || eqb b 95)

unfoldable pub is_name : Text → Bool
is_name t = every name_byte t && (leb 1 (length t) && leb (length t) 8)

unfoldable pub most_names : ℕ
most_names = 6

unfoldable pub has_names : Path → Bool
has_names root = true
has_names (p ▹ n) = has_names p && is_name n

-- a path is `/`, or 1 to 6 names; an entry path has one to five after its `rep`
unfoldable pub is_path : Path → Bool
is_path p = has_names p && leb (depth p) most_names

unfoldable pub is_entry_path : EntryPath → Bool
is_entry_path e = is_path (entry_location e)

unfoldable pub extended : Path → List Name → Path
extended p [] = p
extended p (n ∷ ns) = extended (p ▹ n) ns

-- 1 to 6 names
abbrev pub some_names : List Text → Option Path
some_names ns = do
  check (every is_name ns && (leb 1 (length ns) && leb (length ns) most_names))
  some (extended root ns)

-- 1 to 6 names each after a `/`: the pieces at `/` are nothing and then the names
unfoldable pub names_from_top : List Text → Option Path
names_from_top [] = none
names_from_top ((b ∷ t) ∷ ns) = none
names_from_top ([] ∷ ns) = some_names ns

unfoldable pub path : Text → Option Path
path t = cond (same_text t (bytes "/")) (some root) (names_from_top (pieces 47 t))

-- a path as it is typed: from `/`, or one to six names that follow the working directory
pub data TypedPath : Type 0 where
  whole short : Path → TypedPath

unfoldable pub begins_with_slash : Text → Bool
begins_with_slash [] = false
begins_with_slash (b ∷ t) = eqb b 47

unfoldable pub typed_path : Text → Option TypedPath
typed_path t = cond (begins_with_slash t) (path t >>= λ p. some (whole p)) (some_names (pieces 47 t) >>= λ p. some (short p))

-- the path p behind the path q
unfoldable pub follows : Path → Path → Path
follows q root = q
follows q (p ▹ n) = follows q p ▹ n

-- its names are those of a path
unfoldable pub is_typed_path : TypedPath → Bool
is_typed_path (whole p) = is_path p
is_typed_path (short p) = is_path p

-- an entry path has at least two names, the first `rep`
unfoldable pub without_rep : Path → Option Path
without_rep root = none
without_rep (root ▹ n) = do
  check (same_text n rep)
  some root
without_rep (p ▹ m ▹ n) = do
  q ← without_rep (p ▹ m)
  some (q ▹ n)

unfoldable pub entry_at : Path → Option EntryPath
entry_at root = none
entry_at (p ▹ n) = do
  folder ← without_rep p
  some (record { folder = folder; name = n })

unfoldable pub entry_path : Text → Option EntryPath
entry_path t = do
  p ← path t
  entry_at p

-- the text of a path
unfoldable pub names_text : Path → Text
names_text root = []
names_text (p ▹ n) = names_text p ++ (47 ∷ n)

unfoldable pub path_text : Path → Text
path_text root = bytes "/"
path_text (p ▹ n) = names_text (p ▹ n)

unfoldable pub entry_text : EntryPath → Text
entry_text e = path_text (entry_location e)

-- six names, the first of which is `rep`
abbrev pub longest_entry_text : ℕ
longest_entry_text = 49
