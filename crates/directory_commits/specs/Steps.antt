-- One row of a directory's commit, and what `commit` finds at a path: on a tree's bytes and on a store's.
use Rattle.std.specs.Prelude.{◌≡◌, List, cond, ℕ, suc, ◌+◌, Ok, Err}
use Rattle.std.specs.Prelude as code
use Rattle.std.proofs.Math.Option.{some}
use Rattle.buffers.specs.Text.{Text}
use Rattle.accounts.specs.declared.Account.{Account}
use Rattle.syntax.specs.Path.{Path, path}
use Rattle.tree.specs.declared.Cause.{Cause}
use Rattle.tree.specs.declared.Cause.TheVariants.{Access}
use Rattle.tree.specs.Result.{Result, outcome, done, ◌>>=◌, ◌>>◌, require}
use Rattle.tree.specs.Forest.{Place, place_at, size}
use Rattle.tree.specs.Node.{Node, is_directory}
use Rattle.tree.specs.Walk.{by_modes, walk}
use Rattle.tree.specs.RowPlaces.{index_of}
use Rattle.shell.specs.CommandBytes.{bytes_after}
use Rattle.store.specs.State.{State}
use Rattle.stored_header.specs.Stored.{Stored, bytes_with}
use Rattle.entries.specs.declared.LinkRows.{LinkRows}
use Rattle.entries.specs.EntrySteps.{commit_at, commit_steps, link_rows_from, FiledAt}
use Rattle.directory_commits.specs.declared.Step.{Step}
use Rattle.directory_commits.specs.declared.Found.{Found}
use Rattle.directory_commits.specs.declared.Found.TheVariants.{File, Directory}

-- ---- one row

-- the row to go on at after that of a place: the next, past all below it where it may not be read
unfoldable pub row_after : Account → ℕ → Place Node → ℕ
row_after a i d = cond ((by_modes a).readable d.here) (suc i) (suc (i + size d.below))

-- that row, and what a single commit of the place d at p answers and leaves of the tree's bytes
pub record Stepped (person account : Account) (b : List ℕ) (t : Place Node) (p : Path) (i : ℕ) (d : Place Node) (r : Step) (b' : List ℕ) : Type 0 where
  pub next : r.next ≡ row_after person i d
  pub filed : FiledAt b t (commit_at person account t p d) r.filed b'

-- how many files were committed
unfoldable pub count_of : code.Result LinkRows Cause → ℕ
count_of (Ok rows) = 1
count_of (Err cause) = 0

-- ---- in a store

-- row i of the store s is that of the place d at p
pub record RowIn (b : List ℕ) (s : State) (p : Path) (i : ℕ) (d : Place Node) : Type 0 where
  pub stored : Stored b s
  pub there : place_at s.store.tree p ≡ some d
  pub row : i ≡ index_of s.store.tree p

-- the row of some place of a store
abbrev pub PlaceIn : List ℕ → ℕ → Type 0
PlaceIn b i = (s : State) × (p : Path) × (d : Place Node) × RowIn b s p i d

-- where the rows of the place end, whichever it is
abbrev pub EndsIn : List ℕ → ℕ → ℕ → Type 0
EndsIn b i r = (s : State) (p : Path) (d : Place Node) → RowIn b s p i d → r ≡ suc (i + size d.below)

-- the bytes of the store with another tree
abbrev pub with_tree : State → Place Node → List ℕ
with_tree s t = bytes_with s.setup (record { tree = t; registry = s.store.registry })

-- the row to go on at, the rows that a single commit of d links, and the store's bytes after it
pub record StepIn (person account : Account) (b : List ℕ) (s : State) (p : Path) (i : ℕ) (d : Place Node) (r : Step) (b' : List ℕ) : Type 0 where
  pub next : r.next ≡ row_after person i d
  pub links : outcome r.filed ≡ link_rows_from s.store.tree (commit_at person account s.store.tree p d)
  pub bytes : b' ≡ bytes_after (with_tree s) b (commit_steps person account s.store.tree p d)

-- whichever place the row is
abbrev pub SteppedIn : Account → Account → List ℕ → ℕ → Step → List ℕ → Type 0
SteppedIn person account b i r b' = (s : State) (p : Path) (d : Place Node) → RowIn b s p i d → StepIn person account b s p i d r b'

-- ---- what is found at a path

-- the person's walk; a directory that is not readable 5
unfoldable pub found_steps : Account → Place Node → Path → Result Found
found_steps person t w = do
  d ← walk (by_modes person) t w
  let i = index_of t w
  cond (is_directory d.here.kind) (require ((by_modes person).readable d.here) Access >> done (Directory i)) (done (File i))

-- whichever store's bytes these are, and whatever path the text reads as
abbrev pub Finds : List ℕ → Account → Text → code.Result Found Cause → Type 0
Finds b person text r = (s : State) (w : Path) → Stored b s → path text ≡ some w → outcome r ≡ found_steps person s.store.tree w
