-- The copies of an entry put in at a site: the steps, what is known when the copies are made, and what is said of them.
use Rattle.std.specs.Prelude as code
use Rattle.std.specs.Prelude.{◌≡◌, List, ℕ, suc, ◌+◌, ◌≤◌, leb, Ok, Err}
use Rattle.std.proofs.Math.Option.{none, some}
use Rattle.std.proofs.Math.ListN as L
use Rattle.buffers.specs.Text.{Text}
use Rattle.buffers.specs.Fields.{all_bytes}
use Rattle.buffers.specs.Over.{over}
use Rattle.accounts.specs.declared.Caller.{Caller}
use Rattle.syntax.specs.Path.{Path, EntryPath, parent, last, depth, path, entry_path, entry_location, most_names}
use Rattle.tree.specs.declared.Cause.{Cause}
use Rattle.tree.specs.declared.Cause.TheVariants.{Full, TooDeep}
use Rattle.tree.specs.Result.{Result, refused, done, ◌>>◌, require, Outcome}
use Rattle.tree.specs.Layout.{row_start}
use Rattle.tree.specs.Forest.{Place, update, put, size, height}
use Rattle.tree.specs.Node.{Node}
use Rattle.tree.specs.RowPlaces.{place_rows}
use Rattle.tree.specs.Encoding.{row_bytes, encode_tree}
use Rattle.tree.specs.TreeBytes.{Insertable, At}
use Rattle.edits.specs.Changes.{rows_put}
use Rattle.gaps.specs.GapsLaws.{Standing}
use Rattle.copying.specs.declared.Copier.{Copier}
use Rattle.copying.specs.Copying.{copy}
use Rattle.copying.specs.CopyRows.{read_by}
use Rattle.shell.specs.Replies.{Answer}
use Rattle.shell.specs.Steps.{fit}
use Rattle.shell.specs.CommandBytes.{FollowsSilently}
use Rattle.placing.specs.declared.Site.{Site}

-- ---- the steps

-- copies judged and put in at d: one too deep 19, too many 10
unfoldable pub place_copies : Caller → Place Node → Path → Place Node → Result (Outcome (Place Node))
place_copies c t d copies = do
  require (leb (depth d + height copies.below) most_names) TooDeep
  require (fit c 0 t (suc (size copies.below))) Full
  done (record { text = none; state = update (parent d) (put (last d) copies) t })

-- ---- the copies

-- a checkout whose first checks have passed: there is room for the copies, and the account came to the entry
pub record Checkout (w : Copier) (b : List ℕ) (entry to : Text) (s : Site) : Type 0 where
  pub top : Place Node
  pub source : EntryPath
  pub target : Path
  pub place : Place Node
  pub reads_entry : entry_path entry ≡ some source
  pub reads : path to ≡ some target
  pub stands : Standing b top target w.caller.account s.row s.at s.depth
  pub found : At b top (entry_location source) s.filed place

-- its copies
unfoldable pub checkout_copies : {w : Copier} {b : List ℕ} {entry to : Text} {s : Site} → Checkout w b entry to s → Place Node
checkout_copies {w} j = copy w.caller (read_by w) j.stands.directory.here j.source j.place

-- the buffer o with their rows written over it behind its first two bytes
unfoldable pub copies_over : {w : Copier} {b : List ℕ} {entry to : Text} {s : Site} → Checkout w b entry to s → List ℕ → List ℕ
copies_over {s = s} j o = over 2 (all_bytes row_bytes (place_rows s.depth (last j.target) (checkout_copies j))) o

-- and the steps that are left
abbrev pub steps_left : {w : Copier} {b : List ℕ} {entry to : Text} {s : Site} → Checkout w b entry to s → Result (Outcome (Place Node))
steps_left {w} j = place_copies w.caller j.top j.target (checkout_copies j)

-- an answer and a tree's bytes that are those of the steps that are left of whatever checkout this is
abbrev pub CheckedOut : Copier → List ℕ → Text → Text → Site → Answer → List ℕ → Type 0
CheckedOut w b entry to s r b' = (j : Checkout w b entry to s) → FollowsSilently (steps_left j) b r b'

-- a buffer's bytes before and after that are those with the copies of whatever checkout this is
abbrev pub CopiesLaid : Copier → List ℕ → Text → Text → Site → List ℕ → List ℕ → Type 0
CopiesLaid w b entry to s o z = (j : Checkout w b entry to s) → z ≡ copies_over j o

-- n rows in z behind its first two bytes that, put in at the index, make of the bytes b the tree that the steps come to
pub record ReadyFor (steps : Result (Outcome (Place Node))) (b z : List ℕ) (at n : ℕ) : Type 0 where
  pub insertable : Insertable b at n
  pub room : row_start n ≤ L.length z
  pub tree : Place Node
  pub come : steps ≡ done (record { text = none; state = tree })
  pub make : rows_put b at n (L.drop 2 z) ≡ encode_tree tree

-- copies answered as ready are such rows, and a refusal is that of the steps
unfoldable pub Prepared : Result (Outcome (Place Node)) → List ℕ → List ℕ → ℕ → code.Result ℕ Cause → Type 0
Prepared steps b z at (Ok n) = ReadyFor steps b z at n
Prepared steps b z at (Err why) = steps ≡ refused why
