-- What the commands on entries come to on the store's tree, for the person's account and the session's: the machine's steps with those two
-- accounts in place of the session. Then where the code finds their nodes among the rows.
use Rattle.std.specs.Prelude.{◌≡◌, List, Bool, false, not, ℕ, suc, eqb, Ok, Err, None}
use Rattle.std.specs.Prelude as code
use Rattle.std.proofs.Math.Option.{none, some}
use Rattle.accounts.specs.declared.Account.{Account}
use Rattle.accounts.specs.declared.Right.{Right}
use Rattle.accounts.specs.declared.Right.TheVariants.{R, W}
use Rattle.syntax.specs.Path.{Path, EntryPath, parent, in_rep, entry_location}
use Rattle.tree.specs.declared.Cause.{Cause}
use Rattle.tree.specs.declared.Cause.TheVariants.{Access, WrongKind, NotEmpty, Stale, Untagged, RevisionsSpent}
use Rattle.tree.specs.Result.{Result, done, ◌>>=◌, ◌>>◌, require, present, outcome, Outcome}
use Rattle.tree.specs.Forest.{Place, is_empty, update, alter, drop}
use Rattle.tree.specs.Node.{is_directory, Tag, Node, allows, set_tag, set_content}
use Rattle.tree.specs.Walk.{by_modes, walk}
use Rattle.tree.specs.WellFormed.{last_revision}
use Rattle.tree.specs.RowPlaces.{index_of}
use Rattle.tree.specs.Encoding.{encode_tree}
use Rattle.tree.specs.TreeBytes.{At}
use Rattle.tree.specs.declared.Refusal.TheVariants.{For}
use Rattle.shell.specs.Replies.{Answer}
use Rattle.shell.specs.CommandBytes.{bytes_after}
use Rattle.machine.specs.Working.{tagged}
use Rattle.machine.specs.StoreMachine.{next_node}
pub use Rattle.entries.specs.declared.LinkRows.{LinkRows}

-- ---- the steps

-- directory 7; the right 5
unfoldable pub file_tests : Account → Right → Node → Result (Unit {0})
file_tests a right n = do
  require (not (is_directory n.kind)) WrongKind
  require (allows a right n) Access

-- the walk to a node that passes tests
unfoldable pub judged_walk : Account → (Node → Result (Unit {0})) → Place Node → Path → Result (Place Node)
judged_walk a tests t p = do
  d ← walk (by_modes a) t p
  tests d.here
  done d

-- the walk to a file
abbrev pub file_walk : Account → Right → Place Node → Path → Result (Place Node)
file_walk a right = judged_walk a (file_tests a right)

-- a working file at its path, its tag, and the entry that the tag leads to
pub record Link : Type 0 where
  pub path : Path
  pub found : Place Node
  pub tag : Tag
  pub filed : Place Node

-- the account's part of commit and up, for the working file found at w: no tag 15; then the walk to the entry
unfoldable pub link_on : Account → Place Node → Path → Place Node → Result Link
link_on account t w found = do
  tag ← present found.here.tag Untagged
  filed ← file_walk account R t (entry_location tag.path)
  done (record { path = w; found = found; tag = tag; filed = filed })

-- after the person's tests at the working file found at w, which ask for a right
unfoldable pub link_at : Account → Right → Account → Place Node → Path → Place Node → Result Link
link_at person right account t w found = do
  file_tests person right found.here
  link_on account t w found

-- and after the person's walk there
unfoldable pub link : Account → Right → Account → Place Node → Path → Result Link
link person right account t w = do
  found ← walk (by_modes person) t w
  link_at person right account t w found

-- w on the entry's parent 5; the tag's revision differs 14; revision is 9999 16
unfoldable pub commit_tests : Account → Node → ℕ → ℕ → Result (Unit {0})
commit_tests a above given v = do
  require (allows a W above) Access
  require (eqb given v) Stale
  require (not (eqb v last_revision)) RevisionsSpent

-- `commit` of the file found at w, up to its change
unfoldable pub commit_at : Account → Account → Place Node → Path → Place Node → Result Link
commit_at person account t w found = do
  l ← link_at person R account t w found
  above ← walk (by_modes account) t (in_rep l.tag.path.folder)
  commit_tests account above.here l.tag.revision l.filed.here.revision
  done l

-- not readable 5; w on the parent 5; not empty 8
unfoldable pub del_tests : Account → Node → Node → Bool → Result (Unit {0})
del_tests a n above empty = do
  require ((by_modes a).readable n) Access
  require (allows a W above) Access
  require empty NotEmpty

unfoldable pub del_walk : Account → Place Node → EntryPath → Result (Place Node)
del_walk a t e = do
  filed ← walk (by_modes a) t (entry_location e)
  above ← walk (by_modes a) t (in_rep e.folder)
  del_tests a filed.here above.here (is_empty filed.below)
  done filed

-- ---- the trees afterwards

-- the entry takes the working file's content and the next revision, and so does the tag
unfoldable pub after_commit : Place Node → Link → Place Node
after_commit t l =
    let e = l.tag.path in
    tagged l.path e (suc l.filed.here.revision) (update (entry_location e) (alter (next_node l.found.here.content)) t)

-- the working file takes the entry's content, and the tag its revision
unfoldable pub after_up : Place Node → Link → Place Node
after_up t l =
    let tag : Tag = record { path = l.tag.path; revision = l.filed.here.revision } in
    update l.path (alter (λ n. set_content l.filed.here.content (set_tag tag n))) t

-- the entry is taken out
unfoldable pub after_del : Place Node → EntryPath → Place Node
after_del t e = update (in_rep e.folder) (drop e.name) t

-- ---- the commands

-- steps that end in a change of the tree, and tell nothing
abbrev pub changing : {A : Type 0} → Result A → (A → Place Node) → Result (Outcome (Place Node))
changing steps after = steps >>= λ x. done (record { text = none; state = after x })

-- `commit` of the file found at w
abbrev pub commit_steps : Account → Account → Place Node → Path → Place Node → Result (Outcome (Place Node))
commit_steps person account t w found = changing (commit_at person account t w found) (after_commit t)

abbrev pub up_steps : Account → Account → Place Node → Path → Result (Outcome (Place Node))
up_steps person account t w = changing (link person W account t w) (after_up t)

abbrev pub del_steps : Account → Place Node → EntryPath → Result (Outcome (Place Node))
del_steps account t e = changing (del_walk account t e) (λ d. after_del t e)

-- ---- among the rows

-- the rows of a working file, of its entry, and of the directory above that
abbrev pub three_rows : ℕ → ℕ → ℕ → LinkRows
three_rows working entry above = record { working = working; entry = entry; above = above }

unfoldable pub link_rows : Place Node → Link → LinkRows
link_rows t l = let p = entry_location l.tag.path in three_rows (index_of t l.path) (index_of t p) (index_of t (parent p))

-- the rows of what steps come to
abbrev pub link_rows_from : Place Node → Result Link → Result LinkRows
link_rows_from t steps = steps >>= λ l. done (link_rows t l)

-- what is answered where tests pass
abbrev pub passing : {A : Type 0} → Result (Unit {0}) → A → Result A
passing tests x = tests >> done x

-- what a command answers for it
unfoldable pub links_answer : code.Result LinkRows Cause → Answer
links_answer (Ok rows) = Ok None
links_answer (Err cause) = Err (For cause)

-- the rows answered are those of the link that the steps of a commit come to, and the bytes those of the tree after them; refused, the bytes stay
pub record FiledAt (b : List ℕ) (t : Place Node) (steps : Result Link) (r : code.Result LinkRows Cause) (b' : List ℕ) : Type 0 where
  pub links : outcome r ≡ link_rows_from t steps
  pub bytes : b' ≡ bytes_after encode_tree b (changing steps (after_commit t))

-- in the bytes b of the tree t the rows are those of a working file and of the entry that its tag leads to, both files
pub record Linked (b : List ℕ) (t : Place Node) (l : Link) (working entry : ℕ) : Type 0 where
  pub file : At b t l.path working l.found
  pub tagged : l.found.here.tag ≡ some l.tag
  pub original : At b t (entry_location l.tag.path) entry l.filed
  pub plain : is_directory l.found.here.kind ≡ false
  pub original_plain : is_directory l.filed.here.kind ≡ false

-- the rows are linked, in whatever tree
abbrev pub SomeLink : List ℕ → ℕ → ℕ → Type 0
SomeLink b working entry = (t : Place Node) × (l : Link) × Linked b t l working entry
