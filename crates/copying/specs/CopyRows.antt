-- The rows of copies: where the place that is copied stands among rows, which rows its copies are, and what the code asks for and
-- leaves. Only the entry as a whole is found by its path in the tree; all below it is found by its rows.
use Rattle.std.specs.Prelude.{◌≡◌, List, ◌++◌, Bool, true, false, ℕ, zero, suc, ◌+◌, ◌-◌, ◌*◌, ◌≤◌, ◌<◌, eqb, length, drop}
use Rattle.std.proofs.Math.Seq.{paste}
use Rattle.buffers.specs.Text.{every}
use Rattle.buffers.specs.Fields.{all_bytes}
use Rattle.accounts.specs.declared.Uid.{Uid}
use Rattle.accounts.specs.declared.Gid.{Gid}
use Rattle.syntax.specs.Number.{set_gid}
use Rattle.syntax.specs.Path.{Name, Path, EntryPath, depth, entry_location, is_entry_path, entry_text, below_rep}
use Rattle.tree.specs.Layout.{row_width, row_start}
use Rattle.tree.specs.Forest.{Forest, nil, node, Place, size, larger, height}
use Rattle.tree.specs.Node.{Node, set_tag, new_node}
use Rattle.tree.specs.Walk.{by_modes}
use Rattle.tree.specs.WellFormed.{is_node, is_forest}
use Rattle.tree.specs.Rows.{Row, flatten}
use Rattle.tree.specs.RowScan.{end_of_subtree}
use Rattle.tree.specs.RowPlaces.{place_rows, ends}
use Rattle.tree.specs.Encoding.{row_bytes}
use Rattle.tree.specs.RowAt.{row_bytes_at, row_at, all_rows, tag_text_at}
use Rattle.tree.specs.TreeBytes.{HasRow, Used, Encodes, At}
use Rattle.copying.specs.declared.Copier.{Copier}
use Rattle.copying.specs.Copying.{Source, nodes_by, copy_mode, copy_children, copy}

-- a depth is a byte
abbrev pub deepest : ℕ
deepest = 255

-- a path has at most six names, so there are no more levels below an entry
abbrev pub most_levels : ℕ
most_levels = 6

-- at the index there are the bytes of a row, as in a well-formed tree: its node is in range, and nothing stands beside its fields
pub record HoldsRow (b : List ℕ) (i : ℕ) : Type 0 where
  pub has : HasRow b i
  pub own : is_node (row_at b i).here ≡ true
  pub bytes : row_bytes_at b i ≡ row_bytes (row_at b i)

-- a row written at the index, and nothing else
abbrev pub row_put : List ℕ → ℕ → Row Node → List ℕ
row_put o to r = paste o (row_start to) (row_bytes r) row_width

-- the place d, named n, stands from row `at` on at depth k
pub record Stands (rs : List (Row Node)) (at k : ℕ) (n : Name) (d : Place Node) : Type 0 where
  pub post : List (Row Node)
  pub here : drop at rs ≡ place_rows k n d ++ post
  pub stops : ends k post ≡ true

-- the entry path of a child
unfoldable pub child_entry : EntryPath → Name → EntryPath
child_entry e n = record { folder = below_rep e; name = n }

-- the nodes that a copier reads
abbrev pub read_by : Copier → Source Node
read_by w = nodes_by (by_modes w.reader)

-- the rows of the copies of siblings: their directory, whose entry path is e, is copied as x at depth m
unfoldable pub copy_rows : Copier → ℕ → Node → EntryPath → Forest Node → List (Row Node)
copy_rows w m x e F = flatten (suc m) (copy_children w.caller (read_by w) x (below_rep e) F)

-- a copy that still has the tag of its original
unfoldable pub handed_over : Uid → Gid → Node → Node
handed_over owner group x = record { kind = x.kind; owner = owner; group = group; mode = copy_mode x.kind; revision = 0; tag = x.tag; content = x.content }

-- its row, with the name of the original
unfoldable pub handed_row : ℕ → Uid → Gid → Row Node → Row Node
handed_row k owner group r = record { depth = k; name = r.name; here = handed_over owner group r.here }

-- the row of a copy: where it goes, its group, its entry path and the original
unfoldable pub tagged_row : Copier → ℕ → Name → Gid → EntryPath → Node → Row Node
tagged_row w k n group e x = record {
  depth = k;
  name = n;
  here = set_tag (record { path = e; revision = x.revision }) (handed_over w.caller.account.uid group x);
}

-- the row of the copy of a child, below a copy at depth m of the entry e
abbrev pub copy_of_row : Copier → ℕ → EntryPath → Row Node → Row Node
copy_of_row w m e r = tagged_row w (suc m) r.name w.caller.primary (child_entry e r.name) r.here

-- the tag at row `above` of o spells an entry path that may have a child with the name of row `at` of b
pub record Spelled (b : List ℕ) (at : ℕ) (o : List ℕ) (above : ℕ) : Type 0 where
  pub entry : EntryPath
  pub spells : tag_text_at o above ≡ entry_text entry
  pub valid : is_entry_path (child_entry entry (row_at b at).name) ≡ true

-- the row of its copy
abbrev pub child_row : {b : List ℕ} {at : ℕ} {o : List ℕ} {above : ℕ} → Copier → Spelled b at o above → Row Node
child_row {b} {at} {o} {above} w g = copy_of_row w (row_at o above).depth g.entry (row_at b at)

-- what is copied: the children of a place, or the place alone
abbrev pub children : Name → Place Node → Forest Node
children n d = d.below

abbrev pub alone : Name → Place Node → Forest Node
alone n d = node n d.here d.below nil

-- the copies of siblings F fit below the copy at row `above` of o, from row `to` on, with room for one of each; `left` levels at most
pub record Below (o : List ℕ) (above to left : ℕ) (F : Forest Node) : Type 0 where
  pub entry : EntryPath
  pub parent : Node
  pub tagged : tag_text_at o above ≡ entry_text entry
  pub valid : is_entry_path entry ≡ true
  pub plain : set_gid parent.mode ≡ false
  pub whole : is_forest F ≡ true
  pub short : depth (entry_location entry) + height F ≤ most_levels
  pub deep : height F ≤ left
  pub low : (row_at o above).depth + height F ≤ deepest
  pub room : row_start (to + size F) ≤ length o

-- the place at row `at` of a tree's bytes b, and where the copies go
pub record Job (what : Name → Place Node → Forest Node) (b o : List ℕ) (at above to left : ℕ) : Type 0 where
  pub top : Place Node
  pub tree : Encodes b top
  pub used : Used b at
  pub order : above < to
  pub level : ℕ
  pub name : Name
  pub place : Place Node
  pub stands : Stands (all_rows b) at level name place
  pub below : Below o above to left (what name place)

-- the rows that a job is to write
unfoldable pub job_rows : {what : Name → Place Node → Forest Node} {b o : List ℕ} {at above to left : ℕ} → Copier → Job what b o at above to left → List (Row Node)
job_rows {what} {b} {o} {at} {above} {to} {left} w j = copy_rows w (row_at o above).depth j.below.parent j.below.entry (what j.name j.place)

-- whether a row has as many bytes as rows have
unfoldable pub is_wide : Row Node → Bool
is_wide r = eqb (length (row_bytes r)) row_width

-- rows written from row `to` on, and nothing else: r is the row behind them
pub record Written (o : List ℕ) (to : ℕ) (rs : List (Row Node)) (r : ℕ) (z : List ℕ) : Type 0 where
  pub next : r ≡ to + length rs
  pub bytes : z ≡ paste o (row_start to) (all_bytes row_bytes rs) (row_width * length rs)
  pub wide : every is_wide rs ≡ true

-- the rows of whatever job this is are written
abbrev pub JobWritten : (Name → Place Node → Forest Node) → Copier → List ℕ → List ℕ → ℕ → ℕ → ℕ → ℕ → ℕ → List ℕ → Type 0
JobWritten what w b o at above to left r z = (j : Job what b o at above to left) → Written o to (job_rows w j) r z

-- the greatest of a number m and the depths of n rows from row i on
unfoldable pub deepest_from : List ℕ → ℕ → ℕ → ℕ → ℕ
deepest_from b m i zero = m
deepest_from b m i (suc n) = deepest_from b (larger m (row_at b i).depth) (suc i) n

-- how many rows the place at row `at` has with all below it: there are no more copies
abbrev pub subtree_rows : List ℕ → ℕ → ℕ
subtree_rows b at = end_of_subtree (all_rows b) at - at

-- an entry to copy: the place at row `at` of a tree's bytes, with its path as text, and the group of a new node in the directory that the copy goes to
pub record EntryJob (w : Copier) (b : List ℕ) (at : ℕ) (group : Gid) (path : List ℕ) : Type 0 where
  pub top : Place Node
  pub spot : Path
  pub place : Place Node
  pub found : At b top spot at place
  pub entry : EntryPath
  pub parent : Node
  pub text : path ≡ entry_text entry
  pub valid : is_entry_path entry ≡ true
  pub short : depth (entry_location entry) + height place.below ≤ most_levels
  pub given : group ≡ (new_node w.caller parent place.here.kind (copy_mode place.here.kind)).group

-- its copy
unfoldable pub entry_copy : {w : Copier} {b : List ℕ} {at : ℕ} {group : Gid} {path : List ℕ} → EntryJob w b at group path → Place Node
entry_copy {w} j = copy w.caller (read_by w) j.parent j.entry j.place

-- the row of the entry's own copy, at depth k and named n
unfoldable pub first_row : {w : Copier} {b : List ℕ} {at : ℕ} {group : Gid} {path : List ℕ} → EntryJob w b at group path → ℕ → Name → Row Node
first_row {w} {b} {at} {group} j k n = tagged_row w k n group j.entry j.place.here

-- and all rows of its copy
unfoldable pub entry_rows : {w : Copier} {b : List ℕ} {at : ℕ} {group : Gid} {path : List ℕ} → EntryJob w b at group path → ℕ → Name → List (Row Node)
entry_rows j k n = place_rows k n (entry_copy j)
