-- What `commit` of a file found answers and leaves, as its code comes to it.
use Rattle.std.specs.Prelude.{◌≡◌, List, ℕ, ◌<◌, Ok}
use Rattle.std.specs.Prelude as code
use Rattle.std.proofs.Common.{sym, ◌∙◌}
use Rattle.std.proofs.Math.Path.{ap}
use Rattle.accounts.specs.declared.Account.{Account}
use Rattle.accounts.specs.declared.Right.TheVariants.{R}
use Rattle.syntax.specs.Path.{Path}
use Rattle.tree.specs.declared.Cause.{Cause}
use Rattle.tree.specs.Result.{Result, refused, done, outcome}
use Rattle.tree.specs.Forest.{Place}
use Rattle.tree.specs.Node.{Node}
use Rattle.tree.specs.WellFormed.{last_revision}
use Rattle.tree.specs.Encoding.{encode_tree}
use Rattle.tree.specs.RowPlaces.{index_of}
use Rattle.tree.specs.RowAt.{row_at}
use Rattle.tree.specs.TreeBytes.{At}
use Rattle.shell.specs.CommandBytes.{bytes_after}
use Rattle.entries.specs.declared.LinkRows.{LinkRows}
use Rattle.entries.specs.EntrySteps.{Link, commit_at, after_commit, link_rows_from, FiledAt, Linked}
use Rattle.entries.specs.LinkLaws.{links_to, link_facts, linked, commit_parts, revision_below}
use Rattle.entries.specs.EntryStepsLaws.{comes_to, comes_not}

-- the steps of a commit are done for the file d found at p, which has the row: their link, its rows, and a revision of the entry that can be raised
pub record Fileable (person account : Account) (b : List ℕ) (t : Place Node) (p : Path) (row : ℕ) (d : Place Node) (working entry : ℕ) : Type 0 where
  pub link : Link
  pub comes : commit_at person account t p d ≡ done link
  pub path : link.path ≡ p
  pub found : link.found ≡ d
  pub rows : Linked b t link working entry
  pub own : working ≡ row
  pub below : (row_at b entry).here.revision < last_revision

pub fileable : (person account : Account) {b : List ℕ} {t : Place Node} {p : Path} {row : ℕ} {d : Place Node} {r : code.Result LinkRows Cause} {s : LinkRows} → At b t p row d
    → outcome r ≡ link_rows_from t (commit_at person account t p d) → r ≡ Ok s → Fileable person account b t p row d s.working s.entry
fileable person account {t = t} {p = p} {d = d} at o e =
    let x = links_to t (commit_at person account t p d) o e in
    let y = commit_parts person account t p d x.1 in
    let f = link_facts person account R t p d y.0 in
    let l = linked person account R at y.0 x.2 in
    record {
      link = x.0;
      comes = x.1;
      path = f.path;
      found = f.found;
      rows = l;
      own = l.file.row ∙ ap (index_of t) f.path ∙ sym at.row;
      below = revision_below l.original y.1;
    }

-- ---- by the code

module _ {b : List ℕ} {t : Place Node} {steps : Result Link} {r : code.Result LinkRows Cause} (o : outcome r ≡ link_rows_from t steps) where
  pub is_filed : {b' : List ℕ} {l : Link} → steps ≡ done l → b' ≡ encode_tree (after_commit t l) → FiledAt b t steps r b'
  unfolding bytes_after
  is_filed c h = record { links = o; bytes = rw (comes_to steps (after_commit t) c) h }

  pub is_kept : {k : Cause} → steps ≡ refused k → FiledAt b t steps r b
  unfolding bytes_after
  is_kept c = record { links = o; bytes = rw (comes_not steps (after_commit t) c) }
