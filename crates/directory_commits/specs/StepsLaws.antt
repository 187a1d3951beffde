-- How the code of `commit` comes to what Steps says: the row to go on at, the rows and the step in a store whose tree is lent, and what a walk found.
use Rattle.std.specs.Prelude as code
use Rattle.std.specs.Prelude.{refl, Ok, Err, is_ok, ◌≡◌, List, ◌++◌, Bool, true, ℕ, ◌+◌, ◌≤◌, length, take}
use Rattle.std.proofs.Common.{sym, ◌∙◌, ap₂, arith, take-append-drop}
use Rattle.std.proofs.Math.Path.{ap}
use Rattle.std.specs.Int.{from_bool}
use Rattle.std.proofs.Math.Bool.{false}
use Rattle.std.proofs.Math.Numerals.{add-one}
use Rattle.buffers.specs.Cases.{case}
use Rattle.accounts.specs.declared.Account.{Account}
use Rattle.syntax.specs.Path.{Path}
use Rattle.tree.specs.declared.Cause.{Cause}
use Rattle.tree.specs.declared.Cause.TheVariants.{Access}
use Rattle.tree.specs.declared.Kind.TheVariants
use Rattle.tree.specs.Result.{Result, refused, done, Outcome}
use Rattle.tree.proofs.ResultLaws.{done_bind, refused_bind, done_then, refused_then, require_true, require_false}
use Rattle.tree.specs.Forest.{Place}
use Rattle.tree.specs.Node.{Node, is_directory}
use Rattle.tree.proofs.PlaceLaws.{empty_size}
use Rattle.tree.proofs.WellFormedLaws.{place_parts, place_below, tree_parts}
use Rattle.tree.specs.Walk.{by_modes, walk}
use Rattle.tree.proofs.JudgeLaws.{file_is_none, directory_is_one}
use Rattle.tree.specs.Encoding.{encode_tree}
use Rattle.tree.specs.RowAt.{row_at, all_rows}
use Rattle.tree.specs.RowScan.{end_of_subtree}
use Rattle.tree.specs.TreeBytes.{At}
use Rattle.tree.proofs.TreeBytesLaws.{at_here, at_end}
use Rattle.walks.specs.WalkBytes.{Came}
use Rattle.shell.specs.CommandBytes.{bytes_after}
use Rattle.store.specs.HeaderLayout.{header_width}
use Rattle.store.specs.State.{State}
use Rattle.store.specs.StoreBytes.{encode}
use Rattle.stored_header.specs.Stored.{Stored}
use Rattle.stored_header.specs.StoredLaws.{lent_tree, lent_is, lent_encodes, long_enough}
use Rattle.stored_header.specs.LentLaws.{tree_back, back_is}
use Rattle.entries.specs.declared.LinkRows.{LinkRows}
use Rattle.entries.specs.EntrySteps.{commit_steps}
use Rattle.directory_commits.specs.declared.Step.{Step}
use Rattle.directory_commits.specs.declared.Found.TheVariants.{File, Directory}
use Rattle.directory_commits.specs.Steps.{row_after, count_of, Stepped, RowIn, PlaceIn, with_tree, StepIn, found_steps}

-- ---- the row to go on at

module _ (a : Account) {b : List ℕ} {t : Place Node} {p : Path} {i : ℕ} {d : Place Node} (at : At b t p i d) where
  -- the test at its row is that at the place
  readable_here : {x : Bool} → (by_modes a).readable (row_at b i).here ≡ x → (by_modes a).readable d.here ≡ x
  readable_here e = ap (by_modes a).readable (sym (at_here at)) ∙ e

  -- a file: the next, readable or not, since nothing is below it
  pub file_row_after : (row_at b i).here.kind ≡ TheVariants.File → i + 1 ≡ row_after a i d
  unfolding row_after
  file_row_after k =
      let plain : is_directory d.here.kind ≡ false = ap (λ n. is_directory n.kind) (sym (at_here at)) ∙ ap is_directory k ∙ file_is_none in
      let childless = (place_parts d (place_below t p d (tree_parts t at.tree.whole).whole at.there)).childless plain in
      case ((by_modes a).readable d.here) (λ r. rw (r, add-one i)) (λ r. rw (r, add-one i, empty_size d.below childless) (omega arith))

  -- readable: the next
  pub next_row : (by_modes a).readable (row_at b i).here ≡ true → i + 1 ≡ row_after a i d
  unfolding row_after
  next_row e = rw (readable_here e, add-one i)

  -- else past all below
  pub row_passed : (by_modes a).readable (row_at b i).here ≡ false → end_of_subtree (all_rows b) i ≡ row_after a i d
  unfolding row_after
  row_passed e = at_end at ∙ rw (readable_here e)

-- one for rows that were linked, none for a refusal
pub counted : (r : code.Result LinkRows Cause) {linked : Bool} {n : ℕ} → linked ≡ is_ok r → n ≡ from_bool linked → (n ≡ count_of r) × (n ≤ 1)
unfolding count_of
counted (Ok rows) l e = rw (e, l) (refl, omega arith)
counted (Err cause) l e = rw (e, l) (refl, omega arith)

-- ---- in a store

-- its bytes are a header's at least
pub place_long : {b : List ℕ} {i : ℕ} → PlaceIn b i → header_width ≤ length b
place_long h = long_enough (h.0, h.3.stored)

-- the row is that of the place in the tree as it is lent
pub lent_at : {b : List ℕ} {s : State} {p : Path} {i : ℕ} {d : Place Node} → RowIn b s p i d → At (lent_tree b) s.store.tree p i d
lent_at h = record { tree = lent_encodes h.stored; there = h.there; row = h.row }

-- steps on the lent tree, put back: those of the store
with_tree_after : {b : List ℕ} {s : State} → Stored b s → (steps : Result (Outcome (Place Node))) {T : List ℕ} → T ≡ bytes_after encode_tree (lent_tree b) steps
    → tree_back b T ≡ bytes_after (with_tree s) b steps
unfolding bytes_after encode
with_tree_after {b} h (refused k) {T} e = back_is b T ∙ ap (λ (l : List ℕ). take header_width b ++ l) (e ∙ lent_is b) ∙ take-append-drop header_width b
with_tree_after {b} h (done o) {T} e = back_is b T ∙ ap₂ ◌++◌ h.header.bytes e

-- so a step on the lent tree is one in the store
pub stepped_in : (person account : Account) {b : List ℕ} {s : State} {p : Path} {i : ℕ} {d : Place Node} {r : Step} {T : List ℕ} → RowIn b s p i d
    → Stepped person account (lent_tree b) s.store.tree p i d r T → StepIn person account b s p i d r (tree_back b T)
stepped_in person account {s = s} {p = p} {d = d} h f = record {
  next = f.next;
  links = f.filed.links;
  bytes = with_tree_after h.stored (commit_steps person account s.store.tree p d) f.filed.bytes;
}

-- ---- what is found at a path

module _ (a : Account) (t : Place Node) (w : Path) where
  -- no walk
  pub not_found : {k : Cause} → walk (by_modes a) t w ≡ refused k → refused k ≡ found_steps a t w
  unfolding found_steps
  not_found e = rw (e, refused_bind)

  module _ {b : List ℕ} {row above : ℕ} (c : Came b t w (walk (by_modes a) t w) row above) where
    -- a file at the row
    pub file_found : (row_at b row).here.kind ≡ TheVariants.File → done (File row) ≡ found_steps a t w
    unfolding found_steps
    file_found k = rw (c.walked, done_bind, ← at_here c.at, k, file_is_none, c.at.row)

    module _ (k : (row_at b row).here.kind ≡ TheVariants.Directory) where
      -- a directory that is readable, and one that is not
      pub directory_found : (by_modes a).readable (row_at b row).here ≡ true → done (Directory row) ≡ found_steps a t w
      unfolding found_steps
      directory_found e = rw (c.walked, done_bind, ← at_here c.at, k, directory_is_one, e, require_true, done_then, c.at.row)

      pub directory_shut : (by_modes a).readable (row_at b row).here ≡ false → refused Access ≡ found_steps a t w
      unfolding found_steps
      directory_shut e = rw (c.walked, done_bind, ← at_here c.at, k, directory_is_one, e, require_false, refused_then)
