-- The rows of a tree's bytes as rows that are held there. A place among rows: its row, its children, where it ends, and siblings one by
-- one. And the rows of copies: of siblings one by one, of one that may be read and of one that may not, and how many there are.
use Rattle.std.specs.Prelude.{◌≡◌, true, false, length, get_or}
use Rattle.std.proofs.Math.Path.{refl, ap}
use Rattle.std.proofs.Common.{sym, ◌∙◌, add-zero, drop_at, drop-drop, get_or-drop}
use mathlib.Core.List.{List, [], ◌∷◌, ◌++◌, append_assoc, append-nil}
use Prim.Native.Nat.{ℕ, suc, ◌+◌, ◌≤◌, ◌<◌}
use native.Mathlib.Omega.{arith}
use Rattle.std.proofs.Math.ListN.{drop}
use Rattle.buffers.specs.Cases.{case}
use Rattle.accounts.specs.declared.Caller.{Caller}
use Rattle.accounts.specs.declared.Gid.{Gid}
use Rattle.syntax.specs.Number.{set_gid}
use Rattle.syntax.specs.Path.{Name, Path, ◌▹◌, EntryPath, below_rep}
use Rattle.tree.specs.Forest.{Forest, nil, node, Place, size}
use Rattle.tree.specs.Node.{Node, set_tag, set_content, new_group, new_node}
use Rattle.tree.specs.Walk.{by_modes}
use Rattle.tree.specs.Rows.{Row, flatten}
use Rattle.tree.proofs.RowLaws.{length_flatten}
use Rattle.tree.specs.RowScan.{first_depth, depth_of, end_of_subtree}
use Rattle.tree.specs.RowPlaces.{place_rows, ends}
use Rattle.tree.proofs.RowPlacesLaws.{ends_flatten}
use Rattle.tree.proofs.RowScanLaws.{below_span}
use Rattle.tree.proofs.EncodingLaws.{fits_parts}
use Rattle.tree.specs.RowAt.{row_count, row_at, all_rows}
use Rattle.tree.proofs.RowAtLaws.{row_in_rows}
use Rattle.tree.specs.TreeBytes.{Encodes}
use Rattle.tree.proofs.TreeBytesLaws.{used_row, encoded_fits, encoded_row_bytes}
use Rattle.copying.specs.declared.Copier.{Copier}
use Rattle.copying.specs.Copying.{copy_mode, copy_node, copied, copy_children, copy}
use Rattle.copying.proofs.CopyLaws.{copy_mode_fits}
use Rattle.copying.specs.CopyRows.{HoldsRow, Stands, child_entry, read_by, copy_rows, handed_over, tagged_row, alone}

-- ---- rows that are held

-- each row of a well-formed tree is held
pub row_held : (b : List ℕ) (t : Place Node) (i : ℕ) → Encodes b t → i < row_count b → HoldsRow b i
row_held b t i e h = record {
  has = used_row (record { sized = e.sized; used = h });
  own = (fits_parts (row_at b i) (encoded_fits e h)).0;
  bytes = encoded_row_bytes e h;
}

-- ---- a place among rows

-- a subtree ends behind its first row
pub end_above : (rs : List (Row Node)) (i : ℕ) → i < end_of_subtree rs i
unfolding end_of_subtree
end_above rs i = omega arith

-- the rows behind the first so many
behind : (rs : List (Row Node)) (i : ℕ) (r : Row Node) (xs ys : List (Row Node)) → drop i rs ≡ r ∷ (xs ++ ys) → drop (suc (i + length xs)) rs ≡ ys
behind rs i r xs ys e =
    let q : i + suc (length xs) ≡ suc (i + length xs) = omega arith in
    ap (λ (j : ℕ). drop j rs) (sym q) ∙ sym (drop-drop (suc (length xs)) i rs) ∙ ap (drop (suc (length xs))) e ∙ drop_at (r ∷ xs) ys (suc (length xs)) refl

module _ {rs : List (Row Node)} {at k : ℕ} {n : Name} {d : Place Node} (s : Stands rs at k n d) where
  -- behind its row stand those of its children
  pub children_stand : drop (suc at) rs ≡ flatten (suc k) d.below ++ s.post
  unfolding place_rows
  children_stand =
      let q : at + 0 ≡ at = omega arith in
      ap (λ (j : ℕ). drop (suc j) rs) (sym q)
      ∙ behind rs at (record { depth = k; name = n; here = d.here }) [] (flatten (suc k) d.below ++ s.post) s.here

  -- it ends behind them
  pub stands_end : end_of_subtree rs at ≡ suc (at + size d.below)
  unfolding end_of_subtree depth_of first_depth place_rows
  stands_end =
      let q : depth_of rs at ≡ k = rw s.here in
      rw (q, children_stand, below_span k d.below s.post s.stops)

-- the row of a place that stands in a tree's bytes
pub row_stands : (b : List ℕ) {at k : ℕ} {n : Name} {d : Place Node} → at < row_count b → Stands (all_rows b) at k n d
    → row_at b at ≡ record { depth = k; name = n; here = d.here }
unfolding place_rows
row_stands b {at} {k} {n} {d} h s =
    let z = row_at b at in
    sym (row_in_rows b at z h) ∙ ap (λ (j : ℕ). get_or (all_rows b) j z) (sym (add-zero at)) ∙ sym (get_or-drop at (all_rows b) 0 z) ∙ ap (λ (l : List (Row Node)). get_or l 0 z) s.here

module _ (rs : List (Row Node)) (i k : ℕ) (n : Name) (x : Node) (cs rest : Forest Node) (post : List (Row Node))
    (e : drop i rs ≡ flatten (suc k) (node n x cs rest) ++ post) where
  -- the first of siblings stands there
  pub first_stands : ends k post ≡ true → Stands rs i (suc k) n (record { here = x; below = cs })
  unfolding flatten place_rows
  first_stands h = record {
    post = flatten (suc k) rest ++ post;
    here = e ∙ ap (λ (l : List (Row Node)). record { depth = suc k; name = n; here = x } ∷ l) (append_assoc (flatten (suc (suc k)) cs) (flatten (suc k) rest) post);
    stops = ends_flatten k rest post h;
  }

  -- and behind it the others
  pub others_stand : drop (suc (i + size cs)) rs ≡ flatten (suc k) rest ++ post
  unfolding flatten
  others_stand =
      let r : Row Node = record { depth = suc k; name = n; here = x } in
      let F = flatten (suc (suc k)) cs in
      ap (λ (j : ℕ). drop (suc (i + j)) rs) (sym (length_flatten (suc (suc k)) cs))
      ∙ behind rs i r F (flatten (suc k) rest ++ post) (e ∙ ap (λ (l : List (Row Node)). r ∷ l) (append_assoc F (flatten (suc k) rest) post))

-- ---- the rows of copies

-- a copy is the caller's, its group that of a new node, and it has its content and tag
copied_is : (w : Copier) (parent : Node) (e : EntryPath) (g : Gid) (x : Node) → g ≡ (new_node w.caller parent x.kind (copy_mode x.kind)).group
    → copied w.caller (read_by w) parent e x ≡ set_tag (record { path = e; revision = x.revision }) (handed_over w.caller.account.uid g x)
unfolding copied copy_node new_node set_tag set_content handed_over by_modes
copied_is w parent e g x h = rw h

-- the rows of a copied place
pub copy_place_rows : (w : Copier) (parent : Node) (e : EntryPath) (g : Gid) (k : ℕ) (n : Name) (d : Place Node) → g ≡ (new_node w.caller parent d.here.kind (copy_mode d.here.kind)).group
    → place_rows k n (copy w.caller (read_by w) parent e d)
    ≡ tagged_row w k n g e d.here ∷ copy_rows w k (copied w.caller (read_by w) parent e d.here) e d.below
unfolding place_rows copy copy_rows tagged_row
copy_place_rows w parent e g k n d h =
    ap (λ (x : Node). record { depth = k; name = n; here = x } ∷ flatten (suc k) (copy_children w.caller (read_by w) (copied w.caller (read_by w) parent e d.here) (below_rep e) d.below))
    (copied_is w parent e g d.here h)

-- without set-gid it is the primary group
pub primary_group : (c : Caller) (parent x : Node) → set_gid parent.mode ≡ false → c.primary ≡ (new_node c parent x.kind (copy_mode x.kind)).group
unfolding new_node new_group
primary_group c parent x h = rw h

-- a copy has no set-gid
pub copied_plain : (w : Copier) (parent : Node) (e : EntryPath) (x : Node) → set_gid (copied w.caller (read_by w) parent e x).mode ≡ false
unfolding copied copy_node new_node set_tag set_content
copied_plain w parent e x = (copy_mode_fits ((by_modes w.reader).kind x)).1

-- there are at most as many copies as originals
pub copies_few : (w : Copier) (x : Node) (folder : Path) (F : Forest Node) → size (copy_children w.caller (read_by w) x folder F) ≤ size F
unfolding copy_children size
copies_few w x folder nil = omega arith
copies_few w x folder (node n a cs rest) =
    let below = copies_few w (copied w.caller (read_by w) x (record { folder = folder; name = n }) a) (folder ▹ n) cs in
    let others = copies_few w x folder rest in
    case ((by_modes w.reader).readable a) (λ t. rw t (omega arith)) (λ t. rw t (omega arith))

module _ (w : Copier) (m : ℕ) (x : Node) (e : EntryPath) where
  pub copy_rows_nil : copy_rows w m x e nil ≡ []
  unfolding copy_rows copy_children flatten
  copy_rows_nil = refl

  -- there are at most as many as siblings and all below
  pub copy_rows_few : (F : Forest Node) → length (copy_rows w m x e F) ≤ size F
  unfolding copy_rows
  copy_rows_few F = let l = length_flatten (suc m) (copy_children w.caller (read_by w) x (below_rep e) F) in omega (arith, copies_few w x (below_rep e) F)

  module _ (n : Name) (d : Place Node) where
    -- siblings are copied one after another
    pub copy_rows_more : (rest : Forest Node) → copy_rows w m x e (node n d.here d.below rest) ≡ copy_rows w m x e (alone n d) ++ copy_rows w m x e rest
    unfolding copy_rows copy_children flatten
    copy_rows_more rest = case ((by_modes w.reader).readable d.here)
        (λ t. rw t (simp append-nil))
        (λ t. rw t)

    -- one that may be read is a copy with those of its children
    pub copy_rows_read : (by_modes w.reader).readable d.here ≡ true
        → copy_rows w m x e (alone n d) ≡ place_rows (suc m) n (copy w.caller (read_by w) x (child_entry e n) d)
    unfolding copy_rows copy_children flatten place_rows copy child_entry below_rep
    copy_rows_read t = rw t (simp append-nil)

    -- one that may not is none
    pub copy_rows_skipped : (by_modes w.reader).readable d.here ≡ false → copy_rows w m x e (alone n d) ≡ []
    unfolding copy_rows copy_children flatten
    copy_rows_skipped t = rw t
