-- The fields of a row written: which change of the tree each is.
use Rattle.std.specs.Prelude.{◌≡◌}
use Rattle.std.proofs.Math.Path.{refl, sym, ap}
use Rattle.std.proofs.Common.{◌∙◌, arith, length-append}
use mathlib.Core.List.{List, [], ◌∷◌, ◌++◌, append_assoc}
use Rattle.std.proofs.Math.Option.{Option, some}
use Rattle.std.proofs.Math.Bool.{true}
use Prim.Native.Nat.{ℕ, suc, ◌+◌, ◌≤◌}
use Rattle.std.proofs.Math.ListN.{length}
use Rattle.buffers.specs.Cases.{and_both}
use Rattle.buffers.specs.Text.{Text, every}
use Rattle.buffers.specs.Fields.{two_bytes, padded}
use Rattle.buffers.specs.FieldsLaws.{length_padded, length_two_bytes}
use Rattle.accounts.specs.declared.Uid.{Uid}
use Rattle.accounts.specs.declared.Gid.{Gid}
use Rattle.syntax.specs.Path.{Path, last, depth, EntryPath, is_entry_path, entry_text}
use Rattle.syntax.proofs.PathLaws.{entry_text_fits}
use Rattle.syntax.proofs.FieldLaws.{content_fits}
use Rattle.tree.specs.Layout.{owner_offset, group_offset, mode_offset, revision_offset, name_width, tag_offset, tag_width, tag_revision_offset, content_offset, content_width, whole_tag_width}
use Rattle.tree.specs.Forest.{Place, update, place_at, alter}
use Rattle.tree.specs.Node.{Tag, Node, set_owner, set_group, set_mode, set_revision, set_tag, set_content}
use Rattle.tree.specs.Rows.{Row, flatten}
use Rattle.tree.specs.WellFormed.{is_tag, is_tree}
use Rattle.tree.specs.RowPlaces.{index_of}
use Rattle.tree.proofs.RowPlacesLaws.{around}
use Rattle.tree.proofs.RowChangesLaws.{alter_rows}
use Rattle.tree.specs.Encoding.{kind_byte, tag_bytes, row_bytes, encode_rows, encode_tree, row_head, row_spare}
use Rattle.tree.proofs.RowBytesLaws.{before_content, length_tag_bytes, node_parts, length_row_head, row_parts}
use Rattle.tree.proofs.EncodingLaws.{fits, fits_parts}
use Rattle.tree.specs.TreeBytes.{At}
use Rattle.edits.specs.Changes.{field_bytes, field_put}
use Rattle.edits.specs.EncodedRowsLaws.{encode_tree_rows, table_field_at, table_field_put}
use Rattle.edits.specs.EditLaws.{cut_fits, fitting_wide}

-- the row of the place at a path, with a node for its own
abbrev pub row_there : Path → Node → Row Node
row_there p x = record { depth = depth p; name = last p; here = x }

module _ (t : Place Node) (p : Path) (d : Place Node) (h : is_tree t ≡ true) (there : place_at t p ≡ some d) where
  -- the row of the place fits
  row_fits : fits (row_there p d.here) ≡ true
  unfolding every
  row_fits =
      let c = around t p d there in
      let rest = flatten (suc (depth p)) d.below ++ c.post in
      let f = cut_fits t h c.pre (row_there p d.here ∷ rest) (alter_rows c (λ x. x)).0 in
      (and_both (fits (row_there p d.here)) (every fits rest) f.1).0

  module _ (k : ℕ) (P old Q : List ℕ) (l : length P ≡ k) (was : row_bytes (row_there p d.here) ≡ P ++ (old ++ Q)) where
    -- what stands in a field of the row
    pub field_law : field_bytes (encode_tree t) (index_of t p) k (length old) ≡ old
    field_law =
        let c = around t p d there in
        let rest = flatten (suc (depth p)) d.below ++ c.post in
        let e = (alter_rows c (λ x. x)).0 in
        let f = cut_fits t h c.pre (row_there p d.here ∷ rest) e in
        ap (λ (b : List ℕ). field_bytes b (index_of t p) k (length old)) (encode_tree_rows t ∙ ap encode_rows e)
        ∙ ap (λ (i : ℕ). field_bytes (encode_rows (c.pre ++ row_there p d.here ∷ rest)) i k (length old)) (sym c.index)
        ∙ table_field_at c.pre rest P Q (fitting_wide c.pre f.0) k l (row_there p d.here) old was

    -- and the node whose row differs in that field alone
    pub change_law : (g : Node → Node) (new : List ℕ) → length old ≡ length new → row_bytes (row_there p (g d.here)) ≡ P ++ (new ++ Q)
        → field_put (encode_tree t) (index_of t p) k new ≡ encode_tree (update p (alter g) t)
    change_law g new q is =
        let c = around t p d there in
        let rest = flatten (suc (depth p)) d.below ++ c.post in
        let e = alter_rows c g in
        let f = cut_fits t h c.pre (row_there p d.here ∷ rest) e.0 in
        ap (λ (b : List ℕ). field_put b (index_of t p) k new) (encode_tree_rows t ∙ ap encode_rows e.0)
        ∙ ap (λ (i : ℕ). field_put (encode_rows (c.pre ++ row_there p d.here ∷ rest)) i k new) (sym c.index)
        ∙ table_field_put c.pre rest P Q (fitting_wide c.pre f.0) k l (row_there p d.here) old was (row_there p (g d.here)) new q is
        ∙ sym (encode_tree_rows (update p (alter g) t) ∙ ap encode_rows e.1)

  owner_changed : (u : Uid) → field_put (encode_tree t) (index_of t p) owner_offset (u.0 ∷ []) ≡ encode_tree (update p (alter (set_owner u)) t)
  unfolding row_bytes set_owner
  owner_changed u =
      let x = d.here in
      change_law 2 (depth p ∷ kind_byte x.kind ∷ []) (x.owner.0 ∷ []) _ refl refl (set_owner u) (u.0 ∷ []) refl refl

  group_changed : (g : Gid) → field_put (encode_tree t) (index_of t p) group_offset (g.0 ∷ []) ≡ encode_tree (update p (alter (set_group g)) t)
  unfolding row_bytes set_group
  group_changed g =
      let x = d.here in
      change_law 3 (depth p ∷ kind_byte x.kind ∷ x.owner.0 ∷ []) (x.group.0 ∷ []) _ refl refl (set_group g) (g.0 ∷ []) refl refl

  mode_changed : (m : ℕ) → field_put (encode_tree t) (index_of t p) mode_offset (two_bytes m) ≡ encode_tree (update p (alter (set_mode m)) t)
  unfolding row_bytes set_mode two_bytes
  mode_changed m =
      let x = d.here in
      change_law 4 (depth p ∷ kind_byte x.kind ∷ x.owner.0 ∷ x.group.0 ∷ []) (two_bytes x.mode) _ refl refl (set_mode m) (two_bytes m) refl refl

  revision_changed : (v : ℕ) → field_put (encode_tree t) (index_of t p) revision_offset (two_bytes v) ≡ encode_tree (update p (alter (set_revision v)) t)
  unfolding row_bytes set_revision two_bytes
  revision_changed v =
      let x = d.here in
      let P : List ℕ = (depth p ∷ kind_byte x.kind ∷ x.owner.0 ∷ x.group.0 ∷ []) ++ two_bytes x.mode in
      change_law 6 P (two_bytes x.revision) _ refl refl (set_revision v) (two_bytes v) refl refl

abbrev pub name_of : Row Node → List ℕ
name_of r = padded name_width r.name

-- the parts of a row gathered around one of them
regroup_four : (H N T B R : List ℕ) → H ++ (N ++ ((T ++ B) ++ R)) ≡ (H ++ (N ++ T)) ++ (B ++ R)
regroup_four H N T B R = simp append_assoc

module _ (t : Place Node) (p : Path) (d : Place Node) (h : is_tree t ≡ true) (there : place_at t p ≡ some d) where
  length_name : length (name_of (row_there p d.here)) ≡ 8
  length_name = length_padded name_width (last p) (fits_parts (row_there p d.here) (row_fits t p d h there)).1.0

  pub tag_fits_there : is_tag d.here.tag ≡ true
  tag_fits_there = (node_parts d.here (fits_parts (row_there p d.here) (row_fits t p d h there)).0).0

  pub content_fits_there : length d.here.content ≤ content_width
  content_fits_there =
      let i = node_parts d.here (fits_parts (row_there p d.here) (row_fits t p d h there)).0 in
      (content_fits d.here.content i.1).0

  -- how many bytes stand before the tag
  pub length_before_tag : (x : Node) → length (row_head (row_there p x) ++ name_of (row_there p d.here)) ≡ tag_offset
  length_before_tag x = length-append (row_head (row_there p x)) (name_of (row_there p d.here)) ∙ omega (arith, length_row_head (row_there p x), length_name)

  -- how many bytes stand before what follows the name and a stretch T
  length_so_far : (x : Node) (T : List ℕ) (k : ℕ) → length T ≡ k → length (row_head (row_there p x) ++ (name_of (row_there p d.here) ++ T)) ≡ tag_offset + k
  length_so_far x T k l =
      length-append (row_head (row_there p x)) (name_of (row_there p d.here) ++ T) ∙ omega (arith, length_row_head (row_there p x), length-append (name_of (row_there p d.here)) T, length_name)

  tag_changed : (e : EntryPath) (v : ℕ) → is_entry_path e ≡ true
      → field_put (encode_tree t) (index_of t p) tag_offset (padded tag_width (entry_text e) ++ two_bytes v)
      ≡ encode_tree (update p (alter (set_tag (record { path = e; revision = v }))) t)
  unfolding set_tag tag_bytes two_bytes
  tag_changed e v a =
      let x = d.here in
      let P = row_head (row_there p x) ++ name_of (row_there p d.here) in
      let Q = padded content_width x.content ++ row_spare in
      let T = padded tag_width (entry_text e) in
      let g : Tag = record { path = e; revision = v } in
      let lT = length_padded tag_width (entry_text e) (entry_text_fits e a).0 in
      let q : length (tag_bytes x.tag) ≡ length (T ++ two_bytes v) =
      length_tag_bytes x.tag tag_fits_there ∙ sym (length-append T (two_bytes v) ∙ omega (arith, lT)) in
      change_law t p d h there tag_offset P (tag_bytes x.tag) Q (length_before_tag x) (row_parts (row_there p x)) (set_tag g) (T ++ two_bytes v) q (row_parts (row_there p (set_tag g x)))

  -- the tag keeps its path and gets another revision
  tag_revision_changed : (g : Tag) (v : ℕ) → d.here.tag ≡ some g
      → field_put (encode_tree t) (index_of t p) tag_revision_offset (two_bytes v) ≡ encode_tree (update p (alter (set_tag (record { path = g.path; revision = v }))) t)
  unfolding set_tag tag_bytes is_tag
  tag_revision_changed g v e =
      let x = d.here in
      let T = padded tag_width (entry_text g.path) in
      let Q = padded content_width x.content ++ row_spare in
      let new : Tag = record { path = g.path; revision = v } in
      let fit : is_tag (some g) ≡ true = ap is_tag (sym e) ∙ tag_fits_there in
      let path = (and_both (is_entry_path g.path) _ fit).0 in
      let lT = length_padded tag_width (entry_text g.path) (entry_text_fits g.path path).0 in
      let was : row_bytes (row_there p x) ≡ (row_head (row_there p x) ++ (name_of (row_there p d.here) ++ T)) ++ (two_bytes g.revision ++ Q) =
      row_parts (row_there p x) ∙ ap (λ (o : Option Tag). row_head (row_there p x) ++ (name_of (row_there p d.here) ++ (tag_bytes o ++ Q))) e
      ∙ regroup_four (row_head (row_there p x)) (name_of (row_there p d.here)) T (two_bytes g.revision) Q in
      change_law t p d h there tag_revision_offset (row_head (row_there p x) ++ (name_of (row_there p d.here) ++ T)) (two_bytes g.revision) Q (length_so_far x T tag_width lT) was (set_tag new) (two_bytes v)
      (length_two_bytes g.revision ∙ sym (length_two_bytes v))
      (row_parts (row_there p (set_tag new x)) ∙ regroup_four (row_head (row_there p x)) (name_of (row_there p d.here)) T (two_bytes v) Q)

  -- the content, where it stands
  content_parts : (x : Node) → row_bytes (row_there p x) ≡ (row_head (row_there p x) ++ (name_of (row_there p d.here) ++ tag_bytes x.tag)) ++ (padded content_width x.content ++ row_spare)
  content_parts x = row_parts (row_there p x) ∙ before_content (row_head (row_there p x)) (name_of (row_there p d.here)) (tag_bytes x.tag) (padded content_width x.content ++ row_spare)

  length_before_content : length (row_head (row_there p d.here) ++ (name_of (row_there p d.here) ++ tag_bytes d.here.tag)) ≡ content_offset
  length_before_content = length_so_far d.here (tag_bytes d.here.tag) whole_tag_width (length_tag_bytes d.here.tag tag_fits_there)

  length_content : length (padded content_width d.here.content) ≡ content_width
  length_content = length_padded content_width d.here.content content_fits_there

  content_changed : (c : Text) → length c ≤ content_width
      → field_put (encode_tree t) (index_of t p) content_offset (padded content_width c) ≡ encode_tree (update p (alter (set_content c)) t)
  unfolding set_content
  content_changed c l =
      let x = d.here in
      change_law t p d h there content_offset (row_head (row_there p x) ++ (name_of (row_there p d.here) ++ tag_bytes x.tag)) (padded content_width x.content) row_spare length_before_content (content_parts x)
      (set_content c) (padded content_width c) (length_content ∙ sym (length_padded content_width c l)) (content_parts (set_content c x))

  content_read : field_bytes (encode_tree t) (index_of t p) content_offset content_width ≡ padded content_width d.here.content
  content_read =
      let x = d.here in
      ap (field_bytes (encode_tree t) (index_of t p) content_offset) (sym length_content)
      ∙ field_law t p d h there content_offset (row_head (row_there p x) ++ (name_of (row_there p d.here) ++ tag_bytes x.tag)) (padded content_width x.content) row_spare length_before_content (content_parts x)

-- ---- at the row of a place

-- what is read in the tree's own bytes at the path's index is read in b at i
pub read_there : {b : List ℕ} {t : Place Node} {p : Path} {i : ℕ} {d : Place Node} → At b t p i d
    → (k n : ℕ) (s : List ℕ) → field_bytes (encode_tree t) (index_of t p) k n ≡ s → field_bytes b i k n ≡ s
read_there {b} {t} {p} {i} a k n s e = ap (λ (c : List ℕ). field_bytes c i k n) a.tree.bytes ∙ ap (λ (j : ℕ). field_bytes (encode_tree t) j k n) a.row ∙ e

module _ {b : List ℕ} {t : Place Node} {p : Path} {i : ℕ} {d : Place Node} (a : At b t p i d) where
  -- and what is written there
  pub there_too : (k : ℕ) (s : List ℕ) (g : Node → Node) → field_put (encode_tree t) (index_of t p) k s ≡ encode_tree (update p (alter g) t)
      → field_put b i k s ≡ encode_tree (update p (alter g) t)
  there_too k s g e = ap (λ (c : List ℕ). field_put c i k s) a.tree.bytes ∙ ap (λ (j : ℕ). field_put (encode_tree t) j k s) a.row ∙ e

  pub owner_law : (u : Uid) → field_put b i owner_offset (u.0 ∷ []) ≡ encode_tree (update p (alter (set_owner u)) t)
  owner_law u = there_too owner_offset (u.0 ∷ []) (set_owner u) (owner_changed t p d a.tree.whole a.there u)

  pub group_law : (g : Gid) → field_put b i group_offset (g.0 ∷ []) ≡ encode_tree (update p (alter (set_group g)) t)
  group_law g = there_too group_offset (g.0 ∷ []) (set_group g) (group_changed t p d a.tree.whole a.there g)

  pub mode_law : (m : ℕ) → field_put b i mode_offset (two_bytes m) ≡ encode_tree (update p (alter (set_mode m)) t)
  mode_law m = there_too mode_offset (two_bytes m) (set_mode m) (mode_changed t p d a.tree.whole a.there m)

  pub revision_law : (v : ℕ) → field_put b i revision_offset (two_bytes v) ≡ encode_tree (update p (alter (set_revision v)) t)
  revision_law v = there_too revision_offset (two_bytes v) (set_revision v) (revision_changed t p d a.tree.whole a.there v)

  pub tag_law : (e : EntryPath) (v : ℕ) → is_entry_path e ≡ true → field_put b i tag_offset (padded tag_width (entry_text e) ++ two_bytes v)
      ≡ encode_tree (update p (alter (set_tag (record { path = e; revision = v }))) t)
  tag_law e v h = there_too tag_offset (padded tag_width (entry_text e) ++ two_bytes v) (set_tag (record { path = e; revision = v })) (tag_changed t p d a.tree.whole a.there e v h)

  -- the tag keeps its path and gets another revision
  pub tag_revision_law : (g : Tag) (v : ℕ) → d.here.tag ≡ some g → field_put b i tag_revision_offset (two_bytes v)
      ≡ encode_tree (update p (alter (set_tag (record { path = g.path; revision = v }))) t)
  tag_revision_law g v e = there_too tag_revision_offset (two_bytes v) (set_tag (record { path = g.path; revision = v })) (tag_revision_changed t p d a.tree.whole a.there g v e)

  pub content_law : (c : Text) → length c ≤ content_width → field_put b i content_offset (padded content_width c) ≡ encode_tree (update p (alter (set_content c)) t)
  content_law c l = there_too content_offset (padded content_width c) (set_content c) (content_changed t p d a.tree.whole a.there c l)

  -- the content of another place
  pub copy_content_law : {q : Path} {j : ℕ} {f : Place Node} → At b t q j f
      → field_put b i content_offset (field_bytes b j content_offset content_width) ≡ encode_tree (update p (alter (set_content f.here.content)) t)
  copy_content_law {q} {j} {f} from =
      let read = read_there from content_offset content_width (padded content_width f.here.content) (content_read t q f from.tree.whole from.there) in
      ap (field_put b i content_offset) read ∙ content_law f.here.content (content_fits_there t q f from.tree.whole from.there)
