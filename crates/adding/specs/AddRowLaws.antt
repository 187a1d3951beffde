-- The row of a new entry, and what the tag and that row make of the tree.
--
-- In order: the row as the code writes it (entry-written); the bytes of a place without children; the bytes once the tag is written, and
-- what is asked of them; the entry put in (add-law).
use Rattle.std.specs.Prelude.{◌≡◌, true, length, take, drop, replicate}
use Rattle.std.proofs.Math.Path.{sym, ap}
use Rattle.std.proofs.Common.{◌∙◌, arith, length-append, take_all, le-leb}
use mathlib.Core.List.{List, [], ◌++◌, append-nil}
use Rattle.std.proofs.Math.Option.{none}
use Prim.Native.Nat.{ℕ, suc, ◌+◌, ◌*◌, ◌≤◌}
use Rattle.std.proofs.lemmas.List.{length-replicate}
use Rattle.std.proofs.Math.Seq.{paste}
use Rattle.buffers.specs.Text.{Text}
use Rattle.buffers.specs.Fields.{padded, all_bytes}
use Rattle.buffers.specs.FieldsLaws.{length_padded}
use Rattle.buffers.specs.PasteLaws.{paste_piece, paste_whole}
use Rattle.accounts.specs.declared.Role.{Role}
use Rattle.accounts.specs.Dominance.{BoundedRole}
use Rattle.syntax.specs.Path.{Name, Path, parent, last, depth, in_rep, entry_location, is_entry_path}
use Rattle.syntax.proofs.PathLaws.{entry_is_entry, entry_text_fits, entry_parts}
use Rattle.syntax.proofs.ParentLaws.{text_of_entry}
use Rattle.syntax.proofs.FormLaws.{answered}
use Rattle.tree.specs.Layout.{row_width, row_start, name_width, tag_offset, tag_width, content_width, head_width, name_offset, behind_name_width, content_offset, base_width}
use Rattle.tree.specs.Forest.{Place, leaf, place_at, size}
use Rattle.tree.proofs.PlaceLaws.{leaf_here, leaf_size}
use Rattle.tree.specs.Node.{Tag, Node, set_tag}
use Rattle.tree.proofs.NodeLaws.{node_ranges, node_of_tag, kind_of_set_tag, last_revision_is}
use Rattle.tree.specs.Walk.{by_modes}
use Rattle.tree.specs.WellFormed.{last_revision, nodes, is_node}
use Rattle.tree.proofs.WellFormedLaws.{leaf_place}
use Rattle.tree.proofs.UpdateLaws.{place_at_root, place_at_child, leaf_height}
use Rattle.tree.proofs.ChangeLaws.{keep_put}
use Rattle.tree.proofs.OtherPathLaws.{put_stands}
use Rattle.tree.proofs.AlterLaws.{nodes_bare, lesser_bare, unused_bare, AlteredPlace, altered_at, put_altered}
use Rattle.tree.specs.Rows.{Row}
use Rattle.tree.specs.RowPlaces.{place_rows, lesser}
use Rattle.tree.specs.Encoding.{tag_bytes, row_bytes, encode_tree, row_head, row_spare}
use Rattle.tree.proofs.RowBytesLaws.{row_parts, before_content}
use Rattle.tree.proofs.EncodingLaws.{length_fitting}
use Rattle.tree.specs.RowAt.{row_count, row_at}
use Rattle.tree.specs.TreeBytes.{Insertable, At}
use Rattle.tree.proofs.TreeBytesLaws.{encodes, encoded_count, encoded_fits, at_index, at_root, at_used, at_row, at_here}
use Rattle.edits.specs.declared.Fresh.{Fresh}
use Rattle.edits.specs.Changes.{rows_put, field_put, tag_field, fresh_row, head_bytes}
use Rattle.edits.specs.WrittenLaws.{length_fresh, row_written, fresh_node_is}
use Rattle.edits.specs.EditLaws.{spot_bound, put_law, place_law}
use Rattle.node_fields.specs.FieldEditLaws.{tag_law}
use Rattle.copying.proofs.CopyRowLaws.{row_held}
use Rattle.copying.proofs.CopyBytesLaws.{bytes_copied}
use Rattle.machine.specs.Working.{tagged}
use Rattle.machine.specs.StoreMachine.{entry_node}
use Rattle.machine.proofs.EntryRangeLaws.{entry_fits}
use Rattle.entries.specs.LinkLaws.{at_node}
use Rattle.adding.specs.AddSteps.{after_add, fresh_entry, filled_node, Addition}

-- ---- the row

module _ (k : ℕ) (name content : List ℕ) (f : Fresh) (fits : length name ≤ name_width) (short : length content ≤ content_width) where
  -- the content written into the row of a new node
  content_filled : paste (row_bytes (fresh_row k name f)) content_offset (padded content_width content) content_width ≡ row_bytes (record { depth = k; name = name; here = filled_node f content })
  content_filled =
      let r : Row Node =
      record { depth = k; name = name; here = record { kind = f.kind; owner = f.owner; group = f.group; mode = f.mode; revision = f.revision; tag = none; content = [] } } in
      let fresh : row_bytes (fresh_row k name f) ≡ row_bytes r = ap (λ (n : Node). row_bytes (record { depth = k; name = name; here = n })) (fresh_node_is f) in
      let v : Row Node = record { depth = k; name = name; here = filled_node f content } in
      let N = padded name_width name in
      let P = row_head r ++ (N ++ tag_bytes none) in
      let old = padded content_width [] in
      let new = padded content_width content in
      let was : row_bytes r ≡ P ++ (old ++ row_spare) = row_parts r ∙ before_content (row_head r) N (tag_bytes none) (old ++ row_spare) in
      let lo : length old ≡ content_width = length_padded content_width [] (omega arith) in
      let lP : length P ≡ content_offset =
      omega (arith, length_fresh k name f fits, ap length (fresh ∙ was), length-append P (old ++ row_spare), length-append old row_spare, length-replicate {A = ℕ} base_width 0) in
      ap (λ (l : List ℕ). paste l content_offset new content_width) (fresh ∙ was) ∙ paste_piece P row_spare old new content_offset content_width lP lo (length_padded content_width content short)
      ∙ sym (row_parts v ∙ before_content (row_head v) N (tag_bytes none) (new ++ row_spare))

  -- the head, the name, zeros and the content, one after another
  pub entry_written : (s : List ℕ) {s₁ s₂ s₃ s₄ c : List ℕ} → length s ≡ row_width → s₁ ≡ paste s 0 (head_bytes k f) head_width
      → s₂ ≡ paste s₁ name_offset (padded name_width name) name_width → s₃ ≡ paste s₂ tag_offset (replicate behind_name_width 0) behind_name_width → c ≡ content → s₄ ≡ paste s₃ content_offset (padded content_width c) content_width
      → s₄ ≡ row_bytes (record { depth = k; name = name; here = filled_node f content })
  entry_written s {s₁} {s₂} {s₃} wide h₁ h₂ h₃ e h₄ =
      let r = row_bytes (fresh_row k name f) in
      let fresh : s₃ ≡ r =
      h₃ ∙ rw (h₂, h₁) (row_written k name f s 0 (omega (arith, wide)) fits) ∙ paste_whole s r row_width wide (length_fresh k name f fits) in
      h₄ ∙ rw (e, fresh) content_filled

-- ---- a place without children

-- its bytes are those of its row
lone_bytes : {b : List ℕ} {t : Place Node} {p : Path} {i : ℕ} {d : Place Node} → At b t p i d → size d.below ≡ 0
    → all_bytes row_bytes (place_rows (depth p) (last p) d) ≡ row_bytes (record { depth = depth p; name = last p; here = d.here })
lone_bytes {b} {t} {p} {i} {d} a z =
    let u = (at_used a).used in
    let r = row_at b i in
    let D = drop (row_start i) b in
    let one : row_width * suc (size d.below) ≡ row_width = omega (arith, z) in
    let same : take row_width D ≡ take row_width (row_bytes r) =
    sym (append-nil (take row_width D)) ∙ bytes_copied b i (row_held b t i a.tree u) [] 0 ∙ append-nil (take row_width (row_bytes r)) in
    sym (place_law a) ∙ ap (λ (n : ℕ). take n D) one ∙ same
    ∙ take_all row_width (row_bytes r) (omega (arith, length_fitting r (encoded_fits a.tree u))) ∙ ap row_bytes (at_row a)

-- ---- the tag, and then the entry

module _ {b : List ℕ} {s : Text} {i at k : ℕ} (j : Addition b s i at k) where
  valid : is_entry_path j.filed ≡ true
  valid = entry_is_entry s j.filed j.reads

  -- the path fits a tag
  pub addition_fits : length s ≤ tag_width
  addition_fits = rw (text_of_entry s j.filed j.reads) (entry_text_fits j.filed valid).0

  abbrev tag : Tag
  tag = record { path = j.filed; revision = 1 }

  module _ {b₁ : List ℕ} (h : b₁ ≡ field_put b i tag_offset (tag_field s 1)) where
    bytes : b₁ ≡ encode_tree (tagged j.path j.filed 1 j.top)
    bytes = h ∙ ap (λ (x : Text). field_put b i tag_offset (tag_field x 1)) (text_of_entry s j.filed j.reads) ∙ tag_law j.file j.filed 1 valid

    -- a place of the tree before is one of the tagged
    still : {q : Path} {m : ℕ} {d : Place Node} → At b j.top q m d → AlteredPlace b₁ j.path (set_tag tag) j.top q m d
    still a =
        let x = j.found.here in
        let low : 1 ≤ last_revision = omega (arith, last_revision_is) in
        altered_at a (set_tag tag) j.file.there (node_of_tag tag x (at_node j.file) valid (le-leb 1 last_revision low)) (kind_of_set_tag tag x) bytes

    -- so there are as many rows
    as_many : row_count b₁ ≡ nodes j.top
    as_many =
        let top = still (at_root j.file.tree) in
        let t₁ = tagged j.path j.filed 1 j.top in
        let is : t₁ ≡ top.place = answered (sym top.at.there ∙ place_at_root t₁) in
        encoded_count top.at.tree ∙ ap nodes is ∙ nodes_bare top.place j.top top.shape

    -- the entry's row may be put in
    pub addition_insertable : Insertable b₁ at 1
    addition_insertable =
        let f = still j.stands.above in
        let n = last (entry_location j.filed) in
        record {
          wide = f.at.tree.sized.wide;
          inside = omega (
            arith,
            j.stands.index,
            lesser_bare f.place j.stands.directory f.shape n,
            spot_bound f.at n (unused_bare f.place j.stands.directory f.shape n j.stands.roomed.free),
          );
          room = omega (arith, as_many, j.few);
        }

    -- what is put in
    module _ (z : BoundedRole) {role : Role} (q : z.role ≡ role) {f : Fresh} (made : f ≡ fresh_entry (row_at b i).here.kind role) {name : Name}
        (named : name ≡ last (entry_location j.filed)) where
      abbrev entry : Node
      entry = entry_node j.found.here.kind z 1 j.found.here.content

      entry_in_range : is_node entry ≡ true
      entry_in_range = let r = node_ranges j.found.here (at_node j.file) in entry_fits j.found.here.kind z j.found.here.content r.content r.bare

      -- its node is the entry
      entry_is : filled_node f (row_at b i).here.content ≡ entry
      unfolding fresh_entry entry_node
      entry_is = rw (made, at_here j.file, ← q)

      -- its name is not used
      name_free : place_at j.top (entry_location j.filed) ≡ none
      unfolding entry_location parent last
      name_free = place_at_child j.top (in_rep j.filed.folder) j.filed.name j.stands.directory j.stands.above.there ∙ j.stands.roomed.free

      -- its row is that of the place
      entry_bytes : all_bytes row_bytes (place_rows k (last (entry_location j.filed)) (leaf entry))
          ≡ row_bytes (record { depth = k; name = name; here = filled_node f (row_at b i).here.content })
      unfolding entry_location parent last
      entry_bytes =
          let g = j.stands in
          let p = in_rep j.filed.folder in
          let n = j.filed.name in
          let x = leaf entry in
          let names = entry_parts j.filed valid in
          let whole = keep_put (by_modes j.account) j.top p g.directory n x g.above.tree.whole g.roomed.led g.roomed.enterable g.roomed.free names.0
          (leaf_place entry entry_in_range) (omega (arith, names.1, leaf_height entry)) (omega (arith, leaf_size entry, j.few)) in
          let a = at_index (encodes whole) (put_stands j.top p g.directory n x g.above.there name_free) in
          ap (λ (m : ℕ). all_bytes row_bytes (place_rows m n x)) g.level ∙ lone_bytes a (leaf_size entry)
          ∙ (λ m. row_bytes (record { depth = sym g.level m; name = sym named m; here = (leaf_here entry ∙ sym entry_is) m }))

      -- the row put in makes the tree of the steps
      pub add_law : {R b₂ : List ℕ} → R ≡ row_bytes (record { depth = k; name = name; here = filled_node f (row_at b i).here.content })
          → b₂ ≡ rows_put b₁ at 1 R → b₂ ≡ encode_tree (after_add j.top j.path j.filed z j.found)
      unfolding after_add entry_location parent last depth
      add_law {R} {b₂} r m =
          let g = j.stands in
          let p = in_rep j.filed.folder in
          let n = j.filed.name in
          let x = leaf entry in
          let d = still g.above in
          let X = all_bytes row_bytes (place_rows (suc (depth p)) n x) in
          let one : 1 ≡ suc (size x.below) = omega (arith, leaf_size entry) in
          let index : at ≡ suc (j.row + size (lesser n d.place.below)) = omega (arith, g.index, lesser_bare d.place g.directory d.shape n) in
          let there : R ≡ X ++ [] = r ∙ sym entry_bytes ∙ ap (λ (l : ℕ). all_bytes row_bytes (place_rows l n x)) g.level ∙ sym (append-nil X) in
          m ∙ ap (rows_put b₁ at 1) there ∙ ap (λ (c : ℕ). rows_put b₁ at c (X ++ [])) one ∙ ap (λ (l : ℕ). rows_put b₁ l (suc (size x.below)) (X ++ [])) index
          ∙ put_law d.at n x (unused_bare d.place g.directory d.shape n g.roomed.free) (entry_parts j.filed valid).0 (leaf_place entry entry_in_range)
          (omega (arith, encoded_count d.at.tree, as_many, j.few, leaf_size entry)) []
          ∙ ap encode_tree (put_altered j.top p n x j.path j.found (set_tag tag) name_free j.file.there)
