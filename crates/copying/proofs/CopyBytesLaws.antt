-- The bytes of a copy's row: the original's with its head, its name and its tag written over, and read back.
--
-- In order: the entry path of a child; a field of a row written (head-put, name-put, tag-put); a row read where it was written, and
-- those before it; what the code writes (bytes-copied to first-copied).
use Rattle.std.specs.Prelude.{◌≡◌, true, ℕ, suc, ◌+◌, ◌≤◌, ◌<◌}
use Rattle.std.proofs.Math.Path.{refl, sym, ap}
use Rattle.std.proofs.Common.{◌∙◌, length-drop, take-append-drop, take_all, take_at, drop_at}
use mathlib.Core.List.{List, [], ◌∷◌, ◌++◌, append_assoc}
use native.Mathlib.Omega.{arith}
use Rattle.std.proofs.Math.ListN.{length, take, drop, length-append}
use Rattle.std.proofs.lemmas.List.{length-replicate, drop-append-le, take-append-le}
use Rattle.std.proofs.Math.Seq.{paste, length-take-le}
use Rattle.buffers.specs.Text.{Text}
use Rattle.buffers.specs.Fields.{two_bytes, padded, text_at}
use Rattle.buffers.specs.FieldsLaws.{length_padded, text_at_padded, length_two_bytes}
use Rattle.accounts.specs.declared.Uid.{Uid}
use Rattle.accounts.specs.declared.Gid.{Gid}
use Rattle.syntax.specs.Path.{Name, ◌▹◌, EntryPath, depth, in_rep, entry_location, is_name, is_entry_path, names_text, path_text, entry_text, below_rep}
use Rattle.syntax.proofs.PathLaws.{path_more, entry_text_fits}
use Rattle.syntax.proofs.FieldLaws.{content_fits}
use Rattle.tree.specs.Layout.{row_width, row_start, name_width, tag_offset, tag_width, whole_tag_width, content_width, head_width, base_width}
use Rattle.tree.specs.Node.{Tag, Node, set_tag}
use Rattle.tree.specs.Rows.{Row}
use Rattle.tree.specs.Encoding.{tag_bytes, row_bytes, read_row, row_spare, row_head}
use Rattle.tree.proofs.RowBytesLaws.{regroup_tag, length_tag_bytes, node_parts, row_parts, length_row_head}
use Rattle.tree.specs.RowAt.{row_bytes_at, row_at, tag_text_at}
use Rattle.tree.specs.TreeBytes.{HasRow}
use Rattle.tree.proofs.RowAtLaws.{row_name_fits}
use Rattle.edits.specs.declared.Fresh.{Fresh}
use Rattle.edits.specs.Changes.{field_put, head_bytes}
use Rattle.node_fields.specs.FieldsWrittenLaws.{piece_put}
use Rattle.edits.specs.EncodedRowsLaws.{field_pieces}
use Rattle.copying.specs.declared.Copier.{Copier}
use Rattle.copying.specs.Copying.{copy_mode}
use Rattle.copying.specs.CopyRows.{most_levels, HoldsRow, row_put, child_entry, handed_over, handed_row, tagged_row, Spelled}

-- ---- the entry path of a child

child_text : (e : EntryPath) (n : Name) → entry_text (child_entry e n) ≡ entry_text e ++ (47 ∷ n)
unfolding entry_text path_text names_text entry_location in_rep below_rep child_entry
child_text e n = refl

pub child_depth : (e : EntryPath) (n : Name) → depth (entry_location (child_entry e n)) ≡ suc (depth (entry_location e))
unfolding entry_location in_rep below_rep child_entry depth
child_depth e n = refl

pub child_valid : (e : EntryPath) (n : Name) → is_entry_path e ≡ true → is_name n ≡ true → depth (entry_location e) < most_levels → is_entry_path (child_entry e n) ≡ true
unfolding is_entry_path entry_location in_rep below_rep child_entry depth
child_valid e n h k l = path_more (in_rep e.folder ▹ e.name) n h k (omega arith)

-- ---- a row written

regroup : (A P s Q D : List ℕ) → A ++ (P ++ (s ++ Q)) ++ D ≡ (A ++ P) ++ (s ++ (Q ++ D))
regroup A P s Q D = simp append_assoc

-- the pieces of a row, and what stands around them
paste_pieces : (o P s Q : List ℕ) (at : ℕ) → length (P ++ (s ++ Q)) ≡ row_width
    → paste o at (P ++ (s ++ Q)) row_width ≡ (take at o ++ P) ++ (s ++ (Q ++ drop (at + row_width) o))
paste_pieces o P s Q at l =
    ap (λ (x : List ℕ). take at o ++ x ++ drop (at + row_width) o) (take_all row_width (P ++ (s ++ Q)) (omega arith))
    ∙ regroup (take at o) P s Q (drop (at + row_width) o)

-- bytes written over others among them
piece_in_row : (o P old new Q : List ℕ) (to k : ℕ) → length P ≡ k → length old ≡ length new → length (P ++ (old ++ Q)) ≡ row_width → row_start to ≤ length o
    → field_put (paste o (row_start to) (P ++ (old ++ Q)) row_width) to k new ≡ paste o (row_start to) (P ++ (new ++ Q)) row_width
piece_in_row o P old new Q to k l e w h =
    let at = row_start to in
    let A = take at o ++ P in
    let B = Q ++ drop (at + row_width) o in
    let lA : length A ≡ at + k = length-append (take at o) P ∙ omega (arith, length-take-le at o h) in
    let v : length (P ++ (new ++ Q)) ≡ row_width =
    length-append P (new ++ Q) ∙ omega (arith, length-append new Q, length-append P (old ++ Q), length-append old Q) in
    ap (λ (s : List ℕ). field_put s to k new) (paste_pieces o P old Q at w) ∙ field_pieces A B old to k lA new e ∙ sym (paste_pieces o P new Q at v)

-- its fields take their widths
pub record Fitting (r : Row Node) : Type 0 where
  pub name : length r.name ≤ name_width
  pub tag : length (tag_bytes r.here.tag) ≡ whole_tag_width
  pub content : length r.here.content ≤ content_width

length_row : (H N T C : List ℕ) → length H ≡ head_width → length N ≡ name_width → length T ≡ whole_tag_width → length C ≡ content_width → length (H ++ (N ++ (T ++ (C ++ row_spare)))) ≡ row_width
length_row H N T C h n t c =
    length-append H (N ++ (T ++ (C ++ row_spare)))
    ∙ omega (arith, length-append N (T ++ (C ++ row_spare)), length-append T (C ++ row_spare), length-append C row_spare, length-replicate {A = ℕ} base_width 0)

pub length_fitting_row : (r : Row Node) → Fitting r → length (row_bytes r) ≡ row_width
length_fitting_row r f =
    ap length (row_parts r)
    ∙ length_row (row_head r) (padded name_width r.name) (tag_bytes r.here.tag) (padded content_width r.here.content)
    (length_row_head r) (length_padded name_width r.name f.name) f.tag (length_padded content_width r.here.content f.content)

-- a field written over in a row that was written
field_in_row : (o P old new Q : List ℕ) (to k : ℕ) (r u : Row Node) → row_bytes r ≡ P ++ (old ++ Q) → row_bytes u ≡ P ++ (new ++ Q)
    → length P ≡ k → length old ≡ length new → length (row_bytes r) ≡ row_width → row_start to ≤ length o → field_put (row_put o to r) to k new ≡ row_put o to u
field_in_row o P old new Q to k r u e f l q w h =
    ap (λ (s : List ℕ). field_put (paste o (row_start to) s row_width) to k new) e
    ∙ piece_in_row o P old new Q to k l q (ap length (sym e) ∙ w) h
    ∙ ap (λ (s : List ℕ). paste o (row_start to) s row_width) (sym f)

before_tag : (H N R : List ℕ) → H ++ (N ++ R) ≡ (H ++ N) ++ R
before_tag H N R = sym (append_assoc H N R)

-- a tag takes its bytes
length_tag : (t : Tag) → is_entry_path t.path ≡ true → length (padded tag_width (entry_text t.path) ++ two_bytes t.revision) ≡ whole_tag_width
length_tag t valid =
    length-append (padded tag_width (entry_text t.path)) (two_bytes t.revision)
    ∙ omega (arith, length_padded tag_width (entry_text t.path) (entry_text_fits t.path valid).0, length_two_bytes t.revision)

-- what is written before the name of a copy
abbrev fresh_copy : Uid → Gid → Node → Fresh
fresh_copy u g x = record { kind = x.kind; owner = u; group = g; mode = copy_mode x.kind; revision = 0 }

module _ (o : List ℕ) (to : ℕ) (r : Row Node) (f : Fitting r) (room : row_start to ≤ length o) where
  -- the head of a copy
  head_put : (k : ℕ) (u : Uid) (g : Gid) → paste (row_put o to r) (row_start to) (head_bytes k (fresh_copy u g r.here)) 8 ≡ row_put o to (handed_row k u g r)
  unfolding handed_row handed_over head_bytes two_bytes
  head_put k u g =
      let v = handed_row k u g r in
      let R = padded name_width r.name ++ (tag_bytes r.here.tag ++ (padded content_width r.here.content ++ row_spare)) in
      let q : row_start to ≡ row_start to + 0 = omega arith in
      ap (λ (at : ℕ). paste (row_put o to r) at (row_head v) 8) q ∙ piece_put (row_put o to r) to 0 (row_head v) 8 refl
      ∙ field_in_row o [] (row_head r) (row_head v) R to 0 r v (row_parts r) (row_parts v) refl refl (length_fitting_row r f) room

  -- another name
  name_put : (n : Name) → length n ≤ name_width → paste (row_put o to r) (row_start to + 8) (padded name_width n) 8 ≡ row_put o to (record { depth = r.depth; name = n; here = r.here })
  name_put n h =
      let v : Row Node = record { depth = r.depth; name = n; here = r.here } in
      let l = length_padded name_width n h in
      piece_put (row_put o to r) to 8 (padded name_width n) 8 l
      ∙ field_in_row o (row_head r) (padded name_width r.name) (padded name_width n) (tag_bytes r.here.tag ++ (padded content_width r.here.content ++ row_spare)) to 8 r v
      (row_parts r) (row_parts v) (length_row_head r) (length_padded name_width r.name f.name ∙ sym l) (length_fitting_row r f) room

  -- another tag
  tag_put : (t : Tag) → is_entry_path t.path ≡ true
      → field_put (row_put o to r) to tag_offset (padded tag_width (entry_text t.path) ++ two_bytes t.revision) ≡ row_put o to (record { depth = r.depth; name = r.name; here = set_tag t r.here })
  unfolding set_tag tag_bytes
  tag_put t valid =
      let v : Row Node = record { depth = r.depth; name = r.name; here = set_tag t r.here } in
      let H = row_head r in
      let N = padded name_width r.name in
      let R = padded content_width r.here.content ++ row_spare in
      let T = padded tag_width (entry_text t.path) ++ two_bytes t.revision in
      field_in_row o (H ++ N) (tag_bytes r.here.tag) T R to 16 r v
      (row_parts r ∙ before_tag H N (tag_bytes r.here.tag ++ R)) (row_parts v ∙ before_tag H N (T ++ R))
      (length-append H N ∙ omega (arith, length_row_head r, length_padded name_width r.name f.name)) (f.tag ∙ sym (length_tag t valid)) (length_fitting_row r f) room

-- ---- a row read

-- a row is read where it was written
row_there : (o B : List ℕ) (to : ℕ) → length B ≡ row_width → row_start to ≤ length o → row_bytes_at (paste o (row_start to) B row_width) to ≡ B
unfolding row_bytes_at
row_there o B to l h =
    let at = row_start to in
    let D = drop (at + row_width) o in
    let q : paste o at B row_width ≡ take at o ++ (B ++ D) =
    ap (λ (x : List ℕ). take at o ++ x ++ D) (take_all row_width B (omega arith)) ∙ append_assoc (take at o) B D in
    ap (λ (s : List ℕ). take row_width (drop at s)) q ∙ ap (take row_width) (drop_at (take at o) (B ++ D) at (length-take-le at o h)) ∙ take_at B D row_width l

-- a part of what stands in front
front_part : (A R : List ℕ) (k w : ℕ) → k + w ≤ length A → take w (drop k (A ++ R)) ≡ take w (drop k A)
front_part A R k w h =
    ap (take w) (drop-append-le k A R (omega arith)) ∙ take-append-le w (drop k A) R (omega (arith, length-drop k A))

module _ (o B : List ℕ) (n i to : ℕ) (h : i < to) (fits : row_start to ≤ length o) where
  -- what is written from a row on leaves those before
  row_beside : row_bytes_at (paste o (row_start to) B n) i ≡ row_bytes_at o i
  unfolding row_bytes_at
  row_beside =
      let at = row_start to in
      let A = take at o in
      let D = drop (at + n) o in
      let l = length-take-le at o fits in
      let k = row_start i in
      ap (λ (s : List ℕ). take row_width (drop k s)) (append_assoc A (take n B) D)
      ∙ front_part A (take n B ++ D) k row_width (omega arith)
      ∙ sym (front_part A (drop at o) k row_width (omega arith))
      ∙ ap (λ (s : List ℕ). take row_width (drop k s)) (take-append-drop at o)

  -- with their tags
  pub tag_beside : tag_text_at (paste o (row_start to) B n) i ≡ tag_text_at o i
  unfolding tag_text_at
  tag_beside = ap (text_at tag_offset tag_width) row_beside

  -- and depths
  pub depth_beside : (row_at (paste o (row_start to) B n) i).depth ≡ (row_at o i).depth
  unfolding row_at
  depth_beside = ap (λ (l : List ℕ). (read_row l).depth) row_beside

-- the depth is the first byte
pub depth_of_bytes : (r : Row Node) → (read_row (row_bytes r)).depth ≡ r.depth
unfolding read_row row_bytes two_bytes
depth_of_bytes r = refl

-- the row of a copy
module _ (w : Copier) (k : ℕ) (n : Name) (g : Gid) (e : EntryPath) (x : Node) where
  pub copy_fitting : length n ≤ name_width → length x.content ≤ content_width → is_entry_path e ≡ true → Fitting (tagged_row w k n g e x)
  unfolding tagged_row handed_over set_tag tag_bytes
  copy_fitting ln lc valid = record { name = ln; tag = length_tag (record { path = e; revision = x.revision }) valid; content = lc }

  -- its tag is read from it
  tag_of_copy : length n ≤ name_width → is_entry_path e ≡ true → text_at tag_offset tag_width (row_bytes (tagged_row w k n g e x)) ≡ entry_text e
  unfolding tagged_row handed_over set_tag tag_bytes
  tag_of_copy ln valid =
      let r = tagged_row w k n g e x in
      let H = row_head r in
      let N = padded name_width n in
      let P = padded tag_width (entry_text e) in
      let L = two_bytes x.revision in
      let R = padded content_width x.content ++ row_spare in
      let fit = entry_text_fits e valid in
      let l : length (H ++ N) ≡ 16 = length-append H N ∙ omega (arith, length_row_head r, length_padded name_width n ln) in
      ap (text_at tag_offset tag_width) (row_parts r ∙ regroup_tag H N P L R) ∙ text_at_padded (H ++ N) (L ++ R) tag_offset tag_width (entry_text e) l fit.0 fit.1

  module _ (o : List ℕ) (to : ℕ) (ln : length n ≤ name_width) (lc : length x.content ≤ content_width) (valid : is_entry_path e ≡ true) (room : row_start to ≤ length o) where
    -- and where it was written
    pub tag_there : tag_text_at (row_put o to (tagged_row w k n g e x)) to ≡ entry_text e
    unfolding tag_text_at
    tag_there =
        let r = tagged_row w k n g e x in
        ap (text_at tag_offset tag_width) (row_there o (row_bytes r) to (length_fitting_row r (copy_fitting ln lc valid)) room) ∙ tag_of_copy ln valid

    -- and so is its depth
    pub depth_there : (row_at (row_put o to (tagged_row w k n g e x)) to).depth ≡ k
    unfolding row_at tagged_row
    depth_there =
        let r = tagged_row w k n g e x in
        ap (λ (l : List ℕ). (read_row l).depth) (row_there o (row_bytes r) to (length_fitting_row r (copy_fitting ln lc valid)) room) ∙ depth_of_bytes r

-- ---- what the code writes

-- the tags before a row that is written stay
tag_stays : (o y : List ℕ) (above to : ℕ) (r : Row Node) → HasRow o to → above < to → y ≡ row_put o to r → tag_text_at y above ≡ tag_text_at o above
tag_stays o y above to r p h e = ap (λ (s : List ℕ). tag_text_at s above) e ∙ tag_beside o (row_bytes r) row_width above to h (omega (arith, p.room))

-- so there is room for that of a child
pub tag_room : (b o y : List ℕ) (at above to : ℕ) (r : Row Node) (name : Text) → HasRow o to → above < to → y ≡ row_put o to r → Spelled b at o above → name ≡ (row_at b at).name
    → length (tag_text_at y above) + length name < tag_width
tag_room b o y at above to r name p h e g q =
    let n = (row_at b at).name in
    let t = ap length (child_text g.entry n) ∙ length-append (entry_text g.entry) (47 ∷ n) in
    omega (arith, ap length (tag_stays o y above to r p h e ∙ g.spells), ap length q, (entry_text_fits (child_entry g.entry n) g.valid).0)

module _ (b : List ℕ) (at : ℕ) (h : HoldsRow b at) where
  -- the original's fields
  held_fitting : Fitting (row_at b at)
  held_fitting =
      let i = node_parts (row_at b at).here h.own in
      record {
        name = row_name_fits b at;
        tag = length_tag_bytes (row_at b at).here.tag i.0;
        content = (content_fits (row_at b at).here.content i.1).0;
      }

  -- its bytes are those of its row
  pub bytes_copied : (o : List ℕ) (to : ℕ) → paste o (row_start to) (drop (row_start at) b) row_width ≡ row_put o to (row_at b at)
  unfolding row_bytes_at
  bytes_copied o to =
      let r = row_at b at in
      ap (λ (s : List ℕ). take (row_start to) o ++ s ++ drop (row_start to + row_width) o) (h.bytes ∙ sym (take_all row_width (row_bytes r) (omega (arith, length_fitting_row r held_fitting))))

  module _ (o : List ℕ) (to : ℕ) (p : HasRow o to) where
    start_fits : row_start to ≤ length o
    start_fits = omega (arith, p.room)

    -- the head written over, with what was read of the original
    pub head_copied : (y z : List ℕ) (k : ℕ) (f : Fresh) → f.kind ≡ (row_at b at).here.kind → f.mode ≡ copy_mode f.kind → f.revision ≡ 0
        → y ≡ row_put o to (row_at b at) → z ≡ paste y (row_start to) (head_bytes k f) 8 → z ≡ row_put o to (handed_row k f.owner f.group (row_at b at))
    head_copied y z k f kind mode revision ey ez =
        let r = row_at b at in
        let q : f ≡ fresh_copy f.owner f.group r.here =
        λ i. record { kind = kind i; owner = f.owner; group = f.group; mode = (mode ∙ ap copy_mode kind) i; revision = revision i } in
        ez ∙ ap (λ (s : List ℕ). paste s (row_start to) (head_bytes k f) 8) ey ∙ ap (λ (g : Fresh). paste (row_put o to r) (row_start to) (head_bytes k g) 8) q
        ∙ head_put o to r held_fitting start_fits k f.owner f.group

    module _ (w : Copier) (k : ℕ) (g : Gid) (y : List ℕ) (ey : y ≡ row_put o to (handed_row k w.caller.account.uid g (row_at b at))) where
      handed_fitting : Fitting (handed_row k w.caller.account.uid g (row_at b at))
      unfolding handed_row handed_over
      handed_fitting = let f = held_fitting in record { name = f.name; tag = f.tag; content = f.content }

      -- the tag of a child, below that of another row
      pub child_copied : (z : List ℕ) (above revision : ℕ) (name : Text) (e : EntryPath) → name ≡ (row_at b at).name → revision ≡ (row_at b at).here.revision
          → tag_text_at o above ≡ entry_text e → above < to → is_entry_path (child_entry e (row_at b at).name) ≡ true
          → z ≡ field_put y to tag_offset (padded tag_width (tag_text_at y above ++ (47 ∷ name)) ++ two_bytes revision)
          → z ≡ row_put o to (tagged_row w k (row_at b at).name g (child_entry e (row_at b at).name) (row_at b at).here)
      unfolding handed_row tagged_row
      child_copied z above revision name e en ev text below valid ez =
          let r = row_at b at in
          let v = handed_row k w.caller.account.uid g r in
          let t : Tag = record { path = child_entry e r.name; revision = r.here.revision } in
          let kept = tag_stays o y above to v p below ey in
          let a : padded tag_width (tag_text_at y above ++ (47 ∷ name)) ++ two_bytes revision ≡ padded tag_width (entry_text t.path) ++ two_bytes t.revision =
          ap (λ (s : Text). padded tag_width (s ++ (47 ∷ name)) ++ two_bytes revision) (kept ∙ text)
          ∙ ap (λ (s : Text). padded tag_width (entry_text e ++ (47 ∷ s)) ++ two_bytes revision) en
          ∙ ap (λ (m : ℕ). padded tag_width (entry_text e ++ (47 ∷ r.name)) ++ two_bytes m) ev
          ∙ ap (λ (s : Text). padded tag_width s ++ two_bytes r.here.revision) (sym (child_text e r.name)) in
          ez ∙ ap (field_put y to tag_offset) a ∙ ap (λ (s : List ℕ). field_put s to tag_offset (padded tag_width (entry_text t.path) ++ two_bytes t.revision)) ey
          ∙ tag_put o to v handed_fitting start_fits t valid

      -- another name, and the tag of an entry
      pub first_copied : (x z : List ℕ) (n : Name) (path : Text) (revision : ℕ) (e : EntryPath) → length n ≤ name_width → path ≡ entry_text e → is_entry_path e ≡ true
          → revision ≡ (row_at b at).here.revision → x ≡ paste y (row_start to + 8) (padded name_width n) 8 → z ≡ field_put x to tag_offset (padded tag_width path ++ two_bytes revision)
          → z ≡ row_put o to (tagged_row w k n g e (row_at b at).here)
      unfolding handed_row tagged_row
      first_copied x z n path revision e ln text valid ev ex ez =
          let r = row_at b at in
          let v = handed_row k w.caller.account.uid g r in
          let m : Row Node = record { depth = k; name = n; here = handed_over w.caller.account.uid g r.here } in
          let f = handed_fitting in
          let t : Tag = record { path = e; revision = r.here.revision } in
          let named : x ≡ row_put o to m = ex ∙ ap (λ (s : List ℕ). paste s (row_start to + 8) (padded name_width n) 8) ey ∙ name_put o to v f start_fits n ln in
          ez ∙ ap (λ (s : Text). field_put x to tag_offset (padded tag_width s ++ two_bytes revision)) text
          ∙ ap (λ (i : ℕ). field_put x to tag_offset (padded tag_width (entry_text e) ++ two_bytes i)) ev
          ∙ ap (λ (s : List ℕ). field_put s to tag_offset (padded tag_width (entry_text e) ++ two_bytes r.here.revision)) named
          ∙ tag_put o to m (record { name = ln; tag = f.tag; content = f.content }) start_fits t valid
