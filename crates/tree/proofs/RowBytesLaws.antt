-- The bytes of one row: tags and whole rows are read back from their bytes.
use Rattle.std.specs.Prelude.{◌≡◌, true, ◌&&◌, leb, ltb, length}
use Rattle.std.proofs.Math.Path.{refl, ap}
use Rattle.std.proofs.Common.{sym, ◌∙◌}
use mathlib.Core.List.{List, [], ◌∷◌, ◌++◌, append_assoc}
use Rattle.std.proofs.Math.Option.{Option, none, some}
use Prim.Native.Nat.{ℕ, ◌+◌, ◌≤◌}
use native.Mathlib.Omega.{arith}
use Rattle.std.proofs.Math.ListN.{replicate, length-append}
use Rattle.buffers.specs.Cases.{and_both}
use Rattle.buffers.specs.Text.{Text, same_text, every, lacks}
use Rattle.buffers.specs.Fields.{two_bytes, number_at, padded, text_at}
use Rattle.buffers.specs.FieldsLaws.{length_padded, text_at_padded, number_at_bytes}
use Rattle.syntax.specs.Pieces.{bytes, pieces}
use Rattle.syntax.specs.Form.{◌>>=◌, ◌>>◌, check}
use Rattle.syntax.specs.Number.{is_mode}
use Rattle.syntax.specs.Path.{is_entry_path, names_from_top, path, entry_path, entry_text}
use Rattle.syntax.proofs.PathLaws.{entry_of_text, entry_text_fits}
use Rattle.syntax.specs.Field.{is_content}
use Rattle.syntax.proofs.FieldLaws.{content_fits}
use Rattle.tree.specs.declared.Kind.{Kind}
use Rattle.tree.specs.declared.Kind.TheVariants.{File, Directory}
use Rattle.tree.specs.Layout.{row_width, mode_offset, revision_offset, name_offset, name_width, tag_offset, tag_width, tag_revision_offset, content_offset, content_width, whole_tag_width, base_width}
use Rattle.tree.specs.Node.{Tag, Node}
use Rattle.tree.specs.Rows.{Row}
use Rattle.tree.specs.WellFormed.{last_revision, is_tag, fits_kind, is_node}
use Rattle.tree.specs.Encoding.{kind_byte, kind_of, tag_bytes, tag_of, TagTold, told_none, told_tag, row_bytes, read_row, row_head, row_spare}

-- the pieces of a row: what stands before its name, its name, tag and content, and what is spare
pub row_parts : (r : Row Node)
    → row_bytes r ≡ row_head r ++ (padded name_width r.name ++ (tag_bytes r.here.tag ++ (padded content_width r.here.content ++ row_spare)))
unfolding row_bytes two_bytes
row_parts r = refl

pub length_row_head : (r : Row Node) → length (row_head r) ≡ 8
unfolding two_bytes
length_row_head r = refl

-- a tag's text and number, for no tag those of zero bytes
tag_text : Option Tag → Text
tag_text none = []
tag_text (some t) = entry_text t.path

tag_number : Option Tag → ℕ
tag_number none = 0
tag_number (some t) = t.revision

tag_parts : (o : Option Tag) → tag_bytes o ≡ padded tag_width (tag_text o) ++ two_bytes (tag_number o)
unfolding tag_bytes tag_text tag_number padded two_bytes
tag_parts none = refl
tag_parts (some t) = refl

tag_fits : (o : Option Tag) → is_tag o ≡ true → (length (tag_text o) ≤ tag_width) × (lacks 0 (tag_text o) ≡ true)
unfolding is_tag tag_text lacks every
tag_fits none h = (omega arith, refl)
tag_fits (some t) h = entry_text_fits t.path (and_both (is_entry_path t.path) (leb t.revision last_revision) h).0

-- nothing is no entry path
pub no_entry : entry_path [] ≡ none
unfolding entry_path path same_text bytes pieces names_from_top every check ◌>>◌ ◌>>=◌
no_entry = refl

tag_of_parts : (o : Option Tag) → is_tag o ≡ true → tag_of (tag_text o) (tag_number o) ≡ o
unfolding is_tag tag_of tag_text tag_number ◌>>=◌
tag_of_parts none h = rw no_entry
tag_of_parts (some t) h =
    rw (entry_of_text t.path (and_both (is_entry_path t.path) (leb t.revision last_revision) h).0)

-- the parts of a row before its tag's path gathered
pub regroup_tag : (h n t v q : List ℕ) → h ++ (n ++ ((t ++ v) ++ q)) ≡ (h ++ n) ++ (t ++ (v ++ q))
regroup_tag h n t v q = simp append_assoc

-- those before its content
pub before_content : (h n t q : List ℕ) → h ++ (n ++ (t ++ q)) ≡ (h ++ (n ++ t)) ++ q
before_content h n t q = simp append_assoc

-- a tag takes its path's width and two bytes
pub length_tag_bytes : (o : Option Tag) → is_tag o ≡ true → length (tag_bytes o) ≡ whole_tag_width
unfolding two_bytes
length_tag_bytes o h =
    let l = length_padded tag_width (tag_text o) (tag_fits o h).0 in
    ap length (tag_parts o) ∙ length-append (padded tag_width (tag_text o)) (two_bytes (tag_number o)) ∙ omega arith

module _ (P Q : List ℕ) (i : ℕ) (o : Option Tag) (e : length P ≡ i) (h : is_tag o ≡ true) where
  -- its text and its number are read where they stand
  tag_parts_at : (text_at i tag_width (P ++ (tag_bytes o ++ Q)) ≡ tag_text o) × (number_at (i + tag_width) (P ++ (tag_bytes o ++ Q)) ≡ tag_number o)
  tag_parts_at =
      let T = padded tag_width (tag_text o) in
      let N = two_bytes (tag_number o) in
      let w = tag_fits o h in
      let s : P ++ (tag_bytes o ++ Q) ≡ P ++ (T ++ (N ++ Q)) = ap (λ (l : List ℕ). P ++ (l ++ Q)) (tag_parts o) ∙ ap (λ (l : List ℕ). P ++ l) (append_assoc T N Q) in
      let a : text_at i tag_width (P ++ (T ++ (N ++ Q))) ≡ tag_text o = text_at_padded P (N ++ Q) i tag_width (tag_text o) e w.0 w.1 in
      let b : number_at (i + tag_width) (P ++ (T ++ (N ++ Q))) ≡ tag_number o =
      rw (← append_assoc P T (N ++ Q))
      (number_at_bytes (P ++ T) Q (i + tag_width) (tag_number o) (length-append P T ∙ omega (arith, length_padded tag_width (tag_text o) w.0))) in
      (rw s a, rw s b)

  -- and so is the tag
  tag_at_bytes : tag_of (text_at i tag_width (P ++ (tag_bytes o ++ Q))) (number_at (i + tag_width) (P ++ (tag_bytes o ++ Q))) ≡ o
  tag_at_bytes = let v = tag_parts_at in rw (v.0, v.1) (tag_of_parts o h)

tag_told : (o : Option Tag) → TagTold o (tag_text o) (tag_number o)
unfolding tag_text tag_number
tag_told none = told_none
tag_told (some t) = told_tag t

-- where there is no tag, the text is empty
pub untagged_text : (r : Row Node) → length r.name ≤ 8 → r.here.tag ≡ none → text_at tag_offset tag_width (row_bytes r) ≡ []
unfolding tag_text tag_number lacks every
untagged_text r l e =
    let N = padded name_width r.name in
    let Q = padded content_width r.here.content ++ row_spare in
    let parts : row_bytes r ≡ (row_head r ++ N) ++ (padded tag_width [] ++ (two_bytes 0 ++ Q)) =
    row_parts r ∙ ap (λ (o : Option Tag). row_head r ++ (N ++ (tag_bytes o ++ Q))) e ∙ ap (λ (x : List ℕ). row_head r ++ (N ++ (x ++ Q))) (tag_parts none)
    ∙ regroup_tag (row_head r) N (padded tag_width []) (two_bytes 0) Q in
    ap (text_at tag_offset tag_width) parts
    ∙ text_at_padded (row_head r ++ N) (two_bytes 0 ++ Q) tag_offset tag_width [] (length-append (row_head r) N ∙ omega (arith, length_row_head r, length_padded name_width r.name l)) (omega arith) refl

-- a kind is read from its byte
kind_of_byte : (k : Kind) → kind_of (kind_byte k) ≡ k
unfolding kind_of kind_byte
kind_of_byte File = refl
kind_of_byte Directory = refl

-- a node's tag and content are in range
pub node_parts : (n : Node) → is_node n ≡ true → (is_tag n.tag ≡ true) × (is_content n.content ≡ true)
unfolding is_node
node_parts n h =
    let numbers = (ltb n.owner.0 24 && ltb n.group.0 25) && (is_mode n.mode && leb n.revision last_revision) in
    let k = fits_kind n.kind n.mode n.content in
    let i = and_both numbers (is_tag n.tag && (is_content n.content && k)) h in
    let j = and_both (is_tag n.tag) (is_content n.content && k) i.1 in
    (j.0, (and_both (is_content n.content) k j.1).0)

module _ (r : Row Node) (h : is_node r.here ≡ true) (w : (length r.name ≤ 8) × (lacks 0 r.name ≡ true)) where
  -- a row takes its width
  pub length_row_bytes : length (row_bytes r) ≡ row_width
  unfolding row_bytes two_bytes
  length_row_bytes =
      let n = r.here in
      let i = node_parts n h in
      let N = padded name_width r.name in
      let T = tag_bytes n.tag in
      let C = padded content_width n.content in
      let Z : List ℕ = replicate base_width 0 in
      let a = length-append N (T ++ (C ++ Z)) in
      let b = length-append T (C ++ Z) in
      let c = length-append C Z in
      let x = length_padded name_width r.name w.0 in
      let y = length_tag_bytes n.tag i.0 in
      let z = length_padded content_width n.content (content_fits n.content i.1).0 in
      omega arith

  -- its tag stands in them as text and number
  pub tag_in_bytes : TagTold r.here.tag (text_at tag_offset tag_width (row_bytes r)) (number_at tag_revision_offset (row_bytes r))
  unfolding row_bytes two_bytes
  tag_in_bytes =
      let n = r.here in
      let N = padded name_width r.name in
      let C = padded content_width n.content in
      let Z : List ℕ = replicate base_width 0 in
      let H : List ℕ = (r.depth ∷ kind_byte n.kind ∷ n.owner.0 ∷ n.group.0 ∷ []) ++ (two_bytes n.mode ++ two_bytes n.revision) in
      let l = length_padded name_width r.name w.0 in
      let v = tag_parts_at (H ++ N) (C ++ Z) 16 n.tag (length-append H N ∙ omega arith) (node_parts n h).0 in
      rw (v.0, v.1) (tag_told n.tag)

  -- and it is read back from them
  pub row_of_bytes : read_row (row_bytes r) ≡ r
  unfolding read_row row_bytes two_bytes
  row_of_bytes =
      let n = r.here in
      let i = node_parts n h in
      let f = content_fits n.content i.1 in
      let D : List ℕ = r.depth ∷ kind_byte n.kind ∷ n.owner.0 ∷ n.group.0 ∷ [] in
      let M = two_bytes n.mode in
      let L = two_bytes n.revision in
      let N = padded name_width r.name in
      let T = tag_bytes n.tag in
      let C = padded content_width n.content in
      let Z : List ℕ = replicate base_width 0 in
      let H : List ℕ = D ++ (M ++ L) in
      let mode : number_at mode_offset (row_bytes r) ≡ n.mode = number_at_bytes D (L ++ (N ++ (T ++ (C ++ Z)))) 4 n.mode refl in
      let revision : number_at revision_offset (row_bytes r) ≡ n.revision = number_at_bytes (D ++ M) (N ++ (T ++ (C ++ Z))) 6 n.revision refl in
      let name : text_at name_offset name_width (row_bytes r) ≡ r.name = text_at_padded H (T ++ (C ++ Z)) 8 8 r.name refl w.0 w.1 in
      let l = length_padded name_width r.name w.0 in
      let tag : tag_of (text_at tag_offset tag_width (row_bytes r)) (number_at tag_revision_offset (row_bytes r)) ≡ n.tag =
      tag_at_bytes (H ++ N) (C ++ Z) 16 n.tag (length-append H N ∙ omega arith) i.0 in
      let m = length_tag_bytes n.tag i.0 in
      let content : text_at content_offset content_width (row_bytes r) ≡ n.content =
      ap (λ (rest : List ℕ). text_at content_offset content_width (H ++ rest)) (sym (append_assoc N T (C ++ Z)))
      ∙ text_at_padded (H ++ (N ++ T)) Z content_offset content_width n.content (length-append H (N ++ T) ∙ omega (arith, length-append N T)) f.0 f.1 in
      λ j. record {
        depth = r.depth;
        name = name j;
        here = record {
          kind = kind_of_byte n.kind j;
          owner = n.owner;
          group = n.group;
          mode = mode j;
          revision = revision j;
          tag = tag j;
          content = content j;
        };
      }
