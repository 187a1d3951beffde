-- All of a node but its name, copied over another node of its kind.
--
-- In order: the two parts of a row around its name; each at the row of a place; both together.
use Rattle.std.specs.Prelude.{◌≡◌, List, [], ◌∷◌, ◌++◌, true, ℕ, length}
use Rattle.std.proofs.Math.Path.{refl}
use Rattle.std.proofs.Common.{sym, ◌∙◌, ap, ap₂, append_assoc, append-nil, arith, length-append}
use Rattle.std.proofs.Math.Option.{Option}
use Rattle.std.proofs.lemmas.List.{length-replicate}
use Rattle.buffers.specs.Text.{Text}
use Rattle.buffers.specs.Fields.{two_bytes, padded}
use Rattle.buffers.specs.FieldsLaws.{length_padded}
use Rattle.syntax.specs.Path.{Path, depth}
use Rattle.tree.specs.Layout.{kind_offset, behind_name_width, tag_offset, content_width, base_width}
use Rattle.tree.specs.Forest.{Place, update, alter}
use Rattle.tree.specs.Node.{Tag, Node, is_directory}
use Rattle.tree.proofs.NodeLaws.{node_ranges, node_of_ranges}
use Rattle.tree.specs.WellFormed.{is_node}
use Rattle.tree.proofs.WellFormedLaws.{place_node, place_below, tree_parts}
use Rattle.tree.proofs.AlterLaws.{alter_twice, altered_at, kept_part}
use Rattle.tree.specs.Encoding.{kind_byte, tag_bytes, row_bytes, encode_tree, row_head, row_spare}
use Rattle.tree.proofs.RowBytesLaws.{length_tag_bytes, row_parts}
use Rattle.tree.specs.TreeBytes.{At}
use Rattle.edits.specs.Changes.{field_bytes, field_put}
use Rattle.node_fields.specs.NodeCopy.{attributes_width, node_copied}
use Rattle.node_fields.specs.FieldEditLaws.{row_there, name_of, field_law, change_law, tag_fits_there, content_fits_there, length_before_tag, read_there, there_too}

-- ---- the two parts of a row around its name

-- kind, owner, group, mode and revision
abbrev attributes : Node → List ℕ
attributes x = kind_byte x.kind ∷ x.owner.0 ∷ x.group.0 ∷ (two_bytes x.mode ++ two_bytes x.revision)

-- tag and content, and the bytes that are spare
abbrev behind_name : Node → List ℕ
behind_name x = tag_bytes x.tag ++ (padded content_width x.content ++ row_spare)

-- the node n with the attributes of x, and with the tag and the content of x
abbrev set_attributes : Node → Node → Node
set_attributes x n = record {
  kind = x.kind;
  owner = x.owner;
  group = x.group;
  mode = x.mode;
  revision = x.revision;
  tag = n.tag;
  content = n.content;
}

abbrev set_behind_name : Node → Node → Node
set_behind_name x n = set_attributes n x

-- the attributes of a node of its kind keep a node in range
attributes_fit : (x n : Node) → is_node x ≡ true → is_node n ≡ true → x.kind ≡ n.kind → is_node (set_attributes x n) ≡ true
attributes_fit x n h k e =
    let a = node_ranges x h in
    let b = node_ranges n k in
    node_of_ranges (set_attributes x n) (record {
      owner = a.owner;
      group = a.group;
      mode = a.mode;
      gid = a.gid;
      revision = a.revision;
      tag = b.tag;
      content = b.content;
      bare = λ d. b.bare (ap is_directory (sym e) ∙ d);
    })

-- ---- each part at the row of a place

module _ {b : List ℕ} {t : Place Node} {p : Path} {i : ℕ} {d : Place Node} (a : At b t p i d) where
  node_there : is_node d.here ≡ true
  node_there = place_node d (place_below t p d (tree_parts t a.tree.whole).whole a.there)

  attributes_law : (x : Node) → field_put b i kind_offset (attributes x) ≡ encode_tree (update p (alter (set_attributes x)) t)
  unfolding row_bytes two_bytes
  attributes_law x = there_too a kind_offset (attributes x) (set_attributes x)
      (change_law t p d a.tree.whole a.there kind_offset (depth p ∷ []) (attributes d.here) _ refl refl (set_attributes x) (attributes x) refl refl)

  attributes_there : field_bytes b i kind_offset attributes_width ≡ attributes d.here
  unfolding row_bytes two_bytes
  attributes_there = read_there a kind_offset attributes_width (attributes d.here)
      (field_law t p d a.tree.whole a.there kind_offset (depth p ∷ []) (attributes d.here) _ refl refl)

  -- the bytes before the tag
  abbrev before_tag : Node → List ℕ
  before_tag x = row_head (row_there p x) ++ name_of (row_there p d.here)

  behind_name_parts : (x : Node) → row_bytes (row_there p x) ≡ before_tag x ++ (behind_name x ++ [])
  behind_name_parts x =
      let H = row_head (row_there p x) in
      let N = name_of (row_there p d.here) in
      row_parts (row_there p x)
      ∙ sym (append_assoc H N (behind_name x ++ []) ∙ ap (λ (l : List ℕ). H ++ (N ++ l)) (append-nil (behind_name x)))

  length_behind_name : length (behind_name d.here) ≡ behind_name_width
  length_behind_name =
      let T = tag_bytes d.here.tag in
      let C = padded content_width d.here.content in
      let l = length_tag_bytes d.here.tag (tag_fits_there t p d a.tree.whole a.there) in
      let m = length_padded content_width d.here.content (content_fits_there t p d a.tree.whole a.there) in
      length-append T (C ++ row_spare) ∙ omega (arith, length-append C row_spare, length-replicate {A = ℕ} base_width 0)

  behind_name_law : (x : Node) → length (behind_name x) ≡ behind_name_width → field_put b i tag_offset (behind_name x) ≡ encode_tree (update p (alter (set_behind_name x)) t)
  behind_name_law x l = there_too a tag_offset (behind_name x) (set_behind_name x)
      (change_law t p d a.tree.whole a.there tag_offset (before_tag d.here) (behind_name d.here) []
      (length_before_tag t p d a.tree.whole a.there d.here) (behind_name_parts d.here)
      (set_behind_name x) (behind_name x) (length_behind_name ∙ sym l) (behind_name_parts (set_behind_name x d.here)))

  behind_name_there : field_bytes b i tag_offset behind_name_width ≡ behind_name d.here
  behind_name_there = read_there a tag_offset behind_name_width (behind_name d.here)
      (ap (field_bytes (encode_tree t) _ tag_offset) (sym length_behind_name)
      ∙ field_law t p d a.tree.whole a.there tag_offset (before_tag d.here) (behind_name d.here) []
      (length_before_tag t p d a.tree.whole a.there d.here) (behind_name_parts d.here))

-- ---- the whole node

-- the place at p gets the node at q, and keeps its name and what is below it. What stands behind the name is read when the
-- attributes have been written, which leaves it.
pub node_law : {b : List ℕ} {t : Place Node} {p q : Path} {i j : ℕ} {d g : Place Node} → At b t q i d → At b t p j g → d.here.kind ≡ g.here.kind
    → node_copied b i j ≡ encode_tree (update p (alter (λ n. d.here)) t)
unfolding node_copied
node_law {b} {t} {p} {q} {i} {j} {d} {g} from to alike =
    let x = d.here in
    let b₁ = field_put b j kind_offset (field_bytes b i kind_offset attributes_width) in
    let first : b₁ ≡ encode_tree (update p (alter (set_attributes x)) t) = ap (field_put b j kind_offset) (attributes_there from) ∙ attributes_law to x in
    let own = attributes_fit x g.here (node_there from) (node_there to) alike in
    let source = altered_at from (set_attributes x) to.there own alike first in
    let target = altered_at to (set_attributes x) to.there own alike first in
    let stays : behind_name source.place.here ≡ behind_name x =
    ap₂ (λ (o : Option Tag) (c : Text). tag_bytes o ++ (padded content_width c ++ row_spare)) (kept_part source (λ n. n.tag) refl) (kept_part source (λ n. n.content) refl) in
    ap (field_put b₁ j tag_offset) (behind_name_there source.at ∙ stays)
    ∙ behind_name_law target.at x (ap length (sym stays) ∙ length_behind_name source.at)
    ∙ ap encode_tree (alter_twice p (set_behind_name x) (set_attributes x) t)
