-- The listing has a line for each node and no other, and no line is longer than `longest_listing_line`; there are lines of that length.
use Rattle.std.specs.Prelude.{◌≡◌, List, [], ◌∷◌, Bool, true, ℕ, zero, suc, ◌+◌, ◌≤◌, leb, length, get_or}
use Rattle.std.proofs.Math.Path.{refl}
use Rattle.std.proofs.Common.{sym, ltb-true, leb-true, le-leb, length-append}
use Rattle.std.proofs.Math.Option.{Option, none, some}
use native.Mathlib.Omega.{arith}
use Rattle.std.proofs.Math.ListN.{get_elem?}
use Rattle.buffers.specs.Text.{Text, every}
use Rattle.buffers.specs.TextLaws.{every_append}
use Rattle.syntax.specs.Pieces.{bytes, comma, joined}
use Rattle.syntax.proofs.JoinedLaws.{joined_one, joined_more}
use Rattle.syntax.specs.Compute.{compute as compute_syntax}
use Rattle.syntax.specs.Number.{decimal_text, mode_text}
use Rattle.syntax.proofs.NumberLaws.{decimal_length, mode_length}
use Rattle.syntax.specs.Path.{Path, root, ◌▹◌, depth, most_names, has_names, is_path, path_text, entry_text, longest_entry_text}
use Rattle.syntax.proofs.PathLaws.{path_text_fits, entry_text_length, path_more}
use Rattle.syntax.proofs.FieldLaws.{content_length}
use Rattle.tree.specs.declared.Kind.{Kind}
use Rattle.tree.specs.declared.Kind.TheVariants.{File, Directory}
use Rattle.tree.specs.Forest.{Forest, Place, size, height}
use Rattle.tree.proofs.ForestLaws.{forest_induction, height_node}
use Rattle.tree.proofs.PlaceLaws.{nodes_below}
use Rattle.tree.proofs.SizeLaws.{size_nil, size_node}
use Rattle.tree.specs.LargestTrees.{deep}
use Rattle.tree.proofs.LargestTreesLaws.{deep_is_tree}
use Rattle.tree.specs.Node.{Tag, Node}
use Rattle.tree.proofs.NodeLaws.{last_revision_is, TagRange, node_ranges}
use Rattle.tree.specs.WellFormed.{last_revision, nodes, is_node, is_forest, is_tree}
use Rattle.tree.proofs.WellFormedLaws.{place_parts, forest_parts, tree_parts}
use Rattle.listing.specs.Listing.{kind_text, tag_fields, node_line, longest_listing_line, forest_lines, listing}

-- ---- how many lines

abbrev ALineEach : Forest Node → Type 0
ALineEach F = (p : Path) → length (forest_lines p F) ≡ size F

forest_length : (F : Forest Node) → ALineEach F
unfolding forest_lines
forest_length = forest_induction ALineEach (λ p. sym (size_nil Node)) λ n x cs rest below beside p.
    rw (length-append (forest_lines (p ▹ n) cs) (forest_lines p rest), below (p ▹ n), beside p, size_node n x cs rest)

-- there are as many lines as nodes
listing_length : (t : Place Node) → length (listing t) ≡ nodes t
unfolding listing
listing_length t = rw (forest_length t.below root, nodes_below t)

-- so at most 256
pub listing_few : (t : Place Node) → is_tree t ≡ true → length (listing t) ≤ 256
listing_few t h = rw (listing_length t) (tree_parts t h).few

-- ---- which lines there are

elem_past : {A : Type 0} (l : List A) (n : ℕ) → length l ≤ n → get_elem? l n ≡ none
elem_past [] n h = refl
elem_past (a ∷ l) zero h = let z : ⊥ = omega arith in absurd z
elem_past (a ∷ l) (suc n) h = elem_past l n (omega arith)

module _ (t : Place Node) (n : ℕ) where
  -- none for the number of the nodes and those above it
  pub no_line : nodes t ≤ n → get_elem? (listing t) n ≡ none
  no_line h = elem_past (listing t) n (omega (arith, listing_length t))

-- ---- how long a line is

kind_length : (k : Kind) → length (kind_text k) ≡ 1
unfolding kind_text bytes
kind_length File = refl
kind_length Directory = refl

revision_length : (v : ℕ) → leb v last_revision ≡ true → length (decimal_text v) ≤ 4
revision_length v h = decimal_length 3 v (omega (arith, leb-true v last_revision h, last_revision_is))

nine : (a b c d e f g h i : Text) → length (joined comma (a ∷ b ∷ c ∷ d ∷ e ∷ f ∷ g ∷ h ∷ i ∷ []))
    ≡ length a + length b + length c + length d + length e + length f + length g + length h + length i + 8
nine a b c d e f g h i = simp (joined_more, joined_one) (omega arith)

tag_lengths : (o : Option Tag) → ((t : Tag) → o ≡ some t → TagRange t) →
    (u v : Text) × (tag_fields o ≡ u ∷ v ∷ []) × (length u ≤ longest_entry_text) × (length v ≤ 4)
unfolding tag_fields
tag_lengths none h = (bytes "-", bytes "0", refl, unfold bytes in omega arith, unfold bytes in omega arith)
tag_lengths (some t) h =
    let r = h t refl in
    (entry_text t.path, decimal_text t.revision, refl, entry_text_length t.path r.0, revision_length t.revision r.1)

line_fits : (p : Path) (n : Node) → is_path p ≡ true → is_node n ≡ true → length (node_line p n) ≤ longest_listing_line
unfolding node_line longest_listing_line
line_fits p n h k =
    let r = node_ranges n k in
    let (u, v, e, a, b) = tag_lengths n.tag r.tag in
    rw (e, nine (path_text p) (kind_text n.kind) (decimal_text n.owner.0) (decimal_text n.group.0) (mode_text n.mode) (decimal_text n.revision) u v n.content)
    (omega (
      arith,
      (path_text_fits p h).0,
      kind_length n.kind,
      decimal_length 1 n.owner.0 (omega (arith, ltb-true n.owner.0 24 r.owner)),
      decimal_length 1 n.group.0 (omega (arith, ltb-true n.group.0 25 r.group)),
      mode_length n.mode,
      revision_length n.revision r.revision,
      content_length n.content r.content,
    ))

abbrev short : Text → Bool
short l = leb (length l) longest_listing_line

line_short : (p : Path) (n : Node) → is_path p ≡ true → is_node n ≡ true → short (node_line p n) ≡ true
line_short p n h k = le-leb (length (node_line p n)) longest_listing_line (line_fits p n h k)

abbrev ShortLines : Forest Node → Type 0
ShortLines F = (p : Path) → is_path p ≡ true → is_forest F ≡ true → depth p + height F ≤ 6 → every short (forest_lines p F) ≡ true

forest_fits : (F : Forest Node) → ShortLines F
unfolding forest_lines every
forest_fits = forest_induction ShortLines (λ p h k l. refl) λ n x cs rest below beside p h k l.
    let v = forest_parts n (record { here = x; below = cs }) rest k in
    let w = place_parts (record { here = x; below = cs }) v.first in
    let b = height_node n x cs rest in
    let q : is_path (p ▹ n) ≡ true = path_more p n h v.name (unfold depth in omega arith) in
    rw (
      line_short (p ▹ n) x q w.own,
      every_append short (forest_lines (p ▹ n) cs) (forest_lines p rest),
      below (p ▹ n) q w.forest (unfold depth in omega arith),
      beside p h v.others (omega arith),
    )

-- no line is longer than the longest
pub lines_fit : (t : Place Node) → is_tree t ≡ true → every (λ l. leb (length l) longest_listing_line) (listing t) ≡ true
unfolding listing every
lines_fit t h =
    let v = tree_parts t h in
    let w = place_parts t v.whole in
    let q : is_path root ≡ true = unfold is_path has_names depth most_names in refl in
    rw (line_short root t.here q w.own) (forest_fits t.below root q w.forest (unfold depth in omega (arith, v.low)))

-- and there is a line that long: that of the file at the end of a path of 6 names
pub listing_longest : (t : Place Node) × (is_tree t ≡ true) × (length (get_or (listing t) 6 []) ≡ longest_listing_line)
unfolding compute_syntax kind_text tag_fields node_line longest_listing_line forest_lines listing
listing_longest = (deep, deep_is_tree, refl)
