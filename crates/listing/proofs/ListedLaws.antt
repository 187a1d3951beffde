-- The listing has the line of each node of a tree, and no other line.
use Rattle.std.specs.Prelude.{◌≡◌, List, [], ◌∷◌, ◌++◌, ◌⊎◌}
use Rattle.std.proofs.Math.Path.{refl, sym, ap}
use Rattle.std.proofs.Common.{◌∙◌}
use Rattle.std.proofs.Math.Logic.{inl, inr}
use Rattle.std.proofs.Math.Option.{none, some}
use Rattle.std.proofs.Math.Bool.{true}
use Rattle.buffers.specs.Cases.{case}
use Rattle.buffers.specs.Text.{Text, same_text}
use Rattle.buffers.specs.TextLaws.{same_text_sound}
use Rattle.syntax.specs.Path.{Name, Path, root, ◌▹◌, has_names}
use Rattle.syntax.proofs.FormLaws.{no_answer, answered}
use Rattle.tree.specs.Forest.{Forest, Place, get, place_at}
use Rattle.tree.proofs.ForestLaws.{forest_induction, get_nil, get_first, get_other, found_first}
use Rattle.tree.proofs.UpdateLaws.{place_at_root, place_at_child, place_at_parent}
use Rattle.tree.specs.Node.{Node}
use Rattle.tree.specs.WellFormed.{is_forest, is_tree}
use Rattle.tree.proofs.WellFormedLaws.{place_parts, forest_parts, tree_parts, get_leads}
use Rattle.listing.specs.Listing.{node_line, forest_lines, listing}
use Rattle.listing.specs.ByteOrder.{line_path, In, LineOfNode}
use Rattle.listing.proofs.ByteOrderLaws.{line_begins, named}

-- ---- lines among lines

in_first : (l : Text) (k m : List Text) → In l k → In l (k ++ m)
in_first l (x ∷ k) m (inl e) = inl e
in_first l (x ∷ k) m (inr i) = inr (in_first l k m i)
in_first l [] m x' = elim x' [ ]

in_second : (l : Text) (k m : List Text) → In l m → In l (k ++ m)
in_second l [] m i = i
in_second l (x ∷ k) m i = inr (in_second l k m i)

in_either : (l : Text) (k m : List Text) → In l (k ++ m) → In l k ⊎ In l m
in_either l [] m i = inr i
in_either l (x ∷ k) m (inl e) = inl (inl e)
in_either l (x ∷ k) m (inr i) = elim (in_either l k m i) [
  | inl j ↦ inl (inr j)
  | inr j ↦ inr j
]

-- ---- each node has its line

-- the lines of a place at a path: its own and those below
abbrev place_lines : Path → Place Node → List Text
place_lines p d = node_line p d.here ∷ forest_lines p d.below

-- those of a child are among those of the forest
abbrev ChildsLines : Text → Path → Name → Place Node → Forest Node → Type 0
ChildsLines l p n d F = get n F ≡ some d → In l (place_lines (p ▹ n) d) → In l (forest_lines p F)

child_lines : (l : Text) (p : Path) (n : Name) (d : Place Node) (F : Forest Node) → ChildsLines l p n d F
unfolding forest_lines
child_lines l p n d = forest_induction (ChildsLines l p n d) (λ e i. no_answer (sym (get_nil n) ∙ e)) λ m x cs rest under beside e i. case (same_text n m)
    (λ t.
    in_first l (place_lines (p ▹ m) (record { here = x; below = cs })) (forest_lines p rest)
    (rw (found_first n m x cs rest d t e) at (rw (same_text_sound n m t) at i)))
    (λ t.
    in_second l (place_lines (p ▹ m) (record { here = x; below = cs })) (forest_lines p rest)
    (beside (sym (get_other n m x cs rest t) ∙ e) i))

module _ (t : Place Node) where
  -- those of a place are among those of the tree
  place_listed : (l : Text) (p : Path) (d : Place Node) → place_at t p ≡ some d → In l (place_lines p d) → In l (listing t)
  unfolding listing
  place_listed l root d e i = let s : d ≡ t = answered (sym (place_at_root t) ∙ e) in rw s at i
  place_listed l (p ▹ n) d e i =
      let (c, stands, child) = place_at_parent t p n d e in
      place_listed l p c stands (inr (child_lines l p n d c.below child i))

  -- the listing has the line of each node
  pub node_listed : (p : Path) (d : Place Node) → place_at t p ≡ some d → In (node_line p d.here) (listing t)
  node_listed p d e = place_listed (node_line p d.here) p d e (inl refl)

  -- ---- each line is a node's

  abbrev NodesLines : Text → Forest Node → Type 0
  NodesLines l F = (p : Path) → has_names p ≡ true → is_forest F ≡ true → ((m : Name) (d : Place Node) → get m F ≡ some d → place_at t (p ▹ m) ≡ some d)
      → In l (forest_lines p F) → LineOfNode t l

  -- of siblings: the first one's own line, one below it, or one of the others
  forest_line : (l : Text) (F : Forest Node) → NodesLines l F
  unfolding forest_lines
  forest_line l = forest_induction (NodesLines l) (λ p b h g i. absurd i) λ n x cs rest under beside p b h g i.
      let c : Place Node = record { here = x; below = cs } in
      let v = forest_parts n c rest h in
      let q : has_names (p ▹ n) ≡ true = named p n b v.name in
      let child = g n c (get_first n x cs rest) in
      elim i [
        | inl e ↦ record { path = p ▹ n; place = c; stands = child; line = e; begins = ap line_path e ∙ line_begins (p ▹ n) x q }
        | inr j ↦ elim (in_either l (forest_lines (p ▹ n) cs) (forest_lines p rest) j) [
          | inl j ↦ under (p ▹ n) q (place_parts c v.first).forest (λ m d k. place_at_child t (p ▹ n) m c child ∙ k) j
          | inr j ↦ beside p b v.others (λ m d k. g m d (case (same_text m n)
              (λ s. let z : none ≡ some d = sym (get_leads n rest v.others v.leading) ∙ ap (λ (r : Name). get r rest) (sym (same_text_sound m n s)) ∙ k in no_answer z)
              (λ s. get_other m n x cs rest s ∙ k))) j
        ]
      ]

  top_named : has_names root ≡ true
  unfolding has_names
  top_named = refl

  -- every line of a well-formed tree is that of a node which stands in it, and begins with the node's path
  pub listed_node : is_tree t ≡ true → (l : Text) → In l (listing t) → LineOfNode t l
  unfolding listing
  listed_node h l (inl e) = record { path = root; place = t; stands = place_at_root t; line = e; begins = ap line_path e ∙ line_begins root t.here top_named }
  listed_node h l (inr i) =
      forest_line l t.below root top_named (place_parts t (tree_parts t h).whole).forest (λ m d k. place_at_child t root m t (place_at_root t) ∙ k) i
