-- Well-formed trees, forests and places by their parts, and the places of a well-formed tree.
use Rattle.std.specs.Prelude.{◌≡◌, refl, Bool, true, false, ◌&&◌, ◌||◌, ◌+◌, ◌≤◌, leb}
use Rattle.std.proofs.Math.Option.{none, some}
use Rattle.std.proofs.Common.{arith, leb-true, le-leb}
use Rattle.buffers.specs.Cases.{case, and_both, contra}
use Rattle.buffers.specs.Text.{same_text, precedes}
use Rattle.buffers.specs.TextLaws.{precedes_trans, precedes_differ}
use Rattle.accounts.specs.declared.Account.{Account}
use Rattle.syntax.specs.Path.{Name, Path, root, ◌▹◌, depth, is_name, most_names}
use Rattle.syntax.proofs.FormLaws.{no_answer, answered}
use Rattle.tree.specs.Result.{done}
use Rattle.tree.specs.Forest.{Forest, nil, node, Place, get, is_empty, leaf, size, height, place_at}
use Rattle.tree.specs.Node.{is_directory, Node}
use Rattle.tree.specs.Walk.{Judge, by_modes, enter, walk}
use Rattle.tree.proofs.StepLaws.{entered}
use Rattle.tree.proofs.JudgeLaws.{kind_by_modes}
use Rattle.tree.specs.WellFormed.{most_nodes, nodes, is_node, leads, is_forest, is_place, is_tree}
use Rattle.tree.proofs.UpdateLaws.{place_at_parent, walked_at, height_below}

-- ---- parts

-- of a well-formed place
pub record PlaceParts (d : Place Node) : Type 0 where
  pub own : is_node d.here ≡ true
  pub childless : is_directory d.here.kind ≡ false → is_empty d.below ≡ true
  pub forest : is_forest d.below ≡ true

-- of a well-formed forest that begins with the place e named n
pub record ForestParts (n : Name) (e : Place Node) (rest : Forest Node) : Type 0 where
  pub name : is_name n ≡ true
  pub first : is_place e ≡ true
  pub leading : leads n rest ≡ true
  pub others : is_forest rest ≡ true

-- of a well-formed tree
pub record TreeParts (t : Place Node) : Type 0 where
  pub directory : is_directory t.here.kind ≡ true
  pub whole : is_place t ≡ true
  pub low : height t.below ≤ 6
  pub few : nodes t ≤ 256

-- how many nodes a tree may have
pub most_nodes_is : most_nodes ≡ 256
unfolding most_nodes
most_nodes_is = refl

or_else : (a b : Bool) → (a ≡ false → b ≡ true) → (a || b) ≡ true
or_else true b h = refl
or_else false b h = h refl

-- a well-formed place has these parts
pub place_parts : (d : Place Node) → is_place d ≡ true → PlaceParts d
unfolding is_place
place_parts d h =
    let i = and_both (is_node d.here && (is_directory d.here.kind || is_empty d.below)) (is_forest d.below) h in
    let j = and_both (is_node d.here) (is_directory d.here.kind || is_empty d.below) i.0 in
    record { own = j.0; childless = λ f. rw f at j.1; forest = i.1 }

-- and with these parts is well-formed
pub place_of_parts : (d : Place Node) → PlaceParts d → is_place d ≡ true
unfolding is_place
place_of_parts d v = rw (v.own, or_else (is_directory d.here.kind) (is_empty d.below) v.childless) v.forest

module _ (n : Name) (e : Place Node) (rest : Forest Node) where
  -- a well-formed forest has these parts
  pub forest_parts : is_forest (node n e.here e.below rest) ≡ true → ForestParts n e rest
  unfolding is_forest
  forest_parts h =
      let x = is_directory e.here.kind || is_empty e.below in
      let i = and_both ((is_name n && is_node e.here) && x) (is_forest e.below && (leads n rest && is_forest rest)) h in
      let j = and_both (is_name n && is_node e.here) x i.0 in
      let k = and_both (is_name n) (is_node e.here) j.0 in
      let l = and_both (is_forest e.below) (leads n rest && is_forest rest) i.1 in
      let m = and_both (leads n rest) (is_forest rest) l.1 in
      record {
        name = k.0;
        first = place_of_parts e (record { own = k.1; childless = λ f. rw f at j.1; forest = l.0 });
        leading = m.0;
        others = m.1;
      }

  -- and with these parts is well-formed
  pub forest_of_parts : ForestParts n e rest → is_forest (node n e.here e.below rest) ≡ true
  unfolding is_forest
  forest_of_parts v =
      let w = place_parts e v.first in
      rw (v.name, w.own, or_else (is_directory e.here.kind) (is_empty e.below) w.childless, w.forest, v.leading) v.others

-- a well-formed tree has these parts
pub tree_parts : (t : Place Node) → is_tree t ≡ true → TreeParts t
unfolding is_tree most_names most_nodes
tree_parts t h =
    let own = is_node t.here && is_forest t.below in
    let i = and_both (is_directory t.here.kind && own) (leb (height t.below) 6 && leb (nodes t) 256) h in
    let j = and_both (is_directory t.here.kind) own i.0 in
    let k = and_both (is_node t.here) (is_forest t.below) j.1 in
    let l = and_both (leb (height t.below) 6) (leb (nodes t) 256) i.1 in
    record {
      directory = j.0;
      whole = place_of_parts t (record { own = k.0; childless = λ f. contra j.0 f; forest = k.1 });
      low = leb-true (height t.below) 6 l.0;
      few = leb-true (nodes t) 256 l.1;
    }

-- and with these parts is well-formed
pub tree_of_parts : (t : Place Node) → TreeParts t → is_tree t ≡ true
unfolding is_tree most_names most_nodes
tree_of_parts t v =
    let w = place_parts t v.whole in
    rw (v.directory, w.own, w.forest, le-leb (height t.below) 6 v.low, le-leb (nodes t) 256 v.few)

-- the empty forest is well-formed
pub forest_nil : is_forest nil ≡ true
unfolding is_forest
forest_nil = refl

-- ---- the order of siblings

-- a name leads where there is no sibling
pub leads_nil : (n : Name) → leads {A = Node} n nil ≡ true
unfolding leads
leads_nil n = refl

-- and where it precedes the first
pub leads_node : (n m : Name) (x : Node) (cs rest : Forest Node) → leads n (node m x cs rest) ≡ precedes n m
unfolding leads
leads_node n m x cs rest = refl

-- a name before another comes before all siblings of the other
pub leads_before : (m n : Name) (F : Forest Node) → precedes m n ≡ true → leads n F ≡ true → leads m F ≡ true
unfolding leads
leads_before m n nil b h = refl
leads_before m n (node k y cs rest) b h = precedes_trans m n k b h

-- it is none of theirs
pub get_leads : (n : Name) (F : Forest Node) → is_forest F ≡ true → leads n F ≡ true → get n F ≡ none
unfolding get leads
get_leads n nil h b = refl
get_leads n (node k y cs rest) h b =
    let v = forest_parts k (record { here = y; below = cs }) rest h in
    rw (precedes_differ n k b) (get_leads n rest v.others (leads_before n k rest b v.leading))

-- ---- places

-- the node of a well-formed place is in range
pub place_node : (d : Place Node) → is_place d ≡ true → is_node d.here ≡ true
place_node d h = (place_parts d h).own

-- the top of a well-formed tree is a directory
pub top_directory : (t : Place Node) → is_tree t ≡ true → is_directory t.here.kind ≡ true
top_directory t h = (tree_parts t h).directory

-- a node in range is a well-formed place without children
pub leaf_place : (n : Node) → is_node n ≡ true → is_place (leaf n) ≡ true
unfolding leaf is_empty is_forest
leaf_place n h = place_of_parts (leaf n) (record { own = h; childless = λ f. refl; forest = refl })

-- and a directory in range is a well-formed tree without children
pub leaf_tree : (n : Node) → is_node n ≡ true → is_directory n.kind ≡ true → is_tree (leaf n) ≡ true
unfolding leaf nodes size height
leaf_tree n h d = tree_of_parts (leaf n) (record { directory = d; whole = leaf_place n h; low = omega arith; few = omega arith })

-- what an account enters by modes is a directory
pub entered_directory : (a : Account) (n : Node) → enter (by_modes a) n ≡ done tt → is_directory n.kind ≡ true
entered_directory a n e = rw (kind_by_modes a n) at (entered (by_modes a) n e).0

-- a child in a well-formed forest is well-formed
get_place : (n : Name) (F : Forest Node) (d : Place Node) → is_forest F ≡ true → get n F ≡ some d → is_place d ≡ true
unfolding get
get_place n nil d h e = no_answer e
get_place n (node k y cs rest) d h e =
    let c : Place Node = record { here = y; below = cs } in
    let v = forest_parts k c rest h in
    case (same_text n k)
    (λ t. let q : some c ≡ some d = rw t at e in rw (answered q) v.first)
    (λ t. get_place n rest d v.others (rw t at e))

-- a place below a well-formed one is well-formed
pub place_below : (t : Place Node) (p : Path) (d : Place Node) → is_place t ≡ true → place_at t p ≡ some d → is_place d ≡ true
unfolding place_at
place_below t root d h e = rw (answered e) h
place_below t (p ▹ n) d h e =
    let i = place_at_parent t p n d e in
    get_place n i.0.below d (place_parts i.0 (place_below t p i.0 h i.1)).forest i.2

-- a walk in a well-formed tree leads to a well-formed place
pub walked_place : (j : Judge Node) (t : Place Node) (p : Path) (d : Place Node) → is_tree t ≡ true → walk j t p ≡ done d → is_place d ≡ true
walked_place j t p d h e = place_below t p d (tree_parts t h).whole (walked_at t j p d e)

-- the paths below a place that a walk leads to are within the tree's 6 names
pub walked_depth : (j : Judge Node) (t : Place Node) (p : Path) (d : Place Node) → is_tree t ≡ true → walk j t p ≡ done d
    → depth p + height d.below ≤ 6
walked_depth j t p d h e = omega (arith, height_below t p d (walked_at t j p d e), (tree_parts t h).low)
