-- The listing is in byte order of paths: `/` is less than every byte of a name, so what lies below a path comes behind it, and before
-- what lies below or at its next siblings.
use Rattle.std.specs.Prelude.{◌≡◌, List, [], ◌∷◌, ◌++◌, map, Bool, true, not, ℕ, ◌≤◌, ◌<◌, eqb, ltb, length}
use Rattle.std.proofs.Math.Path.{refl}
use Rattle.std.proofs.Common.{sym, ap, ◌∙◌, append_assoc, append-nil, arith, eq-eqb, lt-ltb, le-ltb, eqb-true, ltb-true, ltb-false, length-append}
use Rattle.std.proofs.lemmas.List.{map-append}
use Rattle.std.proofs.Math.Seq.{take-append_seam}
use Rattle.buffers.specs.Cases.{case, and_both, contra}
use Rattle.buffers.specs.Text.{Text, precedes, every, lacks}
use Rattle.buffers.specs.TextLaws.{every_append}
use Rattle.syntax.specs.Pieces.{bytes, comma, piece_length, joined}
use Rattle.syntax.specs.Path.{Name, Path, root, ◌▹◌, is_name, has_names, names_text, path_text}
use Rattle.syntax.proofs.PathLaws.{name_length, name_lacks}
use Rattle.tree.specs.Forest.{Forest, Place}
use Rattle.tree.proofs.ForestLaws.{forest_induction}
use Rattle.tree.specs.Node.{Node}
use Rattle.tree.specs.WellFormed.{leads, is_forest, is_tree}
use Rattle.tree.proofs.WellFormedLaws.{place_parts, forest_parts, tree_parts, leads_node, leads_before}
use Rattle.listing.specs.Listing.{node_line, forest_lines, listing}
use Rattle.listing.specs.ByteOrder.{line_path, increasing}

-- ---- what a line begins with

-- what stands before the first comma of a text that goes on with one
before_comma : (p t : Text) → lacks comma p ≡ true → piece_length comma (p ++ (comma ∷ t)) ≡ length p
unfolding piece_length lacks every comma
before_comma [] t h = refl
before_comma (c ∷ p) t h =
    let i : _ = and_both (not (eqb c 44)) (lacks 44 p) h in
    case (eqb c 44)
    (λ e. contra (rw e at i.0) refl)
    (λ e. rw (e, before_comma p t i.1))

names_lack : (p : Path) → has_names p ≡ true → lacks comma (names_text p) ≡ true
unfolding names_text has_names lacks every comma
names_lack root h = refl
names_lack (p ▹ n) h =
    let i : _ = and_both (has_names p) (is_name n) h in
    rw (every_append (λ c. not (eqb c 44)) (names_text p) (47 ∷ n), names_lack p i.0) (name_lacks 44 (omega arith) n i.1)

pub path_lacks : (p : Path) → has_names p ≡ true → lacks comma (path_text p) ≡ true
unfolding path_text
path_lacks root h = unfold lacks every comma bytes in refl
path_lacks (p ▹ n) h = names_lack (p ▹ n) h

-- a node's line begins with the text of its path
pub line_begins : (p : Path) (x : Node) → has_names p ≡ true → line_path (node_line p x) ≡ path_text p
unfolding line_path node_line joined
line_begins p x h = rw (before_comma (path_text p) _ (path_lacks p h)) (take-append_seam (path_text p) _)

-- ---- the order of texts

-- texts behind the same text are in order as they are
behind_same : (p s t : Text) → precedes (p ++ s) (p ++ t) ≡ precedes s t
unfolding precedes
behind_same [] s t = refl
behind_same (a ∷ p) s t = rw (le-ltb a a (omega arith), eq-eqb a a refl) (behind_same p s t)

-- a text precedes itself with more behind it
goes_on : (s : Text) (t : Text) → 1 ≤ length t → precedes s (s ++ t) ≡ true
unfolding precedes
goes_on [] [] h = let z : ⊥ = omega arith in absurd z
goes_on [] (b ∷ t) h = refl
goes_on (a ∷ s) t h = rw (le-ltb a a (omega arith), eq-eqb a a refl) (goes_on s t h)

-- nothing, or more names behind a `/`
abbrev ends : Text → Bool
ends [] = true
ends (b ∷ t) = eqb b 47

-- `/` is less than every byte of a name, so names in order, each with names behind it, are in order
names_in_order : (n m x y : Text) → ((c : ℕ) → c < 48 → lacks c m ≡ true) → ends x ≡ true → precedes n m ≡ true → precedes (n ++ x) (m ++ y) ≡ true
unfolding precedes lacks every
names_in_order [] [] x y h e b = contra {b = true} refl (sym b)
names_in_order [] (c ∷ m) [] y h e b = refl
names_in_order [] (c ∷ m) (d ∷ x) y h e b = case (ltb 47 c)
    (λ l. rw (lt-ltb d c (omega (arith, eqb-true d 47 e, ltb-true 47 c l))))
    (λ l.
    let i : _ = and_both (not (eqb c c)) (lacks c m) (h c (omega (arith, ltb-false 47 c l))) in
    contra i.0 (rw (eq-eqb c c refl)))
names_in_order (a ∷ n) [] x y h e b = contra {b = true} refl (sym b)
names_in_order (a ∷ n) (c ∷ m) x y h e b = case (ltb a c)
    (λ l. rw l)
    (λ l.
    let i : _ = and_both (eqb a c) (precedes n m) (rw l at b) in
    rw (l, i.0) (names_in_order n m x y (λ d k. (and_both (not (eqb c d)) (lacks d m) (h d k)).1) e i.1))

-- lists in order, each text of the one before all of the other
increasing_append : (k l : List Text) → increasing k ≡ true → increasing l ≡ true → every (λ s. every (precedes s) l) k ≡ true → increasing (k ++ l) ≡ true
unfolding increasing every
increasing_append [] l h i b = i
increasing_append (s ∷ k) l h i b =
    let u : _ = and_both (every (precedes s) k) (increasing k) h in
    let v : _ = and_both (every (precedes s) l) (every (λ s. every (precedes s) l) k) b in
    rw (every_append (precedes s) k l, u.0, v.0) (increasing_append k l u.1 i v.1)

-- ---- the order of lines

abbrev texts : Path → Forest Node → List Text
texts p F = map line_path (forest_lines p F)

-- a path with a name more
pub named : (p : Path) (n : Name) → has_names p ≡ true → is_name n ≡ true → has_names (p ▹ n) ≡ true
unfolding has_names
named p n h k = rw h k

-- a text behind a child's is one behind the child's name
text_below : (p : Path) (n : Name) (y : Text) → names_text (p ▹ n) ++ (47 ∷ y) ≡ names_text p ++ (47 ∷ (n ++ (47 ∷ y)))
unfolding names_text
text_below p n y = append_assoc (names_text p) (47 ∷ n) (47 ∷ y)

-- the path of a node's line is its parent's and its name; then come others
texts_node : (p : Path) (n : Name) (x : Node) (k l : List Text) → has_names (p ▹ n) ≡ true →
    map line_path (node_line (p ▹ n) x ∷ (k ++ l)) ≡ names_text (p ▹ n) ∷ (map line_path k ++ map line_path l)
unfolding path_text
texts_node p n x k l h = rw (line_begins (p ▹ n) x h, map-append line_path k l)

-- what a test says of all texts that go on behind a path it says of all below the path
abbrev AllBelow : (Text → Bool) → Forest Node → Type 0
AllBelow f F = (p : Path) → has_names p ≡ true → is_forest F ≡ true → ((x : Text) → 1 ≤ length x → f (names_text p ++ (47 ∷ x)) ≡ true) → every f (texts p F) ≡ true

below_all : (f : Text → Bool) (F : Forest Node) → AllBelow f F
unfolding every names_text forest_lines
below_all f = forest_induction (AllBelow f) (λ p h k g. refl) λ n x cs rest under beside p h k g.
    let v = forest_parts n (record { here = x; below = cs }) rest k in
    let q : has_names (p ▹ n) ≡ true = named p n h v.name in
    let below : (y : Text) → 1 ≤ length y → f (names_text (p ▹ n) ++ (47 ∷ y)) ≡ true = λ y l. rw (text_below p n y) (g (n ++ (47 ∷ y)) (omega (arith, length-append n (47 ∷ y)))) in
    ap (every f) (texts_node p n x (forest_lines (p ▹ n) cs) (forest_lines p rest) q)
    ∙ rw (
      g n (name_length n v.name).0,
      every_append f (texts (p ▹ n) cs) (texts p rest),
      under (p ▹ n) q (place_parts (record { here = x; below = cs }) v.first).forest below,
    )
    (beside p h v.others g)

-- a child, with what lies below it, comes before another whose name comes behind its own
child_before : (p : Path) (n m x y : Text) → ends x ≡ true → is_name m ≡ true → precedes n m ≡ true
    → precedes (names_text p ++ (47 ∷ (n ++ x))) (names_text p ++ (47 ∷ (m ++ y))) ≡ true
child_before p n m x y e k b =
    rw (behind_same (names_text p) (47 ∷ (n ++ x)) (47 ∷ (m ++ y)), behind_same (47 ∷ []) (n ++ x) (m ++ y))
    (names_in_order n m x y (λ c i. name_lacks c i m k) e b)

-- and before all siblings behind it
abbrev Behind : Path → Text → Text → Forest Node → Type 0
Behind p n x F = has_names p ≡ true → ends x ≡ true → is_forest F ≡ true → leads n F ≡ true → every (precedes (names_text p ++ (47 ∷ (n ++ x)))) (texts p F) ≡ true

before_siblings : (p : Path) (n x : Text) (F : Forest Node) → Behind p n x F
unfolding every names_text forest_lines
before_siblings p n x = forest_induction (Behind p n x) (λ h e k l. refl) λ m y cs rest under beside h e k l.
    let v = forest_parts m (record { here = y; below = cs }) rest k in
    let q : has_names (p ▹ m) ≡ true = named p m h v.name in
    let s : Text = names_text p ++ (47 ∷ (n ++ x)) in
    let b : precedes n m ≡ true = sym (leads_node n m y cs rest) ∙ l in
    let step : (z : Text) → precedes s (names_text p ++ (47 ∷ (m ++ z))) ≡ true = λ z. child_before p n m x z e v.name b in
    let here : precedes s (names_text p ++ (47 ∷ m)) ≡ true = rw (append-nil m) at (step []) in
    let below : (z : Text) → 1 ≤ length z → precedes s (names_text (p ▹ m) ++ (47 ∷ z)) ≡ true = λ z i. rw (text_below p m z) (step (47 ∷ z)) in
    ap (every (precedes s)) (texts_node p m y (forest_lines (p ▹ m) cs) (forest_lines p rest) q)
    ∙ rw (
      here,
      every_append (precedes s) (texts (p ▹ m) cs) (texts p rest),
      below_all (precedes s) cs (p ▹ m) q (place_parts (record { here = y; below = cs }) v.first).forest below,
    )
    (beside h e v.others (leads_before n m rest b v.leading))

-- the lines of a well-formed forest are in byte order of their paths
abbrev InOrder : Forest Node → Type 0
InOrder F = (p : Path) → has_names p ≡ true → is_forest F ≡ true → increasing (texts p F) ≡ true

forest_in_order : (F : Forest Node) → InOrder F
unfolding increasing names_text forest_lines
forest_in_order = forest_induction InOrder (λ p h k. refl) λ n x cs rest under beside p h k.
    let v = forest_parts n (record { here = x; below = cs }) rest k in
    let w = place_parts (record { here = x; below = cs }) v.first in
    let q : has_names (p ▹ n) ≡ true = named p n h v.name in
    let own : Text = names_text (p ▹ n) in
    let others : List Text = texts p rest in
    let behind : (y : Text) → ends y ≡ true → every (precedes (names_text p ++ (47 ∷ (n ++ y)))) others ≡ true = λ y e. before_siblings p n y rest h e v.others v.leading in
    let children : every (precedes own) (texts (p ▹ n) cs) ≡ true = below_all (precedes own) cs (p ▹ n) q w.forest (λ y l. goes_on own (47 ∷ y) (omega arith)) in
    let siblings : every (precedes own) others ≡ true = rw (append-nil n) at (behind [] refl) in
    let apart : every (λ s. every (precedes s) others) (texts (p ▹ n) cs) ≡ true = below_all (λ s. every (precedes s) others) cs (p ▹ n) q w.forest (λ y l. rw (text_below p n y) (behind (47 ∷ y) refl)) in
    ap increasing (texts_node p n x (forest_lines (p ▹ n) cs) (forest_lines p rest) q)
    ∙ rw (every_append (precedes own) (texts (p ▹ n) cs) others, children, siblings)
    (increasing_append (texts (p ▹ n) cs) others (under (p ▹ n) q w.forest) (beside p h v.others) apart)

-- the lines of a well-formed tree are in byte order of their paths, and no two have the same path
pub listing_in_byte_order : (t : Place Node) → is_tree t ≡ true → increasing (map line_path (listing t)) ≡ true
unfolding listing increasing
listing_in_byte_order t h =
    let w = place_parts t (tree_parts t h).whole in
    let q : has_names root ≡ true = unfold has_names in refl in
    let top : line_path (node_line root t.here) ≡ bytes "/" = line_begins root t.here q ∙ (unfold path_text in refl) in
    rw (top, below_all (precedes (bytes "/")) t.below root q w.forest (λ x l. unfold names_text bytes in goes_on (47 ∷ []) x l))
    (forest_in_order t.below root q w.forest)
