-- The changes of a well-formed tree keep it well-formed: an attribute altered, a place put in, taken out or moved.
use Rattle.std.specs.Prelude.{◌≡◌, refl, true, false, suc, ◌+◌, ◌-◌, ◌≤◌}
use Rattle.std.proofs.Common.{sym, ◌∙◌, ap, arith}
use Rattle.std.proofs.Math.Option.{none, some}
use Rattle.buffers.specs.Cases.{case, contra}
use Rattle.buffers.specs.Text.{same_text, precedes}
use Rattle.buffers.specs.TextLaws.{same_text_sound, precedes_total}
use Rattle.syntax.specs.Path.{Name, Path, root, ◌▹◌, is_name, depth}
use Rattle.syntax.proofs.FormLaws.{no_answer, answered}
use Rattle.tree.specs.Result.{done}
use Rattle.tree.specs.Forest.{Forest, nil, node, Place, get, is_empty, insert, remove, at, under, update, alter, put, drop, size, height, place_at}
use Rattle.tree.proofs.ForestLaws.{empty_at, size_insert, height_insert, empty_remove, size_remove, height_remove}
use Rattle.tree.specs.Node.{is_directory, Node}
use Rattle.tree.specs.Walk.{Judge, walk}
use Rattle.tree.specs.WellFormed.{nodes, is_node, leads, is_forest, is_place, is_tree}
use Rattle.tree.proofs.UpdateLaws.{by_option, place_at_root, place_at_child, place_at_parent, walked_at, height_below, update_none, here_update, size_update, height_update}
use Rattle.tree.proofs.WellFormedLaws.{leads_before, get_leads, place_parts, place_of_parts, forest_parts, forest_of_parts, tree_parts, tree_of_parts, place_below}

-- ---- a place changed

leads_at : {A : Type 0} (m n : Name) (f : Place A → Place A) (F : Forest A) → leads m (at n f F) ≡ leads m F
unfolding leads at
leads_at m n f nil = refl
leads_at m n f (node k y cs rest) = case (same_text n k) (λ t. rw t) (λ t. rw t)

-- a forest in which a child is changed
forest_at : (n : Name) (f : Place Node → Place Node) (d : Place Node) → is_place (f d) ≡ true
    → (F : Forest Node) → is_forest F ≡ true → get n F ≡ some d → is_forest (at n f F) ≡ true
unfolding at get
forest_at n f d w nil h e = h
forest_at n f d w (node k y cs rest) h e =
    let c : Place Node = record { here = y; below = cs } in
    let v = forest_parts k c rest h in
    case (same_text n k)
    (λ t.
    let q : some c ≡ some d = rw t at e in
    rw t (forest_of_parts k (f c) rest (record { name = v.name; first = rw (answered q) at w; leading = v.leading; others = v.others })))
    (λ t. rw t (forest_of_parts k c (at n f rest) (record {
      name = v.name;
      first = v.first;
      leading = leads_at k n f rest ∙ v.leading;
      others = forest_at n f d w rest v.others (rw t at e);
    })))

-- a place with another forest below it
place_under : (g : Forest Node → Forest Node) (d : Place Node) → is_place d ≡ true
    → (is_directory d.here.kind ≡ false → is_empty d.below ≡ true → is_empty (g d.below) ≡ true)
    → is_forest (g d.below) ≡ true → is_place (under g d) ≡ true
unfolding under
place_under g d h k w =
    let v = place_parts d h in
    place_of_parts (under g d) (record { own = v.own; childless = λ f. k f (v.childless f); forest = w })

place_update : (t : Place Node) (p : Path) (f : Place Node → Place Node) (d : Place Node) → is_place t ≡ true → place_at t p ≡ some d
    → is_place (f d) ≡ true → is_place (update p f t) ≡ true
unfolding update place_at
place_update t root f d h e w = rw (answered e) at w
place_update t (p ▹ n) f d h e w =
    let i = place_at_parent t p n d e in
    let c = i.0 in
    let v = place_below t p c h i.1 in
    place_update t p (under (at n f)) c h i.1
    (place_under (at n f) c v (λ _ b. empty_at n f c.below ∙ b) (forest_at n f d w c.below (place_parts c v).forest i.2))

-- a tree in which a place is changed
tree_update : (t : Place Node) (p : Path) (f : Place Node → Place Node) (d : Place Node) → is_tree t ≡ true → place_at t p ≡ some d
    → (f d).here.kind ≡ d.here.kind → (is_place d ≡ true → is_place (f d) ≡ true)
    → depth p + height (f d).below ≤ 6 → nodes t + size (f d).below ≤ 256 + size d.below → is_tree (update p f t) ≡ true
unfolding nodes
tree_update t p f d h e k w l m =
    let v = tree_parts t h in
    tree_of_parts (update p f t) (record {
      directory = rw (here_update t (λ n. n.kind) p f d e k) v.directory;
      whole = place_update t p f d v.whole e (w (place_below t p d v.whole e));
      low = height_update t 6 p f d e v.low l;
      few = omega (arith, size_update t p f d e);
    })

-- ---- a payload altered

-- a node altered where it stands, its kind kept
pub alter_at : (t : Place Node) (p : Path) (d : Place Node) (g : Node → Node) → is_tree t ≡ true → place_at t p ≡ some d
    → is_node (g d.here) ≡ true → (g d.here).kind ≡ d.here.kind → is_tree (update p (alter g) t) ≡ true
unfolding alter
alter_at t p d g h e w k =
    let v = tree_parts t h in
    tree_update t p (alter g) d h e k
    (λ a. let b = place_parts d a in place_of_parts (alter g d) (record { own = w; childless = λ f. b.childless (ap is_directory (sym k) ∙ f); forest = b.forest }))
    (omega (arith, height_below t p d e, v.low)) (omega (arith, v.few))

-- a node altered where a walk leads, its kind kept
pub keep_alter : (j : Judge Node) (t : Place Node) (p : Path) (d : Place Node) (g : Node → Node) → is_tree t ≡ true → walk j t p ≡ done d
    → is_node (g d.here) ≡ true → (g d.here).kind ≡ d.here.kind → is_tree (update p (alter g) t) ≡ true
keep_alter j t p d g h e w k = alter_at t p d g h (walked_at t j p d e) w k

-- a node altered wherever, by what keeps all nodes in range and their kinds
pub keep_alter_all : (t : Place Node) (p : Path) (g : Node → Node) → is_tree t ≡ true
    → ((x : Node) → is_node x ≡ true → (is_node (g x) ≡ true) × ((g x).kind ≡ x.kind)) → is_tree (update p (alter g) t) ≡ true
keep_alter_all t p g h w = by_option (place_at t p)
    (λ a. rw (update_none t p (alter g) a) h)
    (λ d a. let i = w d.here (place_parts d (place_below t p d (tree_parts t h).whole a)).own in alter_at t p d g h a i.0 i.1)

-- ---- a place put in

leads_insert : {A : Type 0} (m n : Name) (e : Place A) (F : Forest A) → precedes m n ≡ true → leads m F ≡ true → leads m (insert n e F) ≡ true
unfolding leads insert
leads_insert m n e nil b h = b
leads_insert m n e (node k y cs rest) b h = case (precedes n k) (λ t. rw t b) (λ t. rw t h)

forest_insert : (n : Name) (e : Place Node) → is_name n ≡ true → is_place e ≡ true
    → (F : Forest Node) → is_forest F ≡ true → get n F ≡ none → is_forest (insert n e F) ≡ true
unfolding insert get leads
forest_insert n e a w nil h b = forest_of_parts n e nil (record { name = a; first = w; leading = refl; others = h })
forest_insert n e a w (node k y cs rest) h b =
    let c : Place Node = record { here = y; below = cs } in
    let v = forest_parts k c rest h in
    case (same_text n k)
    (λ t. let q : some c ≡ none = rw t at b in no_answer (sym q))
    (λ t. case (precedes n k)
    (λ s. rw s (forest_of_parts n e (node k y cs rest) (record { name = a; first = w; leading = s; others = h })))
    (λ s. rw s (forest_of_parts k c (insert n e rest) (record {
      name = v.name;
      first = v.first;
      leading = leads_insert k n e rest (precedes_total n k t s) v.leading;
      others = forest_insert n e a w rest v.others (rw t at b);
    }))))

put_at : (t : Place Node) (p : Path) (d : Place Node) (n : Name) (e : Place Node) → is_tree t ≡ true → place_at t p ≡ some d
    → is_directory d.here.kind ≡ true → get n d.below ≡ none → is_name n ≡ true → is_place e ≡ true
    → depth p + suc (height e.below) ≤ 6 → nodes t + suc (size e.below) ≤ 256 → is_tree (update p (put n e) t) ≡ true
unfolding put under
put_at t p d n e h i k b a w l m =
    tree_update t p (put n e) d h i refl
    (λ v. place_under (insert n e) d v (λ f _. contra k f) (forest_insert n e a w d.below (place_parts d v).forest b))
    (let low = height_insert n e (6 - depth p) d.below (omega (arith, height_below t p d i, (tree_parts t h).low)) (omega arith) in omega arith)
    (omega (arith, size_insert n e d.below))

-- a place put into a directory that a walk leads to, under a name not used there
pub keep_put : (j : Judge Node) (t : Place Node) (p : Path) (d : Place Node) (n : Name) (e : Place Node) → is_tree t ≡ true → walk j t p ≡ done d
    → is_directory d.here.kind ≡ true → get n d.below ≡ none → is_name n ≡ true → is_place e ≡ true
    → depth p + suc (height e.below) ≤ 6 → nodes t + suc (size e.below) ≤ 256 → is_tree (update p (put n e) t) ≡ true
keep_put j t p d n e h i k b a w l m = put_at t p d n e h (walked_at t j p d i) k b a w l m

-- a place put in at the top, under a name not used there
pub keep_insert : (t : Place Node) (n : Name) (e : Place Node) → is_tree t ≡ true → get n t.below ≡ none → is_name n ≡ true → is_place e ≡ true
    → suc (height e.below) ≤ 6 → nodes t + suc (size e.below) ≤ 256 → is_tree (record { here = t.here; below = insert n e t.below }) ≡ true
unfolding update put under depth
keep_insert t n e h b a w l m = put_at t root t n e h (place_at_root t) (tree_parts t h).directory b a w (omega arith) m

-- ---- a place taken out

leads_remove : (m n : Name) (F : Forest Node) → is_forest F ≡ true → leads m F ≡ true → leads m (remove n F) ≡ true
unfolding leads remove
leads_remove m n nil h b = refl
leads_remove m n (node k y cs rest) h b =
    let v = forest_parts k (record { here = y; below = cs }) rest h in
    case (same_text n k) (λ t. rw t (leads_before m k rest b v.leading)) (λ t. rw t b)

forest_remove : (n : Name) (F : Forest Node) → is_forest F ≡ true → is_forest (remove n F) ≡ true
unfolding remove
forest_remove n nil h = h
forest_remove n (node k y cs rest) h =
    let c : Place Node = record { here = y; below = cs } in
    let v = forest_parts k c rest h in
    case (same_text n k)
    (λ t. rw t v.others)
    (λ t. rw t (forest_of_parts k c (remove n rest) (record {
      name = v.name;
      first = v.first;
      leading = leads_remove k n rest v.others v.leading;
      others = forest_remove n rest v.others;
    })))

size_remove_most : {A : Type 0} (n : Name) (F : Forest A) → size (remove n F) ≤ size F
unfolding size remove
size_remove_most n nil = omega arith
size_remove_most n (node k y cs rest) = case (same_text n k) (λ t. rw t (omega arith)) (λ t. rw t (omega (arith, size_remove_most n rest)))

-- a place taken out wherever
pub keep_drop : (t : Place Node) (p : Path) (n : Name) → is_tree t ≡ true → is_tree (update p (drop n) t) ≡ true
unfolding drop under
keep_drop t p n h = by_option (place_at t p)
    (λ a. rw (update_none t p (drop n) a) h)
    (λ d a.
    let v = tree_parts t h in
    tree_update t p (drop n) d h a refl
    (λ w. place_under (remove n) d w (λ _ b. empty_remove n d.below b) (forest_remove n d.below (place_parts d w).forest))
    (omega (arith, height_below t p d a, v.low, height_remove n d.below))
    (omega (arith, v.few, size_remove_most n d.below)))

-- ---- a place moved

-- a forest from which nodes were taken
data Fewer : Forest Node → Forest Node → Type 0 where
  empty : Fewer nil nil
  kept : {n : Name} {x : Node} {cs ds rest others : Forest Node} → Fewer cs ds → Fewer rest others → Fewer (node n x cs rest) (node n x ds others)
  taken : {n : Name} {x : Node} {F cs rest : Forest Node} → Fewer F rest → Fewer F (node n x cs rest)

fewer_self : (F : Forest Node) → Fewer F F
fewer_self nil = empty
fewer_self (node n x cs rest) = kept (fewer_self cs) (fewer_self rest)

fewer_remove : (n : Name) (F : Forest Node) → Fewer (remove n F) F
unfolding remove
fewer_remove n nil = empty
fewer_remove n (node k y cs rest) = case (same_text n k)
    (λ t. rw t (taken (fewer_self rest)))
    (λ t. rw t (kept (fewer_self cs) (fewer_remove n rest)))

-- a place below which nodes were taken
abbrev Less : Place Node → Place Node → Type 0
Less x y = (x.here ≡ y.here) × Fewer x.below y.below

fewer_at : (n : Name) (f : Place Node → Place Node) → ((x : Place Node) → Less (f x) x) → (F : Forest Node) → Fewer (at n f F) F
unfolding at
fewer_at n f h nil = empty
fewer_at n f h (node k y cs rest) =
    let v = h (record { here = y; below = cs }) in
    case (same_text n k)
    (λ t. rw t (rw v.0 (kept v.1 (fewer_self rest))))
    (λ t. rw t (kept (fewer_self cs) (fewer_at n f h rest)))

less_update : (p : Path) (f : Place Node → Place Node) → ((x : Place Node) → Less (f x) x) → (t : Place Node) → Less (update p f t) t
unfolding update under
less_update root f h t = h t
less_update (p ▹ n) f h t = less_update p (under (at n f)) (λ x. (refl, fewer_at n f h x.below)) t

-- a child that is left was there
get_fewer : (n : Name) {E F : Forest Node} → Fewer E F → is_forest F ≡ true → (d : Place Node) → get n E ≡ some d
    → (c : Place Node) × (get n F ≡ some c) × Less d c
unfolding get
get_fewer n empty h d e = no_answer e
get_fewer n (kept {n = k} {x = x} {cs = cs} {ds = ds} {others = others} u v) h d e =
    let c : Place Node = record { here = x; below = ds } in
    case (same_text n k)
    (λ t.
    let q : some (record { here = x; below = cs }) ≡ some d = rw t at e in
    (c, rw t, rw (answered q) (refl, u)))
    (λ t.
    let i = get_fewer n v (forest_parts k c others h).others d (rw t at e) in
    (i.0, rw t i.1, i.2))
get_fewer n (taken {n = k} {x = x} {cs = cs} {rest = rest} u) h d e =
    let v = forest_parts k (record { here = x; below = cs }) rest h in
    let i = get_fewer n u v.others d e in
    case (same_text n k)
    (λ t. let z : get n rest ≡ none = rw (same_text_sound n k t) (get_leads k rest v.others v.leading) in no_answer (sym z ∙ i.1))
    (λ t. (i.0, rw t i.1, i.2))

-- so is a place
place_less : (s t : Place Node) → Less s t → is_place t ≡ true → (p : Path) (x : Place Node) → place_at s p ≡ some x
    → (y : Place Node) × (place_at t p ≡ some y) × Less x y
unfolding place_at
place_less s t l h root x e = (t, refl, rw (answered e) l)
place_less s t l h (p ▹ n) x e =
    let i = place_at_parent s p n x e in
    let j = place_less s t l h p i.0 i.1 in
    let k = get_fewer n j.2.1 (place_parts j.0 (place_below t p j.0 h j.1)).forest x i.2 in
    (k.0, place_at_child t p n j.0 j.1 ∙ k.1, k.2)

less_at : (s t : Place Node) → Less s t → is_place t ≡ true → (p : Path) (x y : Place Node) → place_at s p ≡ some x → place_at t p ≡ some y → Less x y
less_at s t l h p x y e k = let i = place_less s t l h p x e in rw (answered (sym i.1 ∙ k)) i.2

-- a name not used is still not used
none_fewer : (n : Name) {E F : Forest Node} → Fewer E F → is_forest F ≡ true → get n F ≡ none → get n E ≡ none
none_fewer n {E = E} l h e = by_option (get n E) (λ a. a) (λ d a. no_answer (sym e ∙ (get_fewer n l h d a).1))

-- what is taken out is no longer counted
pub nodes_drop : (t : Place Node) (p : Path) (n : Name) (d : Place Node) → place_at t (p ▹ n) ≡ some d
    → nodes (update p (drop n) t) + suc (size d.below) ≡ nodes t
unfolding nodes drop under
nodes_drop t p n d e =
    let i = place_at_parent t p n d e in
    omega (arith, size_update t p (drop n) i.0 i.1, size_remove n i.0.below d i.2)

-- a place that a walk leads to moved into a directory that a walk leads to, under a name not used there
pub keep_move : (j : Judge Node) (t : Place Node) (a : Path) (m : Name) (b : Path) (n : Name) (d f : Place Node) → is_tree t ≡ true
    → walk j t (a ▹ m) ≡ done d → walk j t b ≡ done f → is_directory f.here.kind ≡ true → get n f.below ≡ none → is_name n ≡ true
    → depth b + suc (height d.below) ≤ 6 → is_tree (update b (put n d) (update a (drop m) t)) ≡ true
unfolding drop under
keep_move j t a m b n d f h i k dir free name l =
    let s = update a (drop m) t in
    let g = keep_drop t a m h in
    let v = tree_parts t h in
    let less = less_update a (drop m) (λ x. (refl, fewer_remove m x.below)) t in
    let from = walked_at t j (a ▹ m) d i in
    let to = walked_at t j b f k in
    by_option (place_at s b)
    (λ e. rw (update_none s b (put n d) e) g)
    (λ x e.
    let w = less_at s t less v.whole b x f e to in
    put_at s b x n d g e
    (rw w.0 dir)
    (none_fewer n w.1 (place_parts f (place_below t b f v.whole to)).forest free)
    name (place_below t (a ▹ m) d v.whole from) l (omega (arith, nodes_drop t a m d from, v.few)))
