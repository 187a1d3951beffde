-- Rows stand in order behind `/` just if they are the rows of a well-formed forest.
--
-- In order: the outermost of some names; from rows to forests: Level to below; from forests to rows: GoesOn, ordered.
use Rattle.std.specs.Prelude.{◌≡◌, refl, true, false, ◌&&◌, cond, eqb, leb}
use Rattle.std.proofs.Math.Path.{sym, ap, ap₂}
use Rattle.std.proofs.Common.{◌∙◌, length-drop}
use mathlib.Core.List.{List, [], ◌∷◌, ◌++◌, append_assoc, append-nil}
use Prim.Native.Nat.{ℕ, suc, ◌+◌, ◌-◌, ◌≤◌, ◌<◌}
use native.Mathlib.Omega.{arith}
use Rattle.std.proofs.Math.ListN.{length, drop}
use Rattle.std.proofs.Math.Seq.{drop-drop}
use borrow.Author.Tests.{leb-true, leb-false, le-leb, eqb-true, eqb-false, eq-eqb}
use Rattle.buffers.specs.Cases.{case, and_both, contra}
use Rattle.buffers.specs.Text.{precedes, every}
use Rattle.syntax.specs.Path.{Name, is_name, most_names}
use Rattle.tree.specs.declared.Kind.{Kind}
use Rattle.tree.specs.Forest.{Forest, nil, node, Place, is_empty, height}
use Rattle.tree.proofs.ForestLaws.{larger_bounds, larger_least}
use Rattle.tree.specs.Node.{is_directory, Node}
use Rattle.tree.specs.Rows.{Row, flatten}
use Rattle.tree.specs.WellFormed.{is_node, leads, is_forest}
use Rattle.tree.proofs.WellFormedLaws.{place_parts, place_of_parts, forest_parts, forest_of_parts}
use Rattle.soundness.specs.Sound.{outermost, innermost, may_follow, follows, in_order}

-- ---- the outermost of some names

length_outermost : (k : ℕ) (ns : List Name) → k ≤ length ns → length (outermost k ns) ≡ k
unfolding outermost
length_outermost k ns h = length-drop (length ns - k) ns ∙ omega arith

-- as many as there are are all
pub outermost_all : (ns : List Name) (k : ℕ) → k ≡ length ns → outermost k ns ≡ ns
unfolding outermost
outermost_all ns k e = let q : length ns - k ≡ 0 = omega arith in rw q

-- a name further in is none of fewer
pub outermost_cons : (k : ℕ) (n : Name) (ns : List Name) → k ≤ length ns → outermost k (n ∷ ns) ≡ outermost k ns
unfolding outermost
outermost_cons k n ns h = let q : suc (length ns) - k ≡ suc (length ns - k) = omega arith in rw q

outermost_outermost : (k j : ℕ) (ns : List Name) → k ≤ j → j ≤ length ns → outermost k (outermost j ns) ≡ outermost k ns
outermost_outermost k j ns h l =
    let m = length_outermost j ns l in
    unfold outermost in
    (let q : length ns - j + (length (drop (length ns - j) ns) - k) ≡ length ns - k = omega arith in
    drop-drop (length (drop (length ns - j) ns) - k) (length ns - j) ns ∙ ap (λ (i : ℕ). drop i ns) q)

-- ---- from rows to forests

-- siblings at a depth, well-formed and no deeper than a path has names
record Siblings (depth : ℕ) (F : Forest Node) : Type 0 where
  good : is_forest F ≡ true
  low : depth + height F ≤ 7

-- rows that begin with siblings that the name n at their depth leads, and go on further out
record Level (n : Name) (depth : ℕ) (Outer : List (Row Node) → Type 0) (rs : List (Row Node)) : Type 0 where
  beside : Forest Node
  outer : List (Row Node)
  split : rs ≡ flatten depth beside ++ outer
  whole : Siblings depth beside
  leading : leads n beside ≡ true
  left : Outer outer

-- rows that follow, level by level, where all children of a row with these names have been read
Left : List Name → List (Row Node) → Type 0
Left [] rs = rs ≡ []
Left (n ∷ ns) rs = Level n (suc (length ns)) (Left ns) rs

-- rows that begin with the children of a row with these names
record Below (ns : List Name) (kind : Kind) (rs : List (Row Node)) : Type 0 where
  children : Forest Node
  outer : List (Row Node)
  split : rs ≡ flatten (suc (length ns)) children ++ outer
  whole : Siblings (suc (length ns)) children
  childless : is_directory kind ≡ false → is_empty children ≡ true
  left : Left ns outer

no_siblings : (depth : ℕ) → depth ≤ 7 → Siblings depth nil
unfolding is_forest height
no_siblings depth h = record { good = refl; low = omega arith }

-- no rows are left
left_none : (ns : List Name) → length ns ≤ 6 → Left ns []
unfolding Left flatten leads
left_none [] h = refl
left_none (n ∷ ns) h = record {
  beside = nil;
  outer = [];
  split = refl;
  whole = no_siblings (suc (length ns)) (omega arith);
  leading = refl;
  left = left_none ns (omega arith);
}

-- siblings further out, behind which the rest is left
left_further : (ns : List Name) (k : ℕ) (F : Forest Node) (rs : List (Row Node)) → length ns ≤ 6 → k < length ns → Siblings (suc k) F
    → leads (innermost (outermost (suc k) ns)) F ≡ true → Left (outermost k ns) rs → Left ns (flatten (suc k) F ++ rs)
unfolding Left flatten leads innermost
left_further [] k F rs l h w a r = let z : ⊥ = omega arith in absurd z
left_further (n ∷ ns) k F rs l h w a r = case (eqb k (length ns))
    (λ t.
    let e = eqb-true k (length ns) t in
    let q : outermost (suc k) (n ∷ ns) ≡ n ∷ ns = outermost_all (n ∷ ns) (suc k) (omega arith) in
    let p : outermost k (n ∷ ns) ≡ ns = outermost_cons k n ns (omega arith) ∙ outermost_all ns k e in
    record {
      beside = F;
      outer = rs;
      split = ap (λ (j : ℕ). flatten (suc j) F ++ rs) e;
      whole = rw (← e) w;
      leading = rw q at a;
      left = rw p at r;
    })
    (λ t.
    let e = eqb-false k (length ns) t in
    let q : outermost (suc k) (n ∷ ns) ≡ outermost (suc k) ns = outermost_cons (suc k) n ns (omega arith) in
    let p : outermost k (n ∷ ns) ≡ outermost k ns = outermost_cons k n ns (omega arith) in
    record {
      beside = nil;
      outer = flatten (suc k) F ++ rs;
      split = refl;
      whole = no_siblings (suc (length ns)) (omega arith);
      leading = refl;
      left = left_further ns k F rs (omega arith) (omega arith) w (rw q at a) (rw p at r);
    })

-- what may follow, by its parts
record Follows (ns : List Name) (kind : Kind) (r : Row Node) : Type 0 where
  name : is_name r.name ≡ true
  deep : 1 ≤ r.depth
  low : r.depth ≤ 6
  near : r.depth ≤ suc (length ns)
  below : length ns < r.depth → is_directory kind ≡ true
  beside : r.depth ≤ length ns → precedes (innermost (outermost r.depth ns)) r.name ≡ true

follows_parts : (ns : List Name) (kind : Kind) (r : Row Node) → follows ns kind r ≡ true → Follows ns kind r
unfolding follows may_follow most_names
follows_parts ns kind r h =
    let d = r.depth in
    let below = eqb d (suc (length ns)) && is_directory kind in
    let beside = precedes (innermost (outermost d ns)) r.name in
    let i = and_both (is_name r.name && (leb 1 d && leb d 6)) (cond (leb d (length ns)) beside below) h in
    let j = and_both (is_name r.name) (leb 1 d && leb d 6) i.0 in
    let k = and_both (leb 1 d) (leb d 6) j.1 in
    case (leb d (length ns))
    (λ t.
    let l = leb-true d (length ns) t in
    record {
      name = j.0;
      deep = leb-true 1 d k.0;
      low = leb-true d 6 k.1;
      near = omega arith;
      below = λ g. let z : ⊥ = omega arith in absurd z;
      beside = λ g. rw t at i.1;
    })
    (λ t.
    let l = leb-false d (length ns) t in
    let m = and_both (eqb d (suc (length ns))) (is_directory kind) (rw t at i.1) in
    let e = eqb-true d (suc (length ns)) m.0 in
    record {
      name = j.0;
      deep = leb-true 1 d k.0;
      low = leb-true d 6 k.1;
      near = omega arith;
      below = λ g. m.1;
      beside = λ g. let z : ⊥ = omega arith in absurd z;
    })

-- a row, the rows of its children, and those of the siblings behind it are a forest's
record SubtreeFirst (ns : List Name) (k : ℕ) (rs : List (Row Node)) (n : Name) : Type 0 where
  forest : Forest Node
  outer : List (Row Node)
  split : rs ≡ flatten (suc k) forest ++ outer
  whole : Siblings (suc k) forest
  leading : (m : Name) → precedes m n ≡ true → leads m forest ≡ true
  left : Left (outermost k ns) outer

module _ (ns : List Name) (kind : Kind) (r : Row Node) (rs : List (Row Node)) (l : length ns ≤ 6) (k : ℕ) (e : r.depth ≡ suc k) (f : Follows ns kind r) where
  subtree_first : is_node r.here ≡ true → Below (r.name ∷ outermost k ns) r.here.kind rs → SubtreeFirst ns k (r ∷ rs) r.name
  unfolding Left flatten leads height
  subtree_first x b =
      let v = b.left in
      let m = length_outermost k ns (omega (arith, f.near)) in
      let A : ℕ → List (Row Node) = λ j. flatten (suc (suc j)) b.children in
      let B : ℕ → List (Row Node) = λ j. flatten (suc j) v.beside in
      let j = length (outermost k ns) in
      let tail : rs ≡ (A k ++ B k) ++ v.outer =
      b.split ∙ ap (λ (l : List (Row Node)). A j ++ l) v.split ∙ sym (append_assoc (A j) (B j) v.outer) ∙ ap (λ (i : ℕ). (A i ++ B i) ++ v.outer) m in
      let first : Place Node = record { here = r.here; below = b.children } in
      let high = larger_least (suc (height b.children)) (height v.beside) (6 - k) (omega (arith, b.whole.low)) (omega (arith, v.whole.low)) in
      record {
        forest = node r.name r.here b.children v.beside;
        outer = v.outer;
        split = ap₂ ◌∷◌ (λ i. record { depth = e i; name = r.name; here = r.here }) tail;
        whole = record {
          good = forest_of_parts r.name first v.beside (record {
            name = f.name;
            first = place_of_parts first (record { own = x; childless = b.childless; forest = b.whole.good });
            leading = v.leading;
            others = v.whole.good;
          });
          low = omega (arith, f.low);
        };
        leading = λ m p. p;
        left = v.left;
      }

  -- so they stand below the row before, or further out
  below_first : SubtreeFirst ns k (r ∷ rs) r.name → Below ns kind (r ∷ rs)
  unfolding flatten is_empty
  below_first s = case (leb r.depth (length ns))
      (λ t.
      let g = leb-true r.depth (length ns) t in
      record {
        children = nil;
        outer = r ∷ rs;
        split = refl;
        whole = no_siblings (suc (length ns)) (omega arith);
        childless = λ f. refl;
        left = rw s.split (left_further ns k s.forest s.outer l (omega arith) s.whole
            (s.leading (innermost (outermost (suc k) ns)) (rw (← e) (f.beside g))) s.left);
      })
      (λ t.
      let g = leb-false r.depth (length ns) t in
      let q : k ≡ length ns = omega (arith, f.near) in
      record {
        children = s.forest;
        outer = s.outer;
        split = rw (← q) s.split;
        whole = rw (← q) s.whole;
        childless = λ n. contra (f.below g) n;
        left = rw (outermost_all ns k q) at s.left;
      })

-- rows in order behind a row begin with the forest of its children
below : (ns : List Name) (kind : Kind) (rs : List (Row Node)) → length ns ≤ 6 → every (λ r. is_node r.here) rs ≡ true
    → in_order ns kind rs ≡ true → Below ns kind rs
unfolding every in_order flatten
below ns kind [] l v h = record {
  children = nil;
  outer = [];
  split = refl;
  whole = no_siblings (suc (length ns)) (omega arith);
  childless = λ f. unfold is_empty in refl;
  left = left_none ns l;
}
below ns kind (r ∷ rs) l v h =
    let above = outermost (r.depth - 1) ns in
    let i = and_both (follows ns kind r) (in_order (r.name ∷ above) r.here.kind rs) h in
    let f = follows_parts ns kind r i.0 in
    let j = and_both (is_node r.here) (every (λ r. is_node r.here) rs) v in
    let m = length_outermost (r.depth - 1) ns (omega (arith, f.near)) in
    let k = r.depth - 1 in
    let e : r.depth ≡ suc k = omega (arith, f.deep) in
    below_first ns kind r rs l k e f (subtree_first ns kind r rs l k e f j.0 (below (r.name ∷ above) r.here.kind rs (omega (arith, f.low)) j.1 i.1))

-- rows in order behind `/` are those of a well-formed forest, no deeper than paths have names
pub forest_of_rows : (kind : Kind) (rs : List (Row Node)) → every (λ r. is_node r.here) rs ≡ true → in_order [] kind rs ≡ true
    → (F : Forest Node) × ((rs ≡ flatten 1 F) × ((is_forest F ≡ true) × (height F ≤ 6)))
unfolding Left
forest_of_rows kind rs v h =
    let b = below [] kind rs (omega arith) v h in
    let e : rs ≡ flatten 1 b.children = b.split ∙ ap (λ (l : List (Row Node)). flatten 1 b.children ++ l) b.left ∙ append-nil (flatten 1 b.children) in
    (b.children, (e, (b.whole.good, omega (arith, b.whole.low))))

-- ---- from forests to rows

-- rows stand in order behind every row whose k outermost names are these
GoesOn : ℕ → List Name → List (Row Node) → Type 0
GoesOn k ns rs = (ms : List Name) (kind : Kind) → k ≤ length ms → outermost k ms ≡ outermost k ns → in_order ms kind rs ≡ true

follows_of_parts : (ns : List Name) (kind : Kind) (r : Row Node) → Follows ns kind r → follows ns kind r ≡ true
unfolding follows may_follow most_names
follows_of_parts ns kind r f =
    let d = r.depth in
    rw (f.name, le-leb 1 d f.deep, le-leb d 6 f.low)
    (case (leb d (length ns))
    (λ t. rw t (f.beside (leb-true d (length ns) t)))
    (λ t. let l = leb-false d (length ns) t in rw (t, eq-eqb d (suc (length ns)) (omega (arith, f.near)), f.below l)))

-- the rows of siblings, one level below k names, stand in order if what follows them does
ordered : (F : Forest Node) (k : ℕ) (ns : List Name) (kind : Kind) (rs : List (Row Node)) → Siblings (suc k) F → k ≤ length ns
    → (length ns ≡ k → is_directory kind ≡ false → is_empty F ≡ true)
    → (k < length ns → leads (innermost (outermost (suc k) ns)) F ≡ true)
    → GoesOn k ns rs → in_order ns kind (flatten (suc k) F ++ rs) ≡ true
unfolding GoesOn flatten in_order height leads is_empty innermost
ordered nil k ns kind rs w l c a g = g ns kind l refl
ordered (node n x cs rest) k ns kind rs w l c a g =
    let v = forest_parts n (record { here = x; below = cs }) rest w.good in
    let d = place_parts (record { here = x; below = cs }) v.first in
    let o = larger_bounds (suc (height cs)) (height rest) in
    let m = length_outermost k ns l in
    let A = flatten (suc (suc k)) cs in
    let B = flatten (suc k) rest in
    let f = follows_of_parts ns kind (record { depth = suc k; name = n; here = x }) (record {
      name = v.name;
      deep = omega arith;
      low = omega (arith, w.low, o.0);
      near = omega arith;
      below = λ h. case (is_directory kind) (λ t. t) (λ t. contra {b = true} refl (sym (c (omega arith) t)));
      beside = λ h. a (omega arith);
    }) in
    let i = ordered cs (suc k) (n ∷ outermost k ns) x.kind (B ++ rs)
    (record { good = d.forest; low = omega (arith, w.low, o.0) })
    (omega arith)
    (λ e. d.childless)
    (λ h. let z : ⊥ = omega arith in absurd z)
    (λ ms kind' h e.
    let q : outermost (suc k) (n ∷ outermost k ns) ≡ n ∷ outermost k ns = outermost_all (n ∷ outermost k ns) (suc k) (omega arith) in
    let p : outermost (suc k) ms ≡ n ∷ outermost k ns = e ∙ q in
    let s : outermost k ms ≡ outermost k ns =
    sym (outermost_outermost k (suc k) ms (omega arith) h) ∙ ap (outermost k) p ∙ outermost_cons k n (outermost k ns) (omega arith) ∙ outermost_all (outermost k ns) k (sym m) in
    ordered rest k ms kind' rs (record { good = v.others; low = omega (arith, w.low, o.1) }) (omega arith)
    (λ u. let z : ⊥ = omega arith in absurd z)
    (λ u. rw p v.leading)
    (λ ms' kind'' h' e'. g ms' kind'' h' (e' ∙ s))) in
    let j : suc k - 1 ≡ k = omega arith in
    rw (append_assoc A B rs) (rw (f, j, i))

-- the rows of a well-formed forest below `/` stand in order
pub forest_in_order : (kind : Kind) (F : Forest Node) → is_directory kind ≡ true → is_forest F ≡ true → height F ≤ 6 → in_order [] kind (flatten 1 F) ≡ true
unfolding GoesOn in_order
forest_in_order kind F d h l =
    rw (← append-nil (flatten 1 F))
    (ordered F 0 [] kind [] (record { good = h; low = omega arith }) (omega arith) (λ e f. contra d f) (λ m. let z : ⊥ = omega arith in absurd z) (λ ms k m e. refl))
