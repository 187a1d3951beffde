-- What scans find: row by row, by index, and on the rows of a tree.
--
-- In order:
--   what a scan for deeper rows passes on siblings' rows, and where it ends: span-append to below_span;
--   a scan row by row, by index: first-at, span-go, span-stop, span-end;
--   how a row stands to a child: order_below, order-above, order-beside;
--   the search for a child on siblings' rows: child-from-ends to child-from-lesser;
--   on the rows of a tree: rows-from-place to no-child-in-rows.
use Rattle.std.specs.Prelude.{◌≡◌, Bool, true, false, get_or}
use Rattle.std.proofs.Math.Path.{refl, ap}
use Rattle.std.proofs.Common.{◌∙◌, length-append, length-drop, drop-cons}
use mathlib.Core.List.{List, [], ◌∷◌, ◌++◌, append_assoc}
use Rattle.std.proofs.Math.Option.{none, some}
use Prim.Native.Nat.{ℕ, suc, ◌+◌, ◌≤◌, ◌<◌}
use native.Mathlib.Omega.{arith}
use Rattle.std.proofs.Math.ListN.{length, drop, drop_of_length-le}
use Rattle.std.proofs.Math.Seq.{drop-append_seam, drop-append-add, get_or-append_seam}
use borrow.Author.Tests.{leb-true, lt-ltb, le-ltb}
use Rattle.buffers.specs.Cases.{case, and_both, contra}
use Rattle.buffers.specs.Text.{every, same_text, precedes}
use Rattle.buffers.specs.TextLaws.{every_append, same_text_refl, precedes_differ}
use Rattle.syntax.specs.Path.{Name, Path, ◌▹◌, last, depth}
use Rattle.std.specs.Prelude.{Ok, Err}
use Rattle.tree.specs.Forest.{Forest, nil, node, Place, get, size}
use Rattle.tree.proofs.ForestLaws.{differ_sym, found_none}
use Rattle.tree.specs.Rows.{Row, flatten, rows}
use Rattle.tree.proofs.RowLaws.{length_flatten}
use Rattle.tree.specs.RowScan.{Child, order_of, Order, Before, Same, After, span, first_passes, is_deeper, first_depth, depth_of, order_in, child_by, child_from, child_in}
use Rattle.tree.specs.RowPlaces.{place_rows, ends, index_of, Around, sorted, lesser, not_lesser}
use Rattle.tree.proofs.RowPlacesLaws.{length_place_rows}
use Rattle.tree.proofs.RowChangesLaws.{found_split, spot_index}

-- ---- on siblings' rows

module _ {A : Type 0} where
  -- a scan ends where the test first fails
  span_append : (f : Row A → Bool) (xs ys : List (Row A)) → every f xs ≡ true → first_passes f ys ≡ false → span f (xs ++ ys) ≡ length xs
  unfolding span first_passes every
  span_append f [] [] h e = refl
  span_append f [] (y ∷ ys) h e = rw e
  span_append f (x ∷ xs) ys h e = let i = and_both (f x) (every f xs) h in rw i.0 (ap suc (span_append f xs ys i.1 e))

  -- all rows of siblings lie as deep as they or deeper
  flatten_deeper : (k j : ℕ) (F : Forest A) → k < j → every (is_deeper k) (flatten j F) ≡ true
  unfolding flatten every is_deeper
  flatten_deeper k j nil h = refl
  flatten_deeper k j (node n x cs rest) h =
      rw (lt-ltb k j h, every_append (is_deeper k) (flatten (suc j) cs) (flatten j rest), flatten_deeper k (suc j) cs (omega arith)) (flatten_deeper k j rest h)

  -- rows that end at a depth begin with none below it
  pub ends_deeper : (k : ℕ) (B : List (Row A)) → ends k B ≡ true → first_passes (is_deeper k) B ≡ false
  unfolding ends first_passes is_deeper
  ends_deeper k [] h = refl
  ends_deeper k (r ∷ rs) h = le-ltb k r.depth (leb-true r.depth k h)

  -- what a scan for deeper rows passes are the rows of siblings one level down
  pub below_span : (k : ℕ) (F : Forest A) (B : List (Row A)) → ends k B ≡ true → span (is_deeper k) (flatten (suc k) F ++ B) ≡ size F
  below_span k F B h =
      span_append (is_deeper k) (flatten (suc k) F) B (flatten_deeper k (suc k) F (omega arith)) (ends_deeper k B h) ∙ length_flatten (suc k) F

-- ---- row by row

module _ {A : Type 0} (f : Row A → Bool) (rs : List (Row A)) (j : ℕ) where
  -- the row at an index is the first from there on
  pub first_at : (z : Row A) → j < length rs → first_passes f (drop j rs) ≡ f (get_or rs j z)
  unfolding first_passes
  first_at z h = rw (drop-cons rs j z h)

  -- a row that passes is counted
  pub span_go : (z : Row A) → j < length rs → f (get_or rs j z) ≡ true → span f (drop j rs) ≡ suc (span f (drop (suc j) rs))
  unfolding span
  span_go z h e = rw (drop-cons rs j z h, e)

  -- at one that does not the scan ends
  pub span_stop : (z : Row A) → j < length rs → f (get_or rs j z) ≡ false → span f (drop j rs) ≡ 0
  unfolding span
  span_stop z h e = rw (drop-cons rs j z h, e)

  -- and so it does behind the last
  pub span_end : length rs ≤ j → (span f (drop j rs) ≡ 0) × (first_passes f (drop j rs) ≡ false)
  unfolding span first_passes
  span_end h = let q : drop j rs ≡ [] = drop_of_length-le rs h in (rw q, rw q)

-- ---- how a row stands to a child

module _ {A : Type 0} (k : ℕ) (n : Name) (r : Row A) where
  -- a deeper row comes before it
  pub order_below : k < r.depth → order_in k n r ≡ Before
  unfolding order_in
  order_below h = rw (lt-ltb k r.depth h)

  -- one that is less deep after it
  pub order_above : r.depth < k → order_in k n r ≡ After
  unfolding order_in
  order_above h = rw (le-ltb k r.depth (omega arith), lt-ltb r.depth k h)

  -- and one at its depth by the order of the names
  pub order_beside : r.depth ≡ k → order_in k n r ≡ order_of r.name n
  unfolding order_in
  order_beside e = rw (le-ltb k r.depth (omega arith), le-ltb r.depth k (omega arith))

-- ---- the search for a child

module _ {A : Type 0} (k : ℕ) (n : Name) (i : ℕ) where
  -- nothing is found where the children have ended
  child_from_ends : (B : List (Row A)) → ends k B ≡ true → child_from (suc k) n i B ≡ Err i
  unfolding ends child_from child_by
  child_from_ends [] h = refl
  child_from_ends (r ∷ rs) h = let l = leb-true r.depth k h in rw (order_above (suc k) n r (omega arith))

-- nothing missing is found
pub missing_not_found : {P : Type 0} {i j : ℕ} → Err i ≡ Ok j → P
missing_not_found e = contra {b = true} refl (cc)

-- what is found stands at an index in front of the end
bound_by : (o : Order) (i j l : ℕ) (behind : Child) → (behind ≡ Ok j → j < suc i + l) → child_by o i behind ≡ Ok j → j < i + suc l
unfolding child_by
bound_by Before i j l behind f e = let h = f e in omega arith
bound_by Same i j l behind f e = let h : i ≡ j = cc in omega arith
bound_by After i j l behind f e = missing_not_found e

module _ {A : Type 0} (k : ℕ) (n : Name) where
  -- what is found is one of the rows
  child_from_bound : (i j : ℕ) (rs : List (Row A)) → child_from k n i rs ≡ Ok j → j < i + length rs
  unfolding child_from
  child_from_bound i j [] e = missing_not_found e
  child_from_bound i j (r ∷ rs) e = bound_by (order_in k n r) i j (length rs) (child_from k n (suc i) rs) (child_from_bound (suc i) j rs) e

  -- the rows below siblings are gone past
  child_from_below : (i j : ℕ) (F : Forest A) (B : List (Row A)) → k < j → child_from k n i (flatten j F ++ B) ≡ child_from k n (i + size F) B
  unfolding flatten size child_from child_by
  child_from_below i j nil B h = let q : i + 0 ≡ i = omega arith in rw q
  child_from_below i j (node m x cs rest) B h =
      let q : suc i + size cs + size rest ≡ i + suc (size cs + size rest) = omega arith in
      rw (order_below k n (record { depth = j; name = m; here = x }) h, append_assoc (flatten (suc j) cs) (flatten j rest) B)
      (child_from_below (suc i) (suc j) cs (flatten j rest ++ B) (omega arith)
      ∙ child_from_below (suc i + size cs) j rest B h
      ∙ ap (λ (l : ℕ). child_from k n l B) q)

  module _ (m : Name) (x : A) where
    -- a sibling of a lesser name comes before the child
    pub sibling_before : precedes m n ≡ true → order_in k n (record { depth = k; name = m; here = x }) ≡ Before
    unfolding order_of
    sibling_before t = order_beside k n (record { depth = k; name = m; here = x }) refl ∙ rw (precedes_differ m n t, t)

    -- one of a greater name after it
    pub sibling_after : same_text m n ≡ false → precedes m n ≡ false → order_in k n (record { depth = k; name = m; here = x }) ≡ After
    unfolding order_of
    sibling_after e t = order_beside k n (record { depth = k; name = m; here = x }) refl ∙ rw (e, t)

    -- and one of its name is the child
    pub sibling_same : same_text m n ≡ true → order_in k n (record { depth = k; name = m; here = x }) ≡ Same
    unfolding order_of
    sibling_same e = order_beside k n (record { depth = k; name = m; here = x }) refl ∙ rw e

  -- a lesser sibling is gone past with all below it
  past_sibling : (i : ℕ) (m : Name) (x : A) (cs rest : Forest A) (B : List (Row A)) → precedes m n ≡ true
      → child_from k n i (flatten k (node m x cs rest) ++ B) ≡ child_from k n (suc i + size cs) (flatten k rest ++ B)
  unfolding flatten child_from child_by
  past_sibling i m x cs rest B t =
      rw (sibling_before m x t, append_assoc (flatten (suc k) cs) (flatten k rest) B)
      (child_from_below (suc i) (suc k) cs (flatten k rest ++ B) (omega arith))

  -- and so are all lesser ones
  child_from_lesser : (i : ℕ) (F : Forest A) (B : List (Row A))
      → child_from k n i (flatten k F ++ B) ≡ child_from k n (i + size (lesser n F)) (flatten k (not_lesser n F) ++ B)
  unfolding size lesser not_lesser
  child_from_lesser i nil B = let q : i + 0 ≡ i = omega arith in rw q
  child_from_lesser i (node m x cs rest) B = case (precedes m n)
      (λ t.
      let q : suc i + size cs + size (lesser n rest) ≡ i + suc (size cs + size (lesser n rest)) = omega arith in
      past_sibling i m x cs rest B t
      ∙ child_from_lesser (suc i + size cs) rest B
      ∙ rw t (ap (λ (l : ℕ). child_from k n l (flatten k (not_lesser n rest) ++ B)) q))
      (λ t. let q : i + 0 ≡ i = omega arith in rw (t, q))

  -- the next is not the child where there is none
  child_from_greater : (i : ℕ) (F : Forest A) (B : List (Row A)) → get n F ≡ none → child_from k n i B ≡ Err i
      → child_from k n i (flatten k (not_lesser n F) ++ B) ≡ Err i
  unfolding not_lesser flatten child_from child_by
  child_from_greater i nil B g h = h
  child_from_greater i (node m x cs rest) B g h =
      let e = found_none n m x cs rest g in
      case (precedes m n)
      (λ t. rw t (child_from_greater i rest B e.1 h))
      (λ t. rw t (rw (sibling_after m x (differ_sym n m e.0) t)))

  -- and is where there is one
  child_from_found : (i : ℕ) (F : Forest A) (B : List (Row A)) (e : Place A) → sorted F ≡ true → get n F ≡ some e
      → child_from k n i (flatten k (not_lesser n F) ++ B) ≡ Ok i
  unfolding flatten child_from child_by
  child_from_found i F B e s g = rw ((found_split n F e s g).1, sibling_same n e.here (same_text_refl n))

-- and so is a child that is found behind the row of its parent
pub child_in_bound : {A : Type 0} (rs : List (Row A)) (at j : ℕ) (n : Name) → at < length rs → child_in rs at n ≡ Ok j → j < length rs
unfolding child_in
child_in_bound rs at j n h e =
    let b = child_from_bound (suc (depth_of rs at)) n (suc at) j (drop (suc at) rs) e in
    omega (arith, length-drop (suc at) rs)

-- ---- on the rows of a tree

module _ {A : Type 0} {t : Place A} {p : Path} {d : Place A} (c : Around t p d) where
  -- from the index of a place on stand its rows
  pub rows_from_place : drop (index_of t p) (rows t) ≡ place_rows (depth p) (last p) d ++ c.post
  rows_from_place = rw (c.was, ← c.index) (drop-append_seam c.pre (place_rows (depth p) (last p) d ++ c.post))

  -- from the next those of its children
  pub rows_from_children : drop (suc (index_of t p)) (rows t) ≡ flatten (suc (depth p)) d.below ++ c.post
  unfolding place_rows
  rows_from_children =
      let i : suc (index_of t p) ≡ length c.pre + 1 = omega (arith, c.index) in
      rw (c.was, i) (drop-append-add c.pre (place_rows (depth p) (last p) d ++ c.post) 1)

  -- the row at the index of a place
  pub row_of_place : (z : Row A) → get_or (rows t) (index_of t p) z ≡ record { depth = depth p; name = last p; here = d.here }
  unfolding place_rows
  row_of_place z =
      rw (c.was, ← c.index)
      (get_or-append_seam c.pre (record { depth = depth p; name = last p; here = d.here }) (flatten (suc (depth p)) d.below ++ c.post) z)

  -- it stands at the depth of the path
  pub depth_of_place : depth_of (rows t) (index_of t p) ≡ depth p
  unfolding depth_of first_depth place_rows
  depth_of_place = rw rows_from_place

  -- and all rows below it are there
  pub index_bound : suc (index_of t p + size d.below) ≤ length (rows t)
  index_bound =
      let L = place_rows (depth p) (last p) d in
      omega (arith, ap length c.was, length-append c.pre (L ++ c.post), length-append L c.post, length_place_rows (depth p) (last p) d, c.index)

  -- the rows below a place are the deeper ones that follow its own
  pub subtree_span : span (is_deeper (depth p)) (drop (suc (index_of t p)) (rows t)) ≡ size d.below
  subtree_span = rw rows_from_children (below_span (depth p) d.below c.post c.stops)

  module _ (n : Name) where
    -- where the child stands or would, behind those of lesser names
    abbrev would_stand : ℕ
    would_stand = suc (index_of t p + size (lesser n d.below))

    -- the search for it comes there
    child_in_spot : child_in (rows t) (index_of t p) n
        ≡ child_from (suc (depth p)) n would_stand (flatten (suc (depth p)) (not_lesser n d.below) ++ c.post)
    unfolding child_in
    child_in_spot =
        let q : suc (index_of t p) + size (lesser n d.below) ≡ would_stand = omega arith in
        rw (depth_of_place, rows_from_children)
        (child_from_lesser (suc (depth p)) n (suc (index_of t p)) d.below c.post
        ∙ ap (λ (i : ℕ). child_from (suc (depth p)) n i (flatten (suc (depth p)) (not_lesser n d.below) ++ c.post)) q)

    -- a child is found where it stands
    pub child_in_rows : (e : Place A) → sorted d.below ≡ true → get n d.below ≡ some e → child_in (rows t) (index_of t p) n ≡ Ok (index_of t (p ▹ n))
    child_in_rows e s g =
        child_in_spot ∙ child_from_found (suc (depth p)) n would_stand d.below c.post e s g ∙ ap {B = Child} Ok (spot_index c n e s g)

    -- and one that is not there would stand behind the lesser ones
    pub no_child_in_rows : get n d.below ≡ none → child_in (rows t) (index_of t p) n ≡ Err (suc (index_of t p + size (lesser n d.below)))
    no_child_in_rows g =
        child_in_spot ∙ child_from_greater (suc (depth p)) n would_stand d.below c.post g (child_from_ends (depth p) n would_stand c.post c.stops)
