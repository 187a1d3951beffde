-- What the code goes by where it tests the order of the rows: the names it keeps by the rows last seen at each depth.
use Rattle.std.specs.Prelude.{◌≡◌, true, false, ◌&&◌, eqb, leb, length, get_or, set, take}
use Rattle.std.proofs.Math.Path.{refl, sym, ap, ap₂}
use Rattle.std.proofs.Common.{◌∙◌, drop_of_length-le, get_or-set_same, get_or-set_other, drop-drop}
use mathlib.Core.List.{List, [], ◌∷◌}
use Rattle.std.proofs.Math.Bool.{and-false}
use Prim.Native.Nat.{ℕ, zero, suc, ◌-◌, ◌*◌, ◌≤◌, ◌<◌}
use native.Mathlib.Omega.{arith}
use Rattle.std.proofs.Math.ListN.{drop}
use Rattle.std.proofs.Math.Seq.{drop-cons}
use borrow.Author.Tests.{leb-true, leb-false, le-leb, lt-leb, eqb-true, eqb-false, eq-eqb, ne_eqb}
use Rattle.buffers.specs.Cases.{case, contra}
use Rattle.buffers.specs.Text.{precedes, every}
use Rattle.buffers.specs.TableLaws.{length_all_from, all_from_at}
use Rattle.syntax.specs.Path.{Name, is_name, most_names}
use Rattle.tree.specs.declared.Kind.{Kind}
use Rattle.tree.specs.Layout.{row_width}
use Rattle.tree.specs.Node.{is_directory, Node}
use Rattle.tree.specs.Rows.{Row}
use Rattle.tree.specs.RowAt.{row_count, row_bytes_at, row_at, all_rows}
use Rattle.tree.proofs.RowAtLaws.{length_all_rows, row_in_rows}
use Rattle.soundness.specs.Sound.{is_row, row_stretches, outermost, innermost, may_follow, follows, in_order}
use Rattle.soundness.specs.Tests.{rest_in_order}
use Rattle.soundness.specs.OrderLaws.{outermost_all, outermost_cons}

-- ---- one row behind another

module _ (depth : ℕ) (kind : Kind) (beside : Name) (r : Row Node) where
  -- it has no name
  pub follow_name : is_name r.name ≡ false → may_follow depth kind beside r ≡ false
  unfolding may_follow
  follow_name e = rw e

  -- it is another `/`
  pub follow_top : r.depth ≡ 0 → may_follow depth kind beside r ≡ false
  unfolding may_follow
  follow_top e = simp (lt-leb 1 r.depth (omega arith), and-false)

  -- it lies too deep
  pub follow_low : 6 < r.depth → may_follow depth kind beside r ≡ false
  unfolding may_follow most_names
  follow_low h = simp (lt-leb r.depth 6 h, and-false)

  -- it leaves out a level
  pub follow_far : 1 < r.depth - depth → may_follow depth kind beside r ≡ false
  unfolding may_follow
  follow_far h =
      simp (lt-leb r.depth depth (omega arith), ne_eqb r.depth (suc depth) (λ e. omega arith), and-false)

  module _ (n : is_name r.name ≡ true) (d : 1 ≤ r.depth) (l : r.depth ≤ 6) where
    -- it lies below
    pub follow_below : r.depth ≡ suc depth → may_follow depth kind beside r ≡ is_directory kind
    unfolding may_follow most_names
    follow_below e =
        rw (n, le-leb 1 r.depth d, le-leb r.depth 6 l, lt-leb r.depth depth (omega arith), eq-eqb r.depth (suc depth) e)

    -- or beside
    pub follow_beside : r.depth ≤ depth → may_follow depth kind beside r ≡ precedes beside r.name
    unfolding may_follow most_names
    follow_beside h = rw (n, le-leb 1 r.depth d, le-leb r.depth 6 l, le-leb r.depth depth h)

same_above : (depth : ℕ) (kind : Kind) (m n : Name) (r : Row Node) → (r.depth ≤ depth → m ≡ n) → may_follow depth kind m r ≡ may_follow depth kind n r
unfolding may_follow
same_above depth kind m n r h = case (leb r.depth depth)
    (λ t. rw (h (leb-true r.depth depth t)))
    (λ t. rw t)

-- the name beside matters only where there is one
same_beside : (depth : ℕ) (kind : Kind) (m n : Name) (r : Row Node) → (1 ≤ r.depth → r.depth ≤ depth → m ≡ n) → may_follow depth kind m r ≡ may_follow depth kind n r
same_beside depth kind m n r h = case (eqb r.depth 0)
    (λ t. let e = eqb-true r.depth 0 t in follow_top depth kind m r e ∙ sym (follow_top depth kind n r e))
    (λ t. let e = eqb-false r.depth 0 t in same_above depth kind m n r (λ l. h (omega arith) l))

-- ---- the rows last seen at each depth

-- the names of the rows last seen, from a depth outwards
unfoldable pub names_to : List ℕ → List ℕ → ℕ → List Name
names_to b last zero = []
names_to b last (suc d) = (row_at b (get_or last (suc d) 0)).name ∷ names_to b last d

module _ (b last : List ℕ) where
  length_names_to : (d : ℕ) → length (names_to b last d) ≡ d
  unfolding names_to
  length_names_to zero = refl
  length_names_to (suc d) = ap suc (length_names_to d)

  outermost_names_to : (k d : ℕ) → k ≤ d → outermost k (names_to b last d) ≡ names_to b last k
  unfolding names_to
  outermost_names_to k zero h =
      let e : k ≡ 0 = omega arith in
      rw e (outermost_all [] 0 refl)
  outermost_names_to k (suc d) h = case (eqb k (suc d))
      (λ t. let e = eqb-true k (suc d) t in rw e (outermost_all (names_to b last (suc d)) (suc d) (sym (length_names_to (suc d)))))
      (λ t.
      let e = eqb-false k (suc d) t in
      outermost_cons k (row_at b (get_or last (suc d) 0)).name (names_to b last d) (omega (arith, length_names_to d)) ∙ outermost_names_to k d (omega arith))

  -- a row seen further in changes none of them
  names_to_set : (d j i : ℕ) → d < j → names_to b (set last j i) d ≡ names_to b last d
  unfolding names_to
  names_to_set zero j i h = refl
  names_to_set (suc d) j i h =
      ap₂ ◌∷◌ (ap (λ (k : ℕ). (row_at b k).name) (get_or-set_other last j (suc d) i 0 (λ e. omega arith))) (names_to_set d j i (omega arith))

  -- the names of a row seen, and of the directories it lies in
  names_after : (k i d : ℕ) → 1 ≤ k → k < length last → k ≤ suc d → names_to b (set last k i) k ≡ (row_at b i).name ∷ outermost (k - 1) (names_to b last d)
  unfolding names_to
  names_after zero i d o l h = let z : ⊥ = omega arith in absurd z
  names_after (suc j) i d o l h =
      let q : suc j - 1 ≡ j = omega arith in
      ap₂ ◌∷◌ (ap (λ (k : ℕ). (row_at b k).name) (get_or-set_same last (suc j) i 0 l))
      (names_to_set j (suc j) i (omega arith) ∙ sym (ap (λ (k : ℕ). outermost k (names_to b last d)) q ∙ outermost_names_to j d (omega arith)))

  innermost_names_to : (d : ℕ) → 1 ≤ d → innermost (names_to b last d) ≡ (row_at b (get_or last d 0)).name
  unfolding names_to innermost
  innermost_names_to zero h = let z : ⊥ = omega arith in absurd z
  innermost_names_to (suc d) h = refl

  -- whether a row may follow, by the row last seen at its depth
  follows_is : (d : ℕ) (kind : Kind) (r : Row Node) → follows (names_to b last d) kind r ≡ may_follow d kind (row_at b (get_or last r.depth 0)).name r
  unfolding follows
  follows_is d kind r =
      ap (λ (k : ℕ). may_follow k kind (innermost (outermost r.depth (names_to b last d))) r) (length_names_to d)
      ∙ same_beside d kind (innermost (outermost r.depth (names_to b last d))) (row_at b (get_or last r.depth 0)).name r
      (λ h l. ap innermost (outermost_names_to r.depth d l) ∙ innermost_names_to r.depth h)

-- ---- all rows

module _ (b : List ℕ) (i : ℕ) (h : i < row_count b) where
  -- the bytes of a row and those behind it
  pub stretches_from : drop i (row_stretches b) ≡ row_bytes_at b i ∷ drop (suc i) (row_stretches b)
  unfolding row_stretches row_bytes_at
  stretches_from =
      drop-cons (row_stretches b) i [] (omega (arith, length_all_from row_width (λ x. x) (row_count b) (drop 2 b)))
      ∙ ap (λ (x : List ℕ). x ∷ drop (suc i) (row_stretches b)) (all_from_at row_width (λ x. x) (row_count b) i (drop 2 b) [] h ∙ ap (take row_width) (drop-drop (row_width * i) 2 b))

  -- a row and those behind it
  pub rows_from : drop i (all_rows b) ≡ row_at b i ∷ drop (suc i) (all_rows b)
  rows_from =
      drop-cons (all_rows b) i (row_at b i) (omega (arith, length_all_rows b))
      ∙ ap (λ (r : Row Node). r ∷ drop (suc i) (all_rows b)) (row_in_rows b i (row_at b i) h)

module _ (b last : List ℕ) (i d : ℕ) (kind : Kind) (h : i < row_count b) where
  rest_is : rest_in_order b i (names_to b last d) kind
      ≡ ((is_row (row_bytes_at b i) && every is_row (drop (suc i) (row_stretches b)))
      && (may_follow d kind (row_at b (get_or last (row_at b i).depth 0)).name (row_at b i)
      && in_order ((row_at b i).name ∷ outermost ((row_at b i).depth - 1) (names_to b last d)) (row_at b i).here.kind (drop (suc i) (all_rows b))))
  unfolding rest_in_order every in_order
  rest_is = rw (stretches_from b i h, rows_from b i h, follows_is b last d kind (row_at b i))

  -- a row that is not sound
  pub rest_row : is_row (row_bytes_at b i) ≡ false → rest_in_order b i (names_to b last d) kind ≡ false
  rest_row e = rest_is ∙ rw e

  -- one that may not follow
  pub rest_follow : may_follow d kind (row_at b (get_or last (row_at b i).depth 0)).name (row_at b i) ≡ false → rest_in_order b i (names_to b last d) kind ≡ false
  rest_follow e = rest_is ∙ simp (e, and-false)

  -- one that is sound and may
  pub rest_next : is_row (row_bytes_at b i) ≡ true → may_follow d kind (row_at b (get_or last (row_at b i).depth 0)).name (row_at b i) ≡ true → (row_at b i).depth < length last
      → rest_in_order b (suc i) (names_to b (set last (row_at b i).depth i) (row_at b i).depth) (row_at b i).here.kind ≡ rest_in_order b i (names_to b last d) kind
  unfolding rest_in_order
  rest_next s f l =
      let r = row_at b i in
      let m = (row_at b (get_or last r.depth 0)).name in
      let e : r.depth ≡ 0 → ⊥ = λ z. contra f (follow_top d kind m r z) in
      let o : r.depth ≤ suc d = case (leb r.depth (suc d))
      (λ t. leb-true r.depth (suc d) t)
      (λ t. contra f (follow_far d kind m r (omega (arith, leb-false r.depth (suc d) t)))) in
      sym (rest_is ∙ rw (s, f) (ap (λ (ns : List Name). every is_row (drop (suc i) (row_stretches b)) && in_order ns r.here.kind (drop (suc i) (all_rows b)))
      (sym (names_after b last r.depth i d (omega arith) l o))))

-- behind the last row there is nothing to test
pub rest_end : (b : List ℕ) (i : ℕ) (names : List Name) (kind : Kind) → row_count b ≤ i → rest_in_order b i names kind ≡ true
unfolding rest_in_order row_stretches every in_order
rest_end b i names kind h =
    let l = length_all_from row_width (λ x. x) (row_count b) (drop 2 b) in
    rw (drop_of_length-le (row_stretches b) {i = i} (omega arith), drop_of_length-le (all_rows b) {i = i} (omega (arith, length_all_rows b)))
