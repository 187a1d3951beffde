-- What the code's pastes are in the words of the contracts: a field of a row, the row of a new node, rows put in and taken out.
use Rattle.std.specs.Prelude.{◌≡◌, List, [], ◌∷◌, ◌++◌, ℕ, zero, suc, ◌+◌, ◌-◌, ◌*◌, ◌≤◌, length, take, drop, replicate}
use Rattle.std.proofs.Math.Path.{refl}
use Rattle.std.proofs.Common.{ap, sym, ◌∙◌, append_assoc, append-nil, arith, zero-add, suc-add, length-append, length-drop, drop_of_length-le, length-take-le, take-add, take_all, drop_at}
use Rattle.std.proofs.Math.Option.{none}
use Rattle.std.proofs.lemmas.List.{length-replicate}
use Rattle.std.proofs.Math.Seq.{paste}
use Rattle.buffers.specs.Fields.{two_bytes, padded, all_bytes}
use Rattle.buffers.specs.FieldsLaws.{length_padded}
use Rattle.buffers.specs.PasteLaws.{paste_two, paste_join, gap_filled}
use Rattle.tree.specs.Layout.{row_width, tree_width, row_start, name_width, later_rows_width, head_width, name_offset, behind_name_width, tag_offset}
use Rattle.tree.specs.Forest.{leaf}
use Rattle.tree.specs.Rows.{flatten, rows}
use Rattle.tree.specs.WellFormed.{most_nodes}
use Rattle.tree.specs.Encoding.{kind_byte, tag_bytes, row_bytes, encode_rows, encode_tree}
use Rattle.tree.specs.RowAt.{row_count}
use Rattle.edits.specs.declared.Fresh.{Fresh}
use Rattle.edits.specs.Changes.{rows_put, rows_taken, fresh_node, head_bytes, fresh_row}

-- ---- the row of a new node

-- the fields before the name
pub head_written : (b : List ℕ) (at depth : ℕ) (f : Fresh) → at + head_width ≤ length b
    → paste (paste (paste b at (depth ∷ kind_byte f.kind ∷ f.owner.0 ∷ f.group.0 ∷ []) 4) (at + 4) (two_bytes f.mode) 2) (at + 6) (two_bytes f.revision) 2
    ≡ paste b at (head_bytes depth f) head_width
unfolding head_bytes two_bytes
head_written b at depth f h =
    let K : List ℕ = depth ∷ kind_byte f.kind ∷ f.owner.0 ∷ f.group.0 ∷ [] in
    let M = two_bytes f.mode in
    ap (λ (l : List ℕ). paste l (at + 6) (two_bytes f.revision) 2) (paste_join b K M at 4 2 refl refl (omega arith))
    ∙ paste_join b (K ++ M) (two_bytes f.revision) at 6 2 refl refl (omega arith)

-- a new node, field by field
pub fresh_node_is : (f : Fresh) → fresh_node f
    ≡ record { kind = f.kind; owner = f.owner; group = f.group; mode = f.mode; revision = f.revision; tag = none; content = [] }
unfolding fresh_node
fresh_node_is f = refl

module _ (depth : ℕ) (name : List ℕ) (f : Fresh) where
  length_head : length (head_bytes depth f) ≡ head_width
  unfolding head_bytes two_bytes
  length_head = refl

  -- behind the name there are only zeros
  fresh_parts : row_bytes (fresh_row depth name f) ≡ head_bytes depth f ++ padded name_width name ++ replicate behind_name_width 0
  unfolding row_bytes head_bytes two_bytes fresh_node tag_bytes padded
  fresh_parts = refl

  pub length_fresh : length name ≤ name_width → length (row_bytes (fresh_row depth name f)) ≡ row_width
  length_fresh h =
      let H = head_bytes depth f in
      let N = padded name_width name in
      let Z : List ℕ = replicate behind_name_width 0 in
      let l = length_padded name_width name h in
      let z = length-replicate {A = ℕ} behind_name_width 0 in
      ap length fresh_parts ∙ length-append (H ++ N) Z ∙ omega (arith, length-append H N, length_head)

  -- what is written piece by piece is the row
  pub row_written : (b : List ℕ) (at : ℕ) → at + row_width ≤ length b → length name ≤ name_width
      → paste (paste (paste b at (head_bytes depth f) head_width) (at + name_offset) (padded name_width name) name_width) (at + tag_offset) (replicate behind_name_width 0) behind_name_width ≡ paste b at (row_bytes (fresh_row depth name f)) row_width
  row_written b at fits h =
      let H = head_bytes depth f in
      let N = padded name_width name in
      let Z : List ℕ = replicate behind_name_width 0 in
      let l = length_padded name_width name h in
      let z = length-replicate {A = ℕ} behind_name_width 0 in
      ap (λ (s : List ℕ). paste s (at + tag_offset) Z behind_name_width) (paste_join b H N at head_width name_width length_head l (omega arith))
      ∙ paste_join b (H ++ N) Z at tag_offset behind_name_width (length-append H N ∙ omega (arith, length_head)) z (omega arith)
      ∙ ap (λ (s : List ℕ). paste b at s row_width) (sym fresh_parts)

-- ---- rows put in and taken out

-- the count written
counted : (b : List ℕ) (n : ℕ) → paste b 0 (two_bytes n) 2 ≡ two_bytes n ++ drop 2 b
unfolding two_bytes
counted b n = refl

-- behind the count, the rows up to an index stay
behind_count : (b R : List ℕ) (k : ℕ) → 2 + k ≤ length b → drop 2 (take (2 + k) b ++ R) ≡ take k (drop 2 b) ++ R
behind_count b R k h =
    ap (λ (l : List ℕ). drop 2 (l ++ R)) (take-add 2 k b)
    ∙ ap (drop 2) (append_assoc (take 2 b) (take k (drop 2 b)) R)
    ∙ drop_at (take 2 b) (take k (drop 2 b) ++ R) 2 (length-take-le 2 b (omega arith))

pub put_written : (b s : List ℕ) (at n c : ℕ) → length b ≡ tree_width → c ≡ row_count b → at ≤ c → c + n ≤ 256
    → paste (paste (paste b (row_start at + row_width * n) (drop (row_start at) b) (row_width * (c - at))) (row_start at) s (row_width * n)) 0 (two_bytes (c + n)) 2
    ≡ rows_put b at n s
unfolding rows_put
put_written b s at n c e q h k =
    let i = row_start at in
    let g = row_width * n in
    let m = row_width * (c - at) in
    let z : i + g + m ≡ row_start (c + n) = omega arith in
    let R = take g s ++ (take m (drop i b) ++ drop (i + g + m) b) in
    rw (← q)
    (counted (paste (paste b (i + g) (drop i b) m) i s g) (c + n)
    ∙ ap (λ (l : List ℕ). two_bytes (c + n) ++ drop 2 l) (gap_filled b s i g m (omega arith))
    ∙ ap (λ (l : List ℕ). two_bytes (c + n) ++ l) (behind_count b R (row_width * at) (omega arith))
    ∙ ap (λ (j : ℕ). two_bytes (c + n) ++ (take (row_width * at) (drop 2 b) ++ (take g s ++ (take m (drop i b) ++ drop j b)))) z)

pub taken_written : (b : List ℕ) (at n c : ℕ) → length b ≡ tree_width → c ≡ row_count b → c ≤ 256 → at + n ≤ c
    → paste (paste (paste b (row_start at) (drop (row_start at + row_width * n) b) (row_width * (c - (at + n)))) (row_start (c - n)) (replicate (row_width * n) 0) (row_width * n)) 0 (two_bytes (c - n)) 2
    ≡ rows_taken b at n
unfolding rows_taken
taken_written b at n c e q h k =
    let i = row_start at in
    let g = row_width * n in
    let m = row_width * (c - (at + n)) in
    let Z : List ℕ = replicate g 0 in
    let P = paste b i (drop (i + g) b) m in
    let j : row_start (c - n) ≡ i + m = omega arith in
    let u : i + g ≡ row_start (at + n) = omega arith in
    let z : i + m + g ≡ row_start c = omega arith in
    let R = take m (drop (i + g) b) ++ (take g Z ++ drop (i + m + g) b) in
    rw (← q)
    (counted (paste P (row_start (c - n)) Z g) (c - n)
    ∙ ap (λ (x : ℕ). two_bytes (c - n) ++ drop 2 (paste P x Z g)) j
    ∙ ap (λ (l : List ℕ). two_bytes (c - n) ++ drop 2 l) (paste_two b (drop (i + g) b) Z i m g (omega (arith, length-drop (i + g) b)) (omega arith))
    ∙ ap (λ (l : List ℕ). two_bytes (c - n) ++ l) (behind_count b R (row_width * at) (omega arith))
    ∙ ap (λ (x : ℕ). two_bytes (c - n) ++ (take (row_width * at) (drop 2 b) ++ (take m (drop x b) ++ (take g Z ++ drop (i + m + g) b)))) u
    ∙ ap (λ (x : ℕ). two_bytes (c - n) ++ (take (row_width * at) (drop 2 b) ++ (take m (drop (row_start (at + n)) b) ++ (take g Z ++ drop x b)))) z
    ∙ ap (λ (l : List ℕ). two_bytes (c - n) ++ (take (row_width * at) (drop 2 b) ++ (take m (drop (row_start (at + n)) b) ++ (l ++ drop (row_start c) b))))
    (take_all g Z (omega (arith, length-replicate {A = ℕ} g 0))))

-- ---- a tree of `/` alone

drop_zeros : (k n : ℕ) → drop {A = ℕ} k (replicate (k + n) 0) ≡ replicate n 0
drop_zeros zero n = ap (λ (m : ℕ). replicate {A = ℕ} m 0) (zero-add n)
drop_zeros (suc k) n = ap (λ (m : ℕ). drop {A = ℕ} (suc k) (replicate m 0)) (suc-add k n) ∙ drop_zeros k n

-- zeros everywhere, then the count and one row
planted : (b r : List ℕ) (w n : ℕ) → length b ≡ 2 + w + n → length r ≡ w
    → paste (paste (paste b 0 (replicate (2 + w + n) 0) (2 + w + n)) 0 (two_bytes 1) 2) 2 r w ≡ two_bytes 1 ++ (r ++ replicate n 0)
unfolding two_bytes
planted b r w n e l =
    let N = 2 + w + n in
    let Z : List ℕ = replicate N 0 in
    let lZ = length-replicate {A = ℕ} N 0 in
    let none_left : drop (0 + N) b ≡ [] = drop_of_length-le b {i = 0 + N} (omega arith) in
    let a : paste b 0 Z N ≡ Z = rw (take_all N Z (omega arith), none_left) (append-nil Z) in
    ap (λ (s : List ℕ). paste (paste s 0 (two_bytes 1) 2) 2 r w) a
    ∙ paste_two Z (two_bytes 1) r 0 2 w (omega arith) (omega arith)
    ∙ rw (take_all w r (omega arith), drop_zeros (2 + w) n)

pub planted_tree : (b : List ℕ) (f : Fresh) → length b ≡ tree_width
    → paste (paste (paste b 0 (replicate tree_width 0) tree_width) 0 (two_bytes 1) 2) 2 (row_bytes (record { depth = 0; name = []; here = fresh_node f })) row_width
    ≡ encode_tree (leaf (fresh_node f))
unfolding encode_tree encode_rows all_bytes rows leaf flatten most_nodes
planted_tree b f e =
    let r = row_bytes (fresh_row 0 [] f) in
    planted b r row_width later_rows_width e (length_fresh 0 [] f (omega arith))
    ∙ ap (λ (l : List ℕ). two_bytes 1 ++ (l ++ replicate later_rows_width 0)) (sym (append-nil r))
