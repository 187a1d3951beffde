-- The changes on the encoding of any rows: rows put in come between those around them, rows taken out go from between, and bytes
-- written into a row change that row alone.
use Rattle.std.specs.Prelude.{◌≡◌}
use Rattle.std.proofs.Math.Path.{refl, sym, ap}
use Rattle.std.proofs.Common.{◌∙◌, arith, drop_at}
use mathlib.Core.List.{List, [], ◌∷◌, ◌++◌, append_assoc}
use Prim.Native.Nat.{ℕ, suc, ◌+◌, ◌-◌, ◌*◌, ◌≤◌}
use Rattle.std.proofs.Math.ListN.{length, take, drop, replicate, length-append}
use Rattle.std.proofs.lemmas.List.{length-replicate}
use Rattle.std.proofs.Math.Seq.{take_at}
use Rattle.buffers.specs.TableLaws.{zeros_join, all_bytes_append}
use Rattle.buffers.specs.Fields.{two_bytes, all_bytes}
use Rattle.buffers.specs.FieldsLaws.{length_two_bytes, number_at_bytes}
use Rattle.buffers.specs.PasteLaws.{paste_piece}
use Rattle.tree.specs.Layout.{row_width, row_start}
use Rattle.tree.specs.Forest.{Place}
use Rattle.tree.specs.Node.{Node}
use Rattle.tree.specs.Rows.{Row, rows}
use Rattle.tree.specs.WellFormed.{most_nodes}
use Rattle.tree.specs.Encoding.{row_bytes, encode_rows, encode_tree}
use Rattle.tree.specs.RowAt.{row_count}
use Rattle.edits.specs.Changes.{rows_put, rows_taken, field_bytes, field_put}

-- ---- bytes in pieces

module _ (C : List ℕ) (lC : length C ≡ 2) where
  -- the rows before an index
  before_row : (X R : List ℕ) (i : ℕ) → length X ≡ row_width * i → take (row_width * i) (drop 2 (C ++ (X ++ R))) ≡ X
  before_row X R i l = ap (take (row_width * i)) (drop_at C (X ++ R) 2 lC) ∙ take_at X R (row_width * i) l

  -- and what stands from there on
  from_row : (X R : List ℕ) (i : ℕ) → length X ≡ row_width * i → drop (row_start i) (C ++ (X ++ R)) ≡ R
  from_row X R i l =
      ap (drop (row_start i)) (sym (append_assoc C X R)) ∙ drop_at (C ++ X) R (row_start i) (length-append C X ∙ omega arith)

  module _ (X Y : List ℕ) (i n c : ℕ) (lX : length X ≡ row_width * i) where
    -- rows S put in before Y, and so many bytes Z fewer behind
    put_pieces : (Z R S Q : List ℕ) → length Y ≡ row_width * (c - i) → length Z ≡ row_width * n → length S ≡ row_width * n → i ≤ c
        → row_count (C ++ (X ++ (Y ++ (Z ++ R)))) ≡ c
        → rows_put (C ++ (X ++ (Y ++ (Z ++ R)))) i n (S ++ Q) ≡ two_bytes (c + n) ++ (X ++ (S ++ (Y ++ R)))
    unfolding rows_put
    put_pieces Z R S Q lY lZ lS h q =
        let b = C ++ (X ++ (Y ++ (Z ++ R))) in
        let T = X ++ (Y ++ Z) in
        let first = before_row X (Y ++ (Z ++ R)) i lX in
        let new = take_at S Q (row_width * n) lS in
        let moved : take (row_width * (c - i)) (drop (row_start i) b) ≡ Y =
        ap (take (row_width * (c - i))) (from_row X (Y ++ (Z ++ R)) i lX) ∙ take_at Y (Z ++ R) (row_width * (c - i)) lY in
        let g : X ++ (Y ++ (Z ++ R)) ≡ T ++ R = simp append_assoc in
        let lT : length T ≡ row_width * (c + n) = length-append X (Y ++ Z) ∙ omega (arith, length-append Y Z) in
        let rest : drop (row_start (c + n)) b ≡ R = ap (λ (l : List ℕ). drop (row_start (c + n)) (C ++ l)) g ∙ from_row T R (c + n) lT in
        rw (q, first, new, moved, rest)

    -- rows M taken out before Y, and so many zeros more behind
    taken_pieces : (M R : List ℕ) → length M ≡ row_width * n → length Y ≡ row_width * (c - (i + n)) → i + n ≤ c
        → row_count (C ++ (X ++ (M ++ (Y ++ R)))) ≡ c
        → rows_taken (C ++ (X ++ (M ++ (Y ++ R)))) i n ≡ two_bytes (c - n) ++ (X ++ (Y ++ (replicate (row_width * n) 0 ++ R)))
    unfolding rows_taken
    taken_pieces M R lM lY h q =
        let b = C ++ (X ++ (M ++ (Y ++ R))) in
        let w = row_width * (c - (i + n)) in
        let T = X ++ (M ++ Y) in
        let first = before_row X (M ++ (Y ++ R)) i lX in
        let a : X ++ (M ++ (Y ++ R)) ≡ (X ++ M) ++ (Y ++ R) = simp append_assoc in
        let moved : take w (drop (row_start (i + n)) b) ≡ Y =
        ap (λ (l : List ℕ). take w (drop (row_start (i + n)) (C ++ l))) a
        ∙ ap (take w) (from_row (X ++ M) (Y ++ R) (i + n) (length-append X M ∙ omega arith))
        ∙ take_at Y R w lY in
        let g : X ++ (M ++ (Y ++ R)) ≡ T ++ R = simp append_assoc in
        let lT : length T ≡ row_width * c = length-append X (M ++ Y) ∙ omega (arith, length-append M Y) in
        let rest : drop (row_start c) b ≡ R = ap (λ (l : List ℕ). drop (row_start c) (C ++ l)) g ∙ from_row T R c lT in
        rw (q, first, moved, rest)

module _ (A B old : List ℕ) (i k : ℕ) (l : length A ≡ row_start i + k) where
  -- a field is read where it stands
  field_read : field_bytes (A ++ (old ++ B)) i k (length old) ≡ old
  unfolding field_bytes
  field_read = ap (take (length old)) (drop_at A (old ++ B) (row_start i + k) l) ∙ take_at old B (length old) refl

  -- and written there
  pub field_pieces : (new : List ℕ) → length old ≡ length new → field_put (A ++ (old ++ B)) i k new ≡ A ++ (new ++ B)
  unfolding field_put
  field_pieces new e = paste_piece A B old new (row_start i + k) (length new) l e refl

-- ---- the encoding of rows

-- a tree's encoding is that of its rows
pub encode_tree_rows : (t : Place Node) → encode_tree t ≡ encode_rows (rows t)
unfolding encode_tree
encode_tree_rows t = refl

-- rows that take their widths
abbrev pub RowsWide : List (Row Node) → Type 0
RowsWide rs = length (all_bytes row_bytes rs) ≡ length rs * row_width

-- the zeros of n rows fewer are those and the zeros of n rows
zeros_split : (c n : ℕ) → c + n ≤ 256 → replicate {A = ℕ} ((256 - c) * row_width) 0 ≡ replicate (row_width * n) 0 ++ replicate ((256 - (c + n)) * row_width) 0
zeros_split c n h =
    let e : (256 - c) * row_width ≡ row_width * n + (256 - (c + n)) * row_width = omega arith in
    ap (λ (k : ℕ). replicate {A = ℕ} k 0) e ∙ zeros_join (row_width * n) ((256 - (c + n)) * row_width)

-- so many rows with such bytes
encoded : (rs : List (Row Node)) (n : ℕ) (B : List ℕ) → length rs ≡ n → all_bytes row_bytes rs ≡ B
    → encode_rows rs ≡ two_bytes n ++ (B ++ replicate ((256 - n) * row_width) 0)
unfolding encode_rows most_nodes
encoded rs n B l e = rw (l, e)

count_of : (n : ℕ) (R : List ℕ) → row_count (two_bytes n ++ R) ≡ n
unfolding row_count
count_of n R = number_at_bytes [] R 0 n refl

-- rows read from where they stand
pub table_part : (xs ms ys : List (Row Node)) → RowsWide xs → RowsWide ms
    → take (row_width * length ms) (drop (row_start (length xs)) (encode_rows (xs ++ (ms ++ ys)))) ≡ all_bytes row_bytes ms
table_part xs ms ys wx wm =
    let X = all_bytes row_bytes xs in
    let M = all_bytes row_bytes ms in
    let Y = all_bytes row_bytes ys in
    let c = length (xs ++ (ms ++ ys)) in
    let Z : List ℕ = replicate ((256 - c) * row_width) 0 in
    let a : all_bytes row_bytes (xs ++ (ms ++ ys)) ≡ X ++ (M ++ Y) = all_bytes_append row_bytes xs (ms ++ ys) ∙ ap (λ (l : List ℕ). X ++ l) (all_bytes_append row_bytes ms ys) in
    let g : (X ++ (M ++ Y)) ++ Z ≡ X ++ (M ++ (Y ++ Z)) = simp append_assoc in
    let is : encode_rows (xs ++ (ms ++ ys)) ≡ two_bytes c ++ (X ++ (M ++ (Y ++ Z))) =
    encoded (xs ++ (ms ++ ys)) c (X ++ (M ++ Y)) refl a ∙ ap (λ (l : List ℕ). two_bytes c ++ l) g in
    ap (λ (b : List ℕ). take (row_width * length ms) (drop (row_start (length xs)) b)) is
    ∙ ap (take (row_width * length ms)) (from_row (two_bytes c) (length_two_bytes c) X (M ++ (Y ++ Z)) (length xs) (omega arith))
    ∙ take_at M (Y ++ Z) (row_width * length ms) (omega arith)

-- rows put in
pub table_put : (xs ns ys : List (Row Node)) (Q : List ℕ) → RowsWide xs → RowsWide ns → RowsWide ys → length xs + length ys + length ns ≤ 256
    → rows_put (encode_rows (xs ++ ys)) (length xs) (length ns) (all_bytes row_bytes ns ++ Q) ≡ encode_rows (xs ++ (ns ++ ys))
table_put xs ns ys Q wx wn wy few =
    let i = length xs in
    let n = length ns in
    let c = length xs + length ys in
    let X = all_bytes row_bytes xs in
    let S = all_bytes row_bytes ns in
    let Y = all_bytes row_bytes ys in
    let Z : List ℕ = replicate (row_width * n) 0 in
    let R : List ℕ = replicate ((256 - (c + n)) * row_width) 0 in
    let C = two_bytes c in
    let was : encode_rows (xs ++ ys) ≡ C ++ (X ++ (Y ++ (Z ++ R))) =
    encoded (xs ++ ys) c (X ++ Y) (length-append xs ys) (all_bytes_append row_bytes xs ys)
    ∙ ap (λ (l : List ℕ). C ++ ((X ++ Y) ++ l)) (zeros_split c n few)
    ∙ ap (λ (l : List ℕ). C ++ l) (append_assoc X Y (Z ++ R)) in
    let lys : length (ns ++ ys) ≡ n + length ys = length-append ns ys in
    let l : length (xs ++ (ns ++ ys)) ≡ c + n = length-append xs (ns ++ ys) ∙ omega arith in
    let a : all_bytes row_bytes (xs ++ (ns ++ ys)) ≡ X ++ (S ++ Y) = all_bytes_append row_bytes xs (ns ++ ys) ∙ ap (λ (l : List ℕ). X ++ l) (all_bytes_append row_bytes ns ys) in
    let g : (X ++ (S ++ Y)) ++ R ≡ X ++ (S ++ (Y ++ R)) = simp append_assoc in
    let is : encode_rows (xs ++ (ns ++ ys)) ≡ two_bytes (c + n) ++ (X ++ (S ++ (Y ++ R))) =
    encoded (xs ++ (ns ++ ys)) (c + n) (X ++ (S ++ Y)) l a ∙ ap (λ (l : List ℕ). two_bytes (c + n) ++ l) g in
    ap (λ (b : List ℕ). rows_put b i n (S ++ Q)) was
    ∙ put_pieces C (length_two_bytes c) X Y i n c (omega arith) Z R S Q (omega arith) (length-replicate {A = ℕ} (row_width * n) 0) (omega arith) (omega arith) (count_of c (X ++ (Y ++ (Z ++ R))))
    ∙ sym is

-- rows taken out
pub table_taken : (xs ms ys : List (Row Node)) → RowsWide xs → RowsWide ms → RowsWide ys → length xs + length ms + length ys ≤ 256
    → rows_taken (encode_rows (xs ++ (ms ++ ys))) (length xs) (length ms) ≡ encode_rows (xs ++ ys)
table_taken xs ms ys wx wm wy few =
    let i = length xs in
    let n = length ms in
    let c = i + n + length ys in
    let X = all_bytes row_bytes xs in
    let M = all_bytes row_bytes ms in
    let Y = all_bytes row_bytes ys in
    let Z : List ℕ = replicate (row_width * n) 0 in
    let R : List ℕ = replicate ((256 - c) * row_width) 0 in
    let C = two_bytes c in
    let lys : length (ms ++ ys) ≡ n + length ys = length-append ms ys in
    let l : length (xs ++ (ms ++ ys)) ≡ c = length-append xs (ms ++ ys) ∙ omega arith in
    let a : all_bytes row_bytes (xs ++ (ms ++ ys)) ≡ X ++ (M ++ Y) = all_bytes_append row_bytes xs (ms ++ ys) ∙ ap (λ (l : List ℕ). X ++ l) (all_bytes_append row_bytes ms ys) in
    let g : (X ++ (M ++ Y)) ++ R ≡ X ++ (M ++ (Y ++ R)) = simp append_assoc in
    let was : encode_rows (xs ++ (ms ++ ys)) ≡ C ++ (X ++ (M ++ (Y ++ R))) =
    encoded (xs ++ (ms ++ ys)) c (X ++ (M ++ Y)) l a ∙ ap (λ (l : List ℕ). C ++ l) g in
    let k : length (xs ++ ys) ≡ c - n = length-append xs ys ∙ omega arith in
    let e : c - n + n ≡ c = omega arith in
    let z : replicate {A = ℕ} ((256 - (c - n)) * row_width) 0 ≡ Z ++ R =
    zeros_split (c - n) n (omega arith) ∙ ap (λ (j : ℕ). Z ++ replicate {A = ℕ} ((256 - j) * row_width) 0) e in
    let is : encode_rows (xs ++ ys) ≡ two_bytes (c - n) ++ (X ++ (Y ++ (Z ++ R))) =
    encoded (xs ++ ys) (c - n) (X ++ Y) k (all_bytes_append row_bytes xs ys)
    ∙ ap (λ (l : List ℕ). two_bytes (c - n) ++ ((X ++ Y) ++ l)) z
    ∙ ap (λ (l : List ℕ). two_bytes (c - n) ++ l) (append_assoc X Y (Z ++ R)) in
    ap (λ (b : List ℕ). rows_taken b i n) was
    ∙ taken_pieces C (length_two_bytes c) X Y i n c (omega arith) M R (omega arith) (omega arith) (omega arith) (count_of c (X ++ (M ++ (Y ++ R))))
    ∙ sym is

-- a field of a row: P stands before it in the row and Q behind it
module _ (xs ys : List (Row Node)) (P Q : List ℕ) (w : RowsWide xs) where
  -- all that stands before the field, and all behind it
  front : List ℕ
  front = two_bytes (length xs + suc (length ys)) ++ (all_bytes row_bytes xs ++ P)

  back : List ℕ
  back = Q ++ (all_bytes row_bytes ys ++ replicate ((256 - (length xs + suc (length ys))) * row_width) 0)

  field_between : (r : Row Node) (s : List ℕ) → row_bytes r ≡ P ++ (s ++ Q) → encode_rows (xs ++ r ∷ ys) ≡ front ++ (s ++ back)
  unfolding front back all_bytes
  field_between r s e =
      let n = length xs + suc (length ys) in
      let X = all_bytes row_bytes xs in
      let Y = all_bytes row_bytes ys in
      let Z : List ℕ = replicate ((256 - n) * row_width) 0 in
      let g : (X ++ ((P ++ (s ++ Q)) ++ Y)) ++ Z ≡ (X ++ P) ++ (s ++ (Q ++ (Y ++ Z))) = simp append_assoc in
      encoded (xs ++ r ∷ ys) n (X ++ ((P ++ (s ++ Q)) ++ Y)) (length-append xs (r ∷ ys))
      (all_bytes_append row_bytes xs (r ∷ ys) ∙ ap (λ (l : List ℕ). X ++ (l ++ Y)) e)
      ∙ ap (λ (l : List ℕ). two_bytes n ++ l) g
      ∙ sym (append_assoc (two_bytes n) (X ++ P) (s ++ (Q ++ (Y ++ Z))))

  length_front : (k : ℕ) → length P ≡ k → length front ≡ row_start (length xs) + k
  unfolding front
  length_front k l =
      let n = length xs + suc (length ys) in
      let X = all_bytes row_bytes xs in
      length-append (two_bytes n) (X ++ P) ∙ omega (arith, length-append X P, length_two_bytes n)

  module _ (k : ℕ) (l : length P ≡ k) (r : Row Node) (old : List ℕ) (e : row_bytes r ≡ P ++ (old ++ Q)) where
    -- read from the encoding
    pub table_field_at : field_bytes (encode_rows (xs ++ r ∷ ys)) (length xs) k (length old) ≡ old
    table_field_at =
        ap (λ (b : List ℕ). field_bytes b (length xs) k (length old)) (field_between r old e)
        ∙ field_read front back old (length xs) k (length_front k l)

    -- and written into it: the encoding of the rows with that field changed
    pub table_field_put : (u : Row Node) (new : List ℕ) → length old ≡ length new → row_bytes u ≡ P ++ (new ++ Q)
        → field_put (encode_rows (xs ++ r ∷ ys)) (length xs) k new ≡ encode_rows (xs ++ u ∷ ys)
    table_field_put u new q f =
        ap (λ (b : List ℕ). field_put b (length xs) k new) (field_between r old e)
        ∙ field_pieces front back old (length xs) k (length_front k l) new q
        ∙ sym (field_between u new f)
