-- What the code's pastes are in the words of the contracts: a field of a row, the row of a new node, rows put in and taken out.
use Rattle.std.specs.Prelude.{◌≡◌, refl, List, [], ◌∷◌, ◌++◌, ℕ, ◌+◌, ◌-◌, ◌≤◌, ◌<◌, length, set, take, drop, replicate}
use Rattle.std.proofs.Math.Path.{ap}
use Rattle.std.proofs.Common.{sym, ◌∙◌, append_assoc, arith, length-append, length-drop, take-append-drop, length-take-le, take_all, take-take}
use Rattle.std.proofs.lemmas.List.{length-replicate, take-append-le, drop-append-le}
use Rattle.std.proofs.Math.Seq.{paste}
use Rattle.std.proofs.lemmas.List.Edits.{length-paste}
use Rattle.buffers.specs.TableLaws.{zeros_join}
use Rattle.buffers.specs.Fields.{two_bytes, padded}
use Rattle.buffers.specs.FieldsLaws.{length_padded, length_two_bytes, text_part}
use Rattle.buffers.specs.PasteLaws.{paste_join, paste_piece, set_paste, set_behind}
use Rattle.tree.specs.Layout.{row_width, row_start, tag_offset, tag_width, tag_revision_offset, whole_tag_width}
use Rattle.tree.specs.RowAt.{tag_text_at}
use Rattle.tree.proofs.RowAtLaws.{text_in_row}
use Rattle.edits.specs.Changes.{field_bytes, field_put}

module _ (b : List ℕ) (i k : ℕ) where
  -- a piece as long as is said
  pub piece_put : (s : List ℕ) (n : ℕ) → length s ≡ n → paste b (row_start i + k) s n ≡ field_put b i k s
  unfolding field_put
  piece_put s n e = ap (paste b (row_start i + k) s) (sym e)

  -- a byte
  pub byte_put : (v : ℕ) → row_start i + k < length b → set b (row_start i + k) v ≡ field_put b i k (v ∷ [])
  byte_put v h = set_paste b (row_start i + k) v h ∙ piece_put (v ∷ []) 1 refl

  -- a number
  pub number_put : (n : ℕ) → paste b (row_start i + k) (two_bytes n) 2 ≡ field_put b i k (two_bytes n)
  number_put n = piece_put (two_bytes n) 2 (length_two_bytes n)

-- a tag: its text and its number
pub tag_put : (b t : List ℕ) (i n : ℕ) → row_start i + row_width ≤ length b → length t ≤ tag_width
    → paste (paste b (row_start i + tag_offset) (padded tag_width t) tag_width) (row_start i + tag_revision_offset) (two_bytes n) 2 ≡ field_put b i tag_offset (padded tag_width t ++ two_bytes n)
tag_put b t i n h l =
    let T = padded tag_width t in
    let lT = length_padded tag_width t l in
    let lN = length_two_bytes n in
    let q : row_start i + tag_revision_offset ≡ row_start i + tag_offset + tag_width = omega arith in
    ap (λ (at : ℕ). paste (paste b (row_start i + tag_offset) T tag_width) at (two_bytes n) 2) q
    ∙ paste_join b T (two_bytes n) (row_start i + tag_offset) tag_width 2 lT lN (omega arith)
    ∙ piece_put b i tag_offset (T ++ two_bytes n) whole_tag_width (length-append T (two_bytes n) ∙ omega arith)

-- a part that ends before what is written stays
part_before : (b s : List ℕ) (at n k w : ℕ) → k + w ≤ at → at ≤ length b → take w (drop k (paste b at s n)) ≡ take w (drop k b)
part_before b s at n k w h fits =
    let A = take at b in
    let l = length-take-le at b fits in
    let front : (R : List ℕ) → take w (drop k (A ++ R)) ≡ take w (drop k A) =
    λ R. ap (take w) (drop-append-le k A R (omega arith)) ∙ take-append-le w (drop k A) R (omega (arith, length-drop k A)) in
    ap (λ (x : List ℕ). take w (drop k x)) (append_assoc A (take n s) (drop (at + n) b)) ∙ front (take n s ++ drop (at + n) b)
    ∙ sym (front (drop at b)) ∙ ap (λ (x : List ℕ). take w (drop k x)) (take-append-drop at b)

-- a text in front of a field that was cleared is that text filled up
text_in_zeros : (b t : List ℕ) (at w : ℕ) → length t ≤ w → at + w ≤ length b
    → paste (paste b at (replicate w 0) w) at t (length t) ≡ paste b at (padded w t) w
unfolding padded
text_in_zeros b t at w h fits =
    let A = take at b in
    let B = drop (at + w) b in
    let n = length t in
    let X : List ℕ = replicate n 0 in
    let Y : List ℕ = replicate (w - n) 0 in
    let q : w ≡ n + (w - n) = omega arith in
    let zeros : take w (replicate w 0) ≡ X ++ Y = take_all w (replicate w 0) (omega (arith, length-replicate {A = ℕ} w 0)) ∙ ap (λ (k : ℕ). replicate {A = ℕ} k 0) q ∙ zeros_join n (w - n) in
    let g : A ++ (X ++ Y) ++ B ≡ A ++ (X ++ (Y ++ B)) = simp append_assoc in
    let k : A ++ (t ++ (Y ++ B)) ≡ A ++ (t ++ Y) ++ B = simp append_assoc in
    ap (λ (l : List ℕ). paste l at t n) (ap (λ (l : List ℕ). A ++ l ++ B) zeros ∙ g)
    ∙ paste_piece A (Y ++ B) X t at n (length-take-le at b (omega arith)) (length-replicate {A = ℕ} n 0) refl
    ∙ k
    ∙ ap (λ (l : List ℕ). A ++ l ++ B) (sym (take_all w (padded w t) (omega (arith, length_padded w t h))))

-- a text copied into a field that was cleared, a byte behind it, and a name are one text filled up
joined_put : (b t m : List ℕ) (at n from c : ℕ) → length t ≡ n → take n (drop from b) ≡ t → n + length m < tag_width → from + n ≤ at → at + tag_width ≤ length b
    → paste (set (paste (paste b at (replicate tag_width 0) tag_width) at (drop from (paste b at (replicate tag_width 0) tag_width)) n) (at + n) c) (at + 1 + n) m (length m) ≡ paste b at (padded tag_width (t ++ (c ∷ m))) tag_width
joined_put b t m at n from c e w h before fits =
    let Z = paste b at (replicate tag_width 0) tag_width in
    let T = t ++ (c ∷ m) in
    let lZ = length-paste b at (replicate tag_width 0) tag_width fits (omega (arith, length-replicate {A = ℕ} tag_width 0)) in
    let lt = length-append t (c ∷ []) in
    let lT = length-append t (c ∷ m) in
    let q : at + 1 + n ≡ at + (n + 1) = omega arith in
    let r : n + 1 + length m ≡ length T = omega arith in
    let p : take n (drop from Z) ≡ take n t = part_before b (replicate tag_width 0) at tag_width from n before (omega arith) ∙ w ∙ sym (take_all n t (omega arith)) in
    let g : (t ++ (c ∷ [])) ++ m ≡ T = simp append_assoc in
    ap (λ (l : List ℕ). paste (set (take at Z ++ l ++ drop (at + n) Z) (at + n) c) (at + 1 + n) m (length m)) p
    ∙ ap (λ (l : List ℕ). paste l (at + 1 + n) m (length m)) (set_behind Z t at n c e (omega arith))
    ∙ ap (λ (i : ℕ). paste (paste Z at (t ++ (c ∷ [])) (n + 1)) i m (length m)) q
    ∙ paste_join Z (t ++ (c ∷ [])) m at (n + 1) (length m) (omega arith) refl (omega arith)
    ∙ ap (paste Z at ((t ++ (c ∷ [])) ++ m)) r
    ∙ ap (λ (l : List ℕ). paste Z at l (length T)) g
    ∙ text_in_zeros b T at tag_width (omega arith) fits

-- the tag of a child: the text of a tag before, a slash and a name
pub tag_below_put : (b m : List ℕ) (i above n v : ℕ) → row_start i + row_width ≤ length b → above < i → n ≡ length (tag_text_at b above) → n + length m < tag_width
    → paste (paste (set (paste (paste b (row_start i + tag_offset) (replicate tag_width 0) tag_width) (row_start i + tag_offset) (drop (row_start above + tag_offset) (paste b (row_start i + tag_offset) (replicate tag_width 0) tag_width)) n)
    (row_start i + tag_offset + n) 47) (row_start i + 17 + n) m (length m)) (row_start i + tag_revision_offset) (two_bytes v) 2
    ≡ field_put b i tag_offset (padded tag_width (tag_text_at b above ++ (47 ∷ m)) ++ two_bytes v)
unfolding tag_text_at
tag_below_put b m i above n v h below q l =
    let t = tag_text_at b above in
    let at = row_start i + tag_offset in
    let from = row_start above + tag_offset in
    let Z = paste b at (replicate tag_width 0) tag_width in
    let same = text_in_row b above tag_offset tag_width (omega arith) in
    let part = text_part b from tag_width n (q ∙ ap length same) (omega arith) ∙ sym same in
    let u : row_start i + 17 + n ≡ at + 1 + n = omega arith in
    ap (λ (j : ℕ). paste (paste (set (paste Z at (drop from Z) n) (at + n) 47) j m (length m)) (row_start i + tag_revision_offset) (two_bytes v) 2) u
    ∙ ap (λ (s : List ℕ). paste s (row_start i + tag_revision_offset) (two_bytes v) 2) (joined_put b t m at n from 47 (sym q) part l (omega arith) (omega arith))
    ∙ tag_put b (t ++ (47 ∷ m)) i v h (omega (arith, length-append t (47 ∷ m)))

-- a part of a row copied from another row
pub part_copied : (b : List ℕ) (from to k n : ℕ) → row_start from + row_width ≤ length b → k + n ≤ row_width
    → paste b (row_start to + k) (drop (row_start from + k) b) n ≡ field_put b to k (field_bytes b from k n)
unfolding field_bytes
part_copied b from to k n h w =
    let D = drop (row_start from + k) b in
    let l : n ≤ length D = omega (arith, length-drop (row_start from + k) b) in
    ap (λ (s : List ℕ). take (row_start to + k) b ++ s ++ drop (row_start to + k + n) b) (sym (take-take n n D (omega arith)))
    ∙ piece_put b to k (take n D) n (length-take-le n D l)
