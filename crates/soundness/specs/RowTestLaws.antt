-- A row's bytes pass field by field just if they are those of a row with a node in range.
--
-- In order: bytes written and read; the parts of a row; the whole row.
use Rattle.std.specs.Prelude.{◌≡◌, Bool, true, false, eqb}
use Rattle.std.proofs.Math.Path.{refl, sym, ap, ap₂}
use Rattle.std.proofs.Common.{◌∙◌, arith, take-append-drop, take-add, drop-drop, drop-cons, take_all, eqb-true, eq-eqb}
use mathlib.Core.List.{List, [], ◌∷◌, ◌++◌}
use Rattle.std.proofs.Math.Option.{Option, none, some}
use Rattle.std.proofs.Math.Bool.{◌&&◌, and-false}
use Prim.Native.Nat.{ℕ, zero, suc, ◌+◌, ◌-◌, ◌*◌, ◌/◌, ◌%◌, ◌≤◌, ◌<◌}
use Rattle.std.proofs.Math.Dec.{leb, ltb}
use Rattle.std.proofs.Math.ListN.{length, get_or, take, drop, replicate, length-drop, length-append}
use Rattle.std.proofs.Math.Seq.{length-take-le, take-nil}
use Rattle.buffers.specs.Cases.{case, eqb_flip}
use Rattle.buffers.specs.Text.{Text, same_text, every}
use Rattle.buffers.specs.TextLaws.{same_text_refl}
use Rattle.buffers.specs.Fields.{two_bytes, number_at, padded, unpadded, text_at, all_zero, zeros_at, is_filled}
use Rattle.buffers.specs.FieldsLaws.{length_padded, length_two_bytes, field_text_fits}
use Rattle.syntax.specs.Form.{◌>>=◌}
use Rattle.syntax.specs.Number.{is_mode}
use Rattle.syntax.specs.Field.{is_content}
use Rattle.syntax.specs.Form.{is_some}
use Rattle.syntax.specs.Path.{EntryPath, entry_path}
use Rattle.syntax.proofs.PathLaws.{entry_is_entry}
use Rattle.tree.specs.Layout.{row_width, mode_offset, revision_offset, name_offset, name_width, tag_offset, tag_width, tag_revision_offset, whole_tag_width, content_offset, content_width, base_offset, base_width}
use Rattle.tree.specs.WellFormed.{last_revision, is_tag, fits_kind, is_node}
use Rattle.syntax.proofs.ParentLaws.{text_of_entry}
use Rattle.tree.specs.Encoding.{kind_byte, kind_of, tag_bytes, tag_of, row_bytes, read_row}
use Rattle.soundness.specs.Sound.{is_row}
use Rattle.soundness.specs.Tests.{is_kind_byte, has_numbers, has_tag, has_content, row_test}

-- ---- bytes written and read

-- texts made of two parts are the same if both parts are
same_append : (a b c d : Text) → length a ≡ length c → same_text (a ++ b) (c ++ d) ≡ (same_text a c && same_text b d)
unfolding same_text
same_append [] b [] d h = refl
same_append [] b (y ∷ c) d h = let z : ⊥ = omega arith in absurd z
same_append (x ∷ a) b [] d h = let z : ⊥ = omega arith in absurd z
same_append (x ∷ a) b (y ∷ c) d h = case (eqb x y) (λ t. rw t (same_append a b c d (omega arith))) (λ t. rw t)

-- so with what stands from a place on
pub same_part : (i w : ℕ) (a b x : List ℕ) → length a ≡ w → i + w ≤ length x
    → same_text (a ++ b) (drop i x) ≡ (same_text a (take w (drop i x)) && same_text b (drop (i + w) x))
same_part i w a b x h l =
    let n : length (take w (drop i x)) ≡ w = length-take-le w (drop i x) (omega (arith, length-drop i x)) in
    ap (same_text (a ++ b)) (sym (take-append-drop w (drop i x)))
    ∙ same_append a b (take w (drop i x)) (drop w (drop i x)) (h ∙ sym n)
    ∙ ap (λ (y : List ℕ). same_text a (take w (drop i x)) && same_text b y) (drop-drop w i x)

same_zeros : (l : List ℕ) → same_text (replicate (length l) 0) l ≡ all_zero l
unfolding same_text all_zero every
same_zeros [] = refl
same_zeros (x ∷ l) = ap₂ ◌&&◌ (eqb_flip 0 x) (same_zeros l)

-- zeros at a place
pub same_zeros_at : (i n : ℕ) (x : List ℕ) → i + n ≤ length x → same_text (replicate n 0) (take n (drop i x)) ≡ zeros_at i n x
unfolding zeros_at
same_zeros_at i n x h =
    let l : length (take n (drop i x)) ≡ n = length-take-le n (drop i x) (omega (arith, length-drop i x)) in
    ap (λ (k : ℕ). same_text (replicate k 0) (take n (drop i x))) (sym l) ∙ same_zeros (take n (drop i x))

same_unpadded : (l : List ℕ) → same_text (padded (length l) (unpadded l)) l ≡ all_zero (drop (length (unpadded l)) l)
unfolding padded unpadded same_text
same_unpadded [] = unfold all_zero every in refl
same_unpadded (x ∷ l) = case (eqb x 0)
    (λ t. let q : suc (length l) - 0 ≡ suc (length l) = omega arith in rw t (rw q (same_zeros (x ∷ l))))
    (λ t.
    let q : suc (length l) - suc (length (unpadded l)) ≡ length l - length (unpadded l) = omega arith in
    rw t (rw (q, eq-eqb x x refl) (same_unpadded l)))

drop_take : (k w : ℕ) (l : List ℕ) → drop k (take w l) ≡ take (w - k) (drop k l)
drop_take zero w l = let q : w - 0 ≡ w = omega arith in rw q
drop_take (suc k) zero l = let q : 0 - suc k ≡ 0 = omega arith in rw q
drop_take (suc k) (suc w) [] = sym (take-nil (suc w - suc k))
drop_take (suc k) (suc w) (x ∷ l) = let q : suc w - suc k ≡ w - k = omega arith in rw q (drop_take k w l)

-- a field is filled up if its bytes behind the text are zeros
pub filled_in_field : (i w : ℕ) (x : List ℕ) → (let l = take w (drop i x) in is_filled i w x ≡ all_zero (drop (length (unpadded l)) l))
unfolding is_filled text_at zeros_at
filled_in_field i w x =
    let n = length (unpadded (take w (drop i x))) in
    ap all_zero (sym (drop_take n w (drop i x) ∙ ap (take (w - n)) (drop-drop n i x)))

module _ (i w : ℕ) (x : List ℕ) (h : i + w ≤ length x) where
  -- a field's text is no longer than the field
  pub length_text_at : length (text_at i w x) ≤ w
  length_text_at = field_text_fits x i w

  -- the text filled up is the field if the rest of it is zeros
  pub same_filled : same_text (padded w (text_at i w x)) (take w (drop i x)) ≡ is_filled i w x
  unfolding text_at
  same_filled =
      let l = take w (drop i x) in
      let e : length l ≡ w = length-take-le w (drop i x) (omega (arith, length-drop i x)) in
      ap (λ (k : ℕ). same_text (padded k (unpadded l)) l) (sym e) ∙ same_unpadded l ∙ sym (filled_in_field i w x)

-- the two bytes of a number
pub two_at : (i : ℕ) (x : List ℕ) → suc i < length x → take 2 (drop i x) ≡ get_or x i 0 ∷ (get_or x (suc i) 0 ∷ [])
two_at i x h = rw (drop-cons x i 0 (omega arith), drop-cons x (suc i) 0 h)

-- a number of two bytes is written as it is read
pub same_number : (i : ℕ) (x : List ℕ) → suc i < length x → get_or x i 0 < 256 → two_bytes (number_at i x) ≡ take 2 (drop i x)
unfolding two_bytes number_at
same_number i x h l =
    let a : (get_or x i 0 + 256 * get_or x (suc i) 0) % 256 ≡ get_or x i 0 = omega arith in
    let b : (get_or x i 0 + 256 * get_or x (suc i) 0) / 256 ≡ get_or x (suc i) 0 = omega arith in
    ap₂ (λ (u v : ℕ). u ∷ (v ∷ [])) a b ∙ sym (two_at i x h)

-- ---- tests in another order

and_swap : (a b : Bool) → (a && (b && true)) ≡ (b && a)
and_swap true true = refl
and_swap true false = refl
and_swap false true = refl
and_swap false false = refl

shuffled : (k a f t s c z : Bool) → (((k && a) && f) && ((t && s) && (c && z))) ≡ ((a && (t && c)) && (k && (f && (s && z))))
shuffled false a f t s c z = sym (and-false (a && (t && c)))
shuffled true false f t s c z = refl
shuffled true true false t s c z = sym (and-false (t && c))
shuffled true true true false s c z = refl
shuffled true true true true false c z = sym (and-false c)
shuffled true true true true true c z = refl

-- ---- the parts of a row

-- a kind is written as it is read where its byte is one of a kind
same_kind_byte : (b : ℕ) → eqb (kind_byte (kind_of b)) b ≡ is_kind_byte b
unfolding kind_byte kind_of is_kind_byte
same_kind_byte b = case (eqb b 100)
    (λ t. rw t (eq-eqb 100 b (sym (eqb-true b 100 t))))
    (λ t. rw t (eqb_flip 102 b))

-- of the first four bytes only the kind may differ
same_first : (x : List ℕ) (k : ℕ) → 4 ≤ length x
    → same_text (get_or x 0 0 ∷ (k ∷ (get_or x 2 0 ∷ (get_or x 3 0 ∷ [])))) (take 4 x) ≡ eqb k (get_or x 1 0)
unfolding same_text
same_first [] k h = let z : ⊥ = omega arith in absurd z
same_first (a ∷ []) k h = let z : ⊥ = omega arith in absurd z
same_first (a ∷ (b ∷ [])) k h = let z : ⊥ = omega arith in absurd z
same_first (a ∷ (b ∷ (c ∷ []))) k h = let z : ⊥ = omega arith in absurd z
same_first (a ∷ (b ∷ (c ∷ (d ∷ x)))) k h =
    rw (eq-eqb a a refl, eq-eqb c c refl, eq-eqb d d refl) (case (eqb k b) (λ t. rw t) (λ t. rw t))

module _ (x : List ℕ) (h : length x ≡ row_width) (small : (k : ℕ) → get_or x k 0 < 256) where
  number_part : (i : ℕ) → suc i < row_width → same_text (two_bytes (number_at i x)) (take 2 (drop i x)) ≡ true
  number_part i l =
      ap (same_text (two_bytes (number_at i x))) (sym (same_number i x (omega arith) (small i))) ∙ same_text_refl (two_bytes (number_at i x))

  -- a tag in range, written as it is read
  tag_part : (o : Option EntryPath) → entry_path (text_at tag_offset tag_width x) ≡ o →
      let T = tag_of (text_at tag_offset tag_width x) (number_at tag_revision_offset x) in
      (length (tag_bytes T) ≡ whole_tag_width) × ((is_tag T && same_text (tag_bytes T) (take whole_tag_width (drop tag_offset x))) ≡ has_tag x)
  unfolding tag_of ◌>>=◌ has_tag is_some tag_bytes is_tag
  tag_part none e = rw e (refl, same_zeros_at tag_offset whole_tag_width x (omega arith))
  tag_part (some v) e =
      let t = text_at tag_offset tag_width x in
      let n = number_at tag_revision_offset x in
      let l = length_text_at tag_offset tag_width x (omega arith) in
      let P = padded tag_width t in
      let N = two_bytes n in
      let y = drop tag_offset x in
      let long : length P ≡ tag_width = length_padded tag_width t l in
      let same : same_text (P ++ N) (take whole_tag_width y) ≡ (is_filled tag_offset tag_width x && true) =
      ap (same_text (P ++ N)) (take-add tag_width 2 y)
      ∙ same_append P N (take tag_width y) (take 2 (drop tag_width y)) (long ∙ sym (length-take-le tag_width y (omega (arith, length-drop tag_offset x))))
      ∙ ap₂ ◌&&◌ (same_filled tag_offset tag_width x (omega arith)) (ap (λ (z : List ℕ). same_text N (take 2 z)) (drop-drop tag_width tag_offset x) ∙ number_part tag_revision_offset (omega arith)) in
      rw (e, ← text_of_entry t v e, entry_is_entry t v e) (
        length-append P N ∙ omega (arith, length_two_bytes n),
        ap (λ (b : Bool). leb n last_revision && b) same ∙ and_swap (leb n last_revision) (is_filled tag_offset tag_width x),
      )

  -- the whole row, part by part
  same_row : same_text (row_bytes (read_row x)) x
      ≡ (is_kind_byte (get_or x 1 0)
      && (is_filled name_offset name_width x && (same_text (tag_bytes (tag_of (text_at tag_offset tag_width x) (number_at tag_revision_offset x))) (take whole_tag_width (drop tag_offset x)) && (is_filled content_offset content_width x && zeros_at base_offset base_width x))))
  unfolding row_bytes read_row
  same_row =
      let k = kind_byte (kind_of (get_or x 1 0)) in
      let D : List ℕ = get_or x 0 0 ∷ (k ∷ (get_or x 2 0 ∷ (get_or x 3 0 ∷ []))) in
      let M = two_bytes (number_at mode_offset x) in
      let L = two_bytes (number_at revision_offset x) in
      let N = padded name_width (text_at name_offset name_width x) in
      let T = tag_bytes (tag_of (text_at tag_offset tag_width x) (number_at tag_revision_offset x)) in
      let C = padded content_width (text_at content_offset content_width x) in
      let Z : List ℕ = replicate base_width 0 in
      let last : same_text Z (drop base_offset x) ≡ zeros_at base_offset base_width x =
      ap (same_text Z) (sym (take_all base_width (drop base_offset x) (omega (arith, length-drop base_offset x)))) ∙ same_zeros_at base_offset base_width x (omega arith) in
      same_part 0 4 D (M ++ (L ++ (N ++ (T ++ (C ++ Z))))) x refl (omega arith)
      ∙ ap₂ ◌&&◌ (same_first x k (omega arith) ∙ same_kind_byte (get_or x 1 0))
      (same_part mode_offset 2 M (L ++ (N ++ (T ++ (C ++ Z)))) x (length_two_bytes (number_at mode_offset x)) (omega arith)
      ∙ ap₂ ◌&&◌ (number_part mode_offset (omega arith))
      (same_part revision_offset 2 L (N ++ (T ++ (C ++ Z))) x (length_two_bytes (number_at revision_offset x)) (omega arith)
      ∙ ap₂ ◌&&◌ (number_part revision_offset (omega arith))
      (same_part name_offset name_width N (T ++ (C ++ Z)) x (length_padded name_width (text_at name_offset name_width x) (length_text_at name_offset name_width x (omega arith))) (omega arith)
      ∙ ap₂ ◌&&◌ (same_filled name_offset name_width x (omega arith))
      (same_part tag_offset whole_tag_width T (C ++ Z) x (tag_part (entry_path (text_at tag_offset tag_width x)) refl).0 (omega arith)
      ∙ ap (λ (b : Bool). same_text T (take whole_tag_width (drop tag_offset x)) && b)
      (same_part content_offset content_width C Z x (length_padded content_width (text_at content_offset content_width x) (length_text_at content_offset content_width x (omega arith))) (omega arith)
      ∙ ap₂ ◌&&◌ (same_filled content_offset content_width x (omega arith)) last)))))

  -- the tests of the fields are that of the row
  pub row_test_is : row_test x ≡ is_row x
  unfolding row_test is_row is_node has_numbers has_content read_row
  row_test_is =
      let T = tag_of (text_at tag_offset tag_width x) (number_at tag_revision_offset x) in
      let k = is_kind_byte (get_or x 1 0) in
      let a = (ltb (get_or x 2 0) 24 && ltb (get_or x 3 0) 25) && (is_mode (number_at mode_offset x) && leb (number_at revision_offset x) last_revision) in
      let f = is_filled name_offset name_width x in
      let t = is_tag T in
      let s = same_text (tag_bytes T) (take whole_tag_width (drop tag_offset x)) in
      let c = is_content (text_at content_offset content_width x) && fits_kind (kind_of (get_or x 1 0)) (number_at mode_offset x) (text_at content_offset content_width x) in
      let z = is_filled content_offset content_width x && zeros_at base_offset base_width x in
      ap (λ (t : Bool). ((k && a) && f) && (t && (c && z))) (sym (tag_part (entry_path (text_at tag_offset tag_width x)) refl).1)
      ∙ shuffled k a f t s c z
      ∙ ap (λ (b : Bool). (a && (t && c)) && b) (sym same_row)
