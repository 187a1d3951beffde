-- What the code goes by where it tests one row: each test by the bytes at the row's place among all.
use Rattle.std.specs.Prelude.{◌≡◌, List, [], ◌∷◌, Bool, true, not, cond, ℕ, suc, ◌+◌, ◌-◌, ◌≤◌, ◌<◌, leb, ltb, take, drop}
use Rattle.std.proofs.Math.Path.{refl, sym, ap, ap₂}
use Rattle.std.proofs.Common.{◌∙◌, drop-drop}
use Rattle.std.proofs.Math.Bool.{false, ◌&&◌, and-false, and_assoc}
use Rattle.std.proofs.lemmas.Bool.Decides.{nat_tests}
use native.Mathlib.Omega.{arith}
use Rattle.std.proofs.Math.Dec.{eqb}
use Rattle.std.proofs.Math.ListN.{length, get_or, length-drop, get_or-eq_default}
use Rattle.std.proofs.Math.Seq.{length-take-le}
use borrow.Author.Tests.{lt-ltb, le-ltb, ltb-true, ltb-false, eqb-true, eq-eqb, ne_eqb}
use Rattle.buffers.specs.Cases.{case, and_both}
use Rattle.buffers.specs.Text.{Text}
use Rattle.buffers.specs.Fields.{number_at, text_at, all_zero, zeros_at, is_filled}
use Rattle.buffers.specs.FieldsLaws.{part_of_take}
use Rattle.syntax.specs.Number.{is_mode}
use Rattle.syntax.specs.Path.{is_name, entry_path}
use Rattle.syntax.specs.Field.{content_byte}
use Rattle.syntax.specs.Form.{is_some}
use Rattle.syntax.specs.Compute.{compute}
use Rattle.tree.specs.Layout.{row_width, row_start, kind_offset, owner_offset, group_offset, name_offset, name_width, tag_offset, tag_width, tag_revision_offset, whole_tag_width, content_offset, content_width}
use Rattle.tree.specs.WellFormed.{last_revision, fits_kind}
use Rattle.tree.specs.Encoding.{read_row}
use Rattle.tree.specs.RowAt.{row_bytes_at, row_at, tag_text_at, tag_number_at}
use Rattle.tree.proofs.RowAtLaws.{byte_in_row, text_in_row}
use Rattle.soundness.specs.Sound.{is_row}
use Rattle.soundness.specs.Tests.{is_kind_byte, has_numbers, has_tag, has_content, may_name, may_stand, neighbours_pass, content_stands, row_test}
use Rattle.soundness.specs.RowTestLaws.{length_text_at, row_test_is}
use Rattle.soundness.specs.NeighbourLaws.{pass_alike}
use Rattle.soundness.specs.FilledLaws.{empty_by_first, name_in_field, zeros_by_parts, content_by_bytes}

alike : (a : Bool) → cond a false false ≡ false
alike true = refl
alike false = refl

-- at most n is below the next number
pub below_next : (k n : ℕ) → leb k n ≡ ltb k (suc n)
below_next k n = grind (arith, nat_tests)

-- a text of no bytes is no entry path
none_is_no_entry : (t : Text) → length t ≡ 0 → is_some (entry_path t) ≡ false
none_is_no_entry [] h = unfold compute in refl
none_is_no_entry (c ∷ t) h = let z : ⊥ = omega arith in absurd z

module _ (b : List ℕ) (i : ℕ) where
  -- zeros of a row
  zeros_in_row : (k w : ℕ) → k + w ≤ row_width → zeros_at k w (row_bytes_at b i) ≡ zeros_at (row_start i + k) w b
  unfolding zeros_at row_bytes_at
  zeros_in_row k w h = ap all_zero (part_of_take k w row_width (drop (row_start i) b) h ∙ ap (take w) (drop-drop k (row_start i) b))

  -- zeros of a row from one place up to another
  zeros_between : (k l : ℕ) → k ≤ l → l ≤ row_width → zeros_at k (l - k) (row_bytes_at b i) ≡ zeros_at (row_start i + k) (row_start i + l - (row_start i + k)) b
  zeros_between k l h j =
      let q : l - k ≡ row_start i + l - (row_start i + k) = omega arith in
      zeros_in_row k (l - k) (omega arith) ∙ ap (λ (n : ℕ). zeros_at (row_start i + k) n b) q

  -- the zeros behind n bytes at a place
  zeros_behind : (k l n : ℕ) → k + n ≤ l → l ≤ row_width → zeros_at (k + n) (l - (k + n)) (row_bytes_at b i) ≡ zeros_at (row_start i + k + n) (row_start i + l - (row_start i + k + n)) b
  zeros_behind k l n h j =
      let q : row_start i + (k + n) ≡ row_start i + k + n = omega arith in
      zeros_between (k + n) l h j ∙ ap (λ (m : ℕ). zeros_at m (row_start i + l - m) b) q

  -- the numbers: kind
  pub numbers_kind : is_kind_byte (get_or b (row_start i + kind_offset) 0) ≡ false → has_numbers (row_bytes_at b i) ≡ false
  unfolding has_numbers
  numbers_kind e = rw (ap is_kind_byte (byte_in_row b i 1 (omega arith)) ∙ e)

  -- owner
  pub numbers_owner : 23 < get_or b (row_start i + owner_offset) 0 → has_numbers (row_bytes_at b i) ≡ false
  unfolding has_numbers
  numbers_owner h = simp (le-ltb (get_or (row_bytes_at b i) 2 0) 24 (omega (arith, byte_in_row b i 2 (omega arith))), and-false)

  -- group
  pub numbers_group : 24 < get_or b (row_start i + group_offset) 0 → has_numbers (row_bytes_at b i) ≡ false
  unfolding has_numbers
  numbers_group h = simp (le-ltb (get_or (row_bytes_at b i) 3 0) 25 (omega (arith, byte_in_row b i 3 (omega arith))), and-false)

  -- mode
  pub numbers_mode : is_mode (row_at b i).here.mode ≡ false → has_numbers (row_bytes_at b i) ≡ false
  unfolding has_numbers row_at read_row
  numbers_mode e = simp (e, and-false)

  -- and revision
  pub numbers_revision : is_kind_byte (get_or b (row_start i + kind_offset) 0) ≡ true → get_or b (row_start i + owner_offset) 0 ≤ 23 → get_or b (row_start i + group_offset) 0 ≤ 24
      → is_mode (row_at b i).here.mode ≡ true → has_numbers (row_bytes_at b i) ≡ leb (row_at b i).here.revision last_revision
  unfolding has_numbers row_at read_row
  numbers_revision k o g m =
      rw (
        ap is_kind_byte (byte_in_row b i 1 (omega arith)) ∙ k,
        lt-ltb (get_or (row_bytes_at b i) 2 0) 24 (omega (arith, byte_in_row b i 2 (omega arith))),
        lt-ltb (get_or (row_bytes_at b i) 3 0) 25 (omega (arith, byte_in_row b i 3 (omega arith))),
        m,
      )

  -- the numbers one after another
  pub numbers_in_row : ((((is_kind_byte (get_or b (row_start i + kind_offset) 0) && leb (get_or b (row_start i + owner_offset) 0) 23) && leb (get_or b (row_start i + group_offset) 0) 24)
      && is_mode (row_at b i).here.mode) && leb (row_at b i).here.revision last_revision)
      ≡ has_numbers (row_bytes_at b i)
  unfolding has_numbers row_at read_row
  numbers_in_row =
      let x = row_bytes_at b i in
      rw (← byte_in_row b i 1 (omega arith), ← byte_in_row b i 2 (omega arith), ← byte_in_row b i 3 (omega arith), below_next (get_or x 2 0) 23, below_next (get_or x 3 0) 24)
      (simp and_assoc)

  -- where the tag's text is no entry path it must be zeros
  not_entry : is_some (entry_path (tag_text_at b i)) ≡ false → has_tag (row_bytes_at b i) ≡ zeros_at tag_offset whole_tag_width (row_bytes_at b i)
  unfolding has_tag tag_text_at
  not_entry e = rw e

  -- a content is empty if its field begins with a zero
  pub content_empty : eqb (get_or b (row_start i + content_offset) 0) 0 ≡ eqb (length (row_at b i).here.content) 0
  unfolding row_at read_row
  content_empty = ap (λ (k : ℕ). eqb k 0) (sym (byte_in_row b i content_offset (omega arith))) ∙ sym (empty_by_first content_offset (content_width - 1) (row_bytes_at b i))

  module _ (room : row_start i + row_width ≤ length b) where
    length_row : length (row_bytes_at b i) ≡ row_width
    unfolding row_bytes_at
    length_row = length-take-le row_width (drop (row_start i) b) (omega (arith, length-drop (row_start i) b))

    -- no text of a row is longer than its field
    pub text_within : (k w : ℕ) → k + w ≤ row_width → length (text_at k w (row_bytes_at b i)) ≤ w
    text_within k w j = length_text_at k w (row_bytes_at b i) (omega (arith, length_row))

    -- a field is filled up in its row as among all bytes
    pub filled_in_row : (k w : ℕ) → k + w ≤ row_width → is_filled k w (row_bytes_at b i) ≡ is_filled (row_start i + k) w b
    unfolding is_filled
    filled_in_row k w j =
        let n = length (text_at k w (row_bytes_at b i)) in
        let f = text_within k w j in
        let q : row_start i + (k + n) ≡ row_start i + k + n = omega arith in
        zeros_in_row (k + n) (w - n) (omega arith)
        ∙ ap (λ (m : ℕ). zeros_at m (w - n) b) q
        ∙ ap (λ (t : Text). zeros_at (row_start i + k + length t) (w - length t) b) (text_in_row b i k w j)

    -- the name, where zeros fill it up
    pub name_in_row : is_filled name_offset name_width (row_bytes_at b i) ≡ true
        → is_name (row_at b i).name ≡ (neighbours_pass may_name (row_start i + name_offset) name_width b && not (eqb (get_or b (row_start i + name_offset) 0) 0))
    unfolding row_at read_row
    name_in_row f =
        ap is_name (text_in_row b i name_offset name_width (omega arith))
        ∙ name_in_field (row_start i + name_offset) b (omega arith) (sym (filled_in_row name_offset name_width (omega arith)) ∙ f)

    -- a tag of zeros alone
    tag_zeros : zeros_at tag_offset whole_tag_width (row_bytes_at b i)
        ≡ ((eqb (length (tag_text_at b i)) 0 && is_filled (row_start i + tag_offset) tag_width b) && eqb (tag_number_at b i) 0)
    unfolding tag_text_at tag_number_at
    tag_zeros =
        let t = text_at tag_offset tag_width (row_bytes_at b i) in
        let n = number_at tag_revision_offset (row_bytes_at b i) in
        zeros_by_parts tag_offset tag_width (row_bytes_at b i) (omega (arith, length_row))
        ∙ ap (λ (f : Bool). (eqb (length t) 0 && f) && eqb n 0) (filled_in_row tag_offset tag_width (omega arith))

    -- a tag whose path is not filled up
    pub tag_unfilled : is_filled (row_start i + tag_offset) tag_width b ≡ false → has_tag (row_bytes_at b i) ≡ false
    unfolding has_tag
    tag_unfilled e =
        let z : zeros_at tag_offset whole_tag_width (row_bytes_at b i) ≡ false = tag_zeros ∙ simp (e, and-false) in
        rw (filled_in_row tag_offset tag_width (omega arith) ∙ e, z) (alike (is_some (entry_path (text_at tag_offset tag_width (row_bytes_at b i)))))

    -- the path's field begins with a zero if it has no text
    tag_first : eqb (length (tag_text_at b i)) 0 ≡ eqb (get_or b (row_start i + tag_offset) 0) 0
    unfolding tag_text_at
    tag_first = empty_by_first tag_offset (tag_width - 1) (row_bytes_at b i) ∙ ap (λ (k : ℕ). eqb k 0) (byte_in_row b i tag_offset (omega arith))

    -- no tag
    pub tag_none : is_filled (row_start i + tag_offset) tag_width b ≡ true → get_or b (row_start i + tag_offset) 0 ≡ 0 → has_tag (row_bytes_at b i) ≡ eqb (tag_number_at b i) 0
    tag_none f h =
        let e : eqb (length (tag_text_at b i)) 0 ≡ true = tag_first ∙ eq-eqb (get_or b (row_start i + tag_offset) 0) 0 h in
        not_entry (none_is_no_entry (tag_text_at b i) (eqb-true (length (tag_text_at b i)) 0 e)) ∙ tag_zeros ∙ rw (e, f)

    -- a text that is no entry path
    pub tag_wrong : ¬ (get_or b (row_start i + tag_offset) 0 ≡ 0) → is_some (entry_path (tag_text_at b i)) ≡ false → has_tag (row_bytes_at b i) ≡ false
    tag_wrong h e = not_entry e ∙ tag_zeros ∙ rw (tag_first ∙ ne_eqb (get_or b (row_start i + tag_offset) 0) 0 h)

    -- an entry path, filled up
    pub tag_right : is_filled (row_start i + tag_offset) tag_width b ≡ true → is_some (entry_path (tag_text_at b i)) ≡ true → has_tag (row_bytes_at b i) ≡ leb (tag_number_at b i) last_revision
    unfolding has_tag tag_text_at tag_number_at
    tag_right f e = rw (e, filled_in_row tag_offset tag_width (omega arith) ∙ f)

    -- the content: its bytes, what the kind allows, and the zeros behind
    pub content_in_row : has_content (row_bytes_at b i)
        ≡ ((content_stands (row_start i + content_offset) b && fits_kind (row_at b i).here.kind (row_at b i).here.mode (row_at b i).here.content)
        && zeros_at (row_start i + content_offset + content_width) (row_start i + row_width - (row_start i + content_offset + content_width)) b)
    unfolding row_at read_row content_stands
    content_in_row =
        let x = row_bytes_at b i in
        let w = content_width - 1 in
        let same : (k : ℕ) → k ≤ w → get_or x (content_offset + k) 0 ≡ get_or b (row_start i + content_offset + k) 0 = λ k j.
        let q : row_start i + (content_offset + k) ≡ row_start i + content_offset + k = omega arith in
        byte_in_row b i (content_offset + k) (omega arith) ∙ ap (λ (n : ℕ). get_or b n 0) q in
        let stands : content_stands content_offset x ≡ content_stands (row_start i + content_offset) b =
        ap₂ ◌&&◌ (pass_alike (may_stand content_byte) w content_offset (row_start i + content_offset) x b same) (ap (λ (c : ℕ). may_stand content_byte c 0) (same w (omega arith))) in
        content_by_bytes x length_row
        ∙ ap₂ (λ (s z : Bool). (s && fits_kind (row_at b i).here.kind (row_at b i).here.mode (row_at b i).here.content) && z) stands (zeros_behind content_offset row_width content_width (omega arith) (omega arith))

    -- the fields together are the row
    pub fields_are_row : ((k : ℕ) → get_or b k 0 < 256) → row_test (row_bytes_at b i) ≡ is_row (row_bytes_at b i)
    fields_are_row small = row_test_is (row_bytes_at b i) length_row (λ k. case (ltb k row_width)
        (λ t. omega (arith, byte_in_row b i k (ltb-true k row_width t), small (row_start i + k)))
        (λ t. omega (arith, get_or-eq_default (row_bytes_at b i) 0 {n = k} (omega (arith, length_row, ltb-false k row_width t)))))

    -- so its name is filled up
    pub row_name_filled : ((k : ℕ) → get_or b k 0 < 256) → is_row (row_bytes_at b i) ≡ true → is_filled name_offset name_width (row_bytes_at b i) ≡ true
    unfolding row_test
    row_name_filled small e =
        let x = row_bytes_at b i in
        let front = has_numbers x && is_filled name_offset name_width x in
        (and_both (has_numbers x) (is_filled name_offset name_width x) (and_both front (has_tag x && has_content x) (fields_are_row small ∙ e)).0).1

-- ---- the fields together

module _ (x : List ℕ) where
  -- the numbers fail
  pub test_numbers : has_numbers x ≡ false → row_test x ≡ false
  unfolding row_test
  test_numbers e = rw e

  -- the name
  pub test_name : is_filled name_offset name_width x ≡ false → row_test x ≡ false
  unfolding row_test
  test_name e = simp (e, and-false)

  -- the tag
  pub test_tag : has_tag x ≡ false → row_test x ≡ false
  unfolding row_test
  test_tag e = simp (e, and-false)

  -- all but the content pass
  pub test_content : has_numbers x ≡ true → is_filled name_offset name_width x ≡ true → has_tag x ≡ true → row_test x ≡ has_content x
  unfolding row_test
  test_content n f t = rw (n, f, t)
