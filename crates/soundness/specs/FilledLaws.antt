-- Fields filled up with zeros, a name, a tag path, a content, by tests of neighbouring bytes: what the code does in place of
-- looking for the end of a text.
use Rattle.std.specs.Prelude.{◌≡◌, Bool, true, false, ◌||◌, length, drop}
use Rattle.std.proofs.Math.Path.{refl, sym, ap, ap₂}
use Rattle.std.proofs.Common.{◌∙◌, length-drop, take-add, drop-drop, get_or-drop, get_or-take, length-take-le, le-leb, eqb-true, eq-eqb, ne_eqb}
use mathlib.Core.List.{List, [], ◌∷◌}
use Rattle.std.proofs.Math.Bool.{◌&&◌, not, and-true, and-false}
use Prim.Native.Nat.{ℕ, zero, suc, ◌+◌, ◌-◌, ◌*◌, ◌≤◌, ◌<◌}
use native.Mathlib.Omega.{arith}
use Rattle.std.proofs.Math.Dec.{eqb, leb}
use Rattle.std.proofs.Math.ListN.{get_or, take, get_or-eq_default}
use Rattle.std.proofs.lemmas.Bool.{eqb-false}
use Rattle.buffers.specs.Cases.{case, and_both}
use Rattle.buffers.specs.Text.{every}
use Rattle.buffers.specs.TextLaws.{every_append}
use Rattle.buffers.specs.Fields.{number_at, unpadded, text_at, all_zero, zeros_at, is_filled}
use Rattle.buffers.specs.FieldsLaws.{field_text_fits}
use Rattle.syntax.specs.Path.{name_byte, is_name}
use Rattle.syntax.specs.Field.{content_byte, is_content, content_limit}
use Rattle.tree.specs.Layout.{row_width, mode_offset, name_width, content_offset, content_width, base_offset, base_width}
use Rattle.tree.specs.WellFormed.{fits_kind}
use Rattle.tree.specs.Encoding.{kind_of}
use Rattle.soundness.specs.Tests.{has_content, may_stand, any_byte, may_name, neighbours_pass, content_stands}
use Rattle.soundness.specs.RowTestLaws.{filled_in_field, two_at}
use Rattle.soundness.specs.NeighbourLaws.{pass_alike, pass_behind, pass_apart}

-- ---- a field by itself

first_is_none : (w : ℕ) (l : List ℕ) → eqb (length (unpadded (take (suc w) l))) 0 ≡ eqb (get_or l 0 0) 0
unfolding unpadded
first_is_none w [] = refl
first_is_none w (b ∷ l) = case (eqb b 0) (λ e. rw e) (λ e. rw e (ne_eqb (suc (length (unpadded (take w l)))) 0 (λ z. omega arith)))

-- a text is empty if its field begins with a zero
pub empty_by_first : (i w : ℕ) (x : List ℕ) → eqb (length (text_at i (suc w) x)) 0 ≡ eqb (get_or x i 0) 0
unfolding text_at
empty_by_first i w x =
    let q : i + 0 ≡ i = omega arith in
    first_is_none w (drop i x) ∙ ap (λ (b : ℕ). eqb b 0) (get_or-drop i x 0 0 ∙ ap (λ (k : ℕ). get_or x k 0) q)

-- the bytes of a field
in_field : (i w : ℕ) (x : List ℕ) (k : ℕ) → k < w → get_or (take w (drop i x)) (0 + k) 0 ≡ get_or x (i + k) 0
in_field i w x k h = let q : 0 + k ≡ k = omega arith in rw q (get_or-take w (drop i x) k 0 h ∙ get_or-drop i x k 0)

-- ---- a text of some class, and zeros behind it

module _ (class : ℕ → Bool) where
  -- behind a zero only zeros may stand
  zeros_stand : (l : List ℕ) → (eqb (get_or l 0 0) 0 && neighbours_pass (may_stand class) 0 (length l) l) ≡ all_zero l
  unfolding neighbours_pass may_stand all_zero every
  zeros_stand [] = refl
  zeros_stand (b ∷ l) = case (eqb b 0) (λ e. rw (e, pass_behind (may_stand class) (length l) b l) (zeros_stand l)) (λ e. rw e)

  text_stands : (l : List ℕ) → (every class (unpadded l) && all_zero (drop (length (unpadded l)) l)) ≡ neighbours_pass (may_stand class) 0 (length l) l
  unfolding unpadded every all_zero neighbours_pass may_stand
  text_stands [] = refl
  text_stands (b ∷ l) = case (eqb b 0)
      (λ e. rw e (rw (e, pass_behind (may_stand class) (length l) b l) (sym (zeros_stand l))))
      (λ e. rw (e, pass_behind (may_stand class) (length l) b l) (case (class b) (λ c. rw c (text_stands l)) (λ c. rw c)))

  module _ (w i : ℕ) (x : List ℕ) (h : i + suc w ≤ length x) where
    long : length (take (suc w) (drop i x)) ≡ suc w
    long = length-take-le (suc w) (drop i x) (omega (arith, length-drop i x))

    -- the last byte of a field is judged as if a zero stood behind it
    last_stands : neighbours_pass (may_stand class) (0 + w) 1 (take (suc w) (drop i x)) ≡ may_stand class (get_or x (i + w) 0) 0
    unfolding neighbours_pass
    last_stands =
        let l = take (suc w) (drop i x) in
        let none : get_or l (suc (0 + w)) 0 ≡ 0 = get_or-eq_default l 0 {n = suc (0 + w)} (omega (arith, long)) in
        and-true (may_stand class (get_or l (0 + w) 0) (get_or l (suc (0 + w)) 0)) ∙ ap₂ (may_stand class) (in_field i (suc w) x w (omega arith)) none

    -- a field by its bytes
    stands_in_field : (every class (text_at i (suc w) x) && is_filled i (suc w) x)
        ≡ (neighbours_pass (may_stand class) i w x && may_stand class (get_or x (i + w) 0) 0)
    unfolding text_at
    stands_in_field =
        let l = take (suc w) (drop i x) in
        let q : suc w ≡ w + 1 = omega arith in
        rw (filled_in_field i (suc w) x)
        (text_stands l
        ∙ ap (λ (n : ℕ). neighbours_pass (may_stand class) 0 n l) (long ∙ q)
        ∙ pass_apart (may_stand class) w 1 0 l
        ∙ ap₂ ◌&&◌ (pass_alike (may_stand class) w 0 i l x (λ k j. in_field i (suc w) x k (omega arith))) last_stands)

any_text : (t : List ℕ) → every any_byte t ≡ true
unfolding every any_byte
any_text [] = refl
any_text (b ∷ t) = any_text t

any_last : (b : ℕ) → may_stand any_byte b 0 ≡ true
unfolding may_stand any_byte
any_last b = case (eqb b 0) (λ e. rw e) (λ e. rw e)

-- a field is filled up with zeros, whatever its text
pub filled_by_bytes : (i w : ℕ) (x : List ℕ) → i + suc w ≤ length x → is_filled i (suc w) x ≡ neighbours_pass (may_stand any_byte) i w x
filled_by_bytes i w x h =
    let any : every any_byte (text_at i (suc w) x) ≡ true = any_text (text_at i (suc w) x) in
    let passes = neighbours_pass (may_stand any_byte) i w x in
    sym (rw any)
    ∙ stands_in_field any_byte w i x h
    ∙ ap (λ (b : Bool). passes && b) (any_last (get_or x (i + w) 0))
    ∙ and-true passes

-- ---- a name

-- zeros may stand in its field
zeros_name : (l : List ℕ) → all_zero l ≡ true → neighbours_pass may_name 0 (length l) l ≡ true
unfolding neighbours_pass may_name all_zero every
zeros_name [] h = refl
zeros_name (b ∷ l) h =
    let z = and_both (eqb b 0) (all_zero l) h in
    rw (z.0, pass_behind may_name (length l) b l) (zeros_name l z.1)

-- a text of a name's bytes, where zeros stand behind it
text_names : (l : List ℕ) → all_zero (drop (length (unpadded l)) l) ≡ true → neighbours_pass may_name 0 (length l) l ≡ every name_byte (unpadded l)
unfolding neighbours_pass may_name unpadded all_zero every
text_names [] h = refl
text_names (b ∷ l) h = case (eqb b 0)
    (λ e. let z : (eqb b 0 && all_zero l) ≡ true = rw e at h in rw e (pass_behind may_name (length l) b l ∙ zeros_name l (and_both (eqb b 0) (all_zero l) z).1))
    (λ e. let z : all_zero (drop (length (unpadded l)) l) ≡ true = rw e at h in rw (e, pass_behind may_name (length l) b l, text_names l z))

-- among all bytes as in the field alone: the byte behind it is not looked at
names_in_field : (i : ℕ) (x : List ℕ) → neighbours_pass may_name 0 name_width (take name_width (drop i x)) ≡ neighbours_pass may_name i name_width x
names_in_field i x =
    let w = name_width - 1 in
    let l = take name_width (drop i x) in
    let last : neighbours_pass may_name (0 + w) 1 l ≡ neighbours_pass may_name (i + w) 1 x = unfold neighbours_pass may_name in
    ap (λ (b : ℕ). (eqb b 0 || name_byte b) && true) (in_field i name_width x w (omega arith)) in
    pass_apart may_name w 1 0 l
    ∙ ap₂ ◌&&◌ (pass_alike may_name w 0 i l x (λ k j. in_field i name_width x k (omega arith))) last
    ∙ sym (pass_apart may_name w 1 i x)

one_or_more : (n : ℕ) → leb 1 n ≡ not (eqb n 0)
one_or_more zero = refl
one_or_more (suc n) = rw (le-leb 1 (suc n) (omega arith), ne_eqb (suc n) 0 (λ z. omega arith))

-- a name that fills up its field with zeros, by the field's bytes
pub name_in_field : (i : ℕ) (x : List ℕ) → i + name_width ≤ length x → is_filled i name_width x ≡ true
    → is_name (text_at i name_width x) ≡ (neighbours_pass may_name i name_width x && not (eqb (get_or x i 0) 0))
unfolding is_name text_at
name_in_field i x h f =
    let l = take name_width (drop i x) in
    let u = unpadded l in
    let long : length l ≡ name_width = length-take-le name_width (drop i x) (omega (arith, length-drop i x)) in
    let short : leb (length u) name_width ≡ true = le-leb (length u) name_width (unfold text_at in field_text_fits x i name_width) in
    let some : leb 1 (length u) ≡ not (eqb (get_or x i 0) 0) = one_or_more (length u) ∙ ap not (unfold text_at in empty_by_first i (name_width - 1) x) in
    let bytes : every name_byte u ≡ neighbours_pass may_name i name_width x =
    sym (text_names l (sym (filled_in_field i name_width x) ∙ f))
    ∙ ap (λ (n : ℕ). neighbours_pass may_name 0 n l) long
    ∙ names_in_field i x in
    rw (bytes, some, short, and-true (not (eqb (get_or x i 0) 0)))

-- ---- zeros alone, and no tag

zeros_alone : (l : List ℕ) → all_zero l ≡ (eqb (length (unpadded l)) 0 && all_zero (drop (length (unpadded l)) l))
unfolding unpadded all_zero every
zeros_alone [] = refl
zeros_alone (b ∷ l) = case (eqb b 0) (λ e. rw e (rw e)) (λ e. rw (e, ne_eqb (suc (length (unpadded l))) 0 (λ z. omega arith)))

-- a field of zeros is one without a text, filled up
zeros_by_text : (i w : ℕ) (x : List ℕ) → zeros_at i w x ≡ (eqb (length (text_at i w x)) 0 && is_filled i w x)
unfolding zeros_at text_at
zeros_by_text i w x =
    zeros_alone (take w (drop i x)) ∙ ap (λ (b : Bool). eqb (length (unpadded (take w (drop i x)))) 0 && b) (sym (filled_in_field i w x))

-- two zeros are the number 0
zeros_by_number : (i : ℕ) (x : List ℕ) → suc i < length x → zeros_at i 2 x ≡ eqb (number_at i x) 0
unfolding zeros_at all_zero every number_at
zeros_by_number i x h =
    let low = get_or x i 0 in
    let high = get_or x (suc i) 0 in
    let n = low + 256 * high in
    rw (two_at i x h) (case (eqb low 0)
    (λ a. case (eqb high 0)
    (λ b. rw (a, b, eq-eqb n 0 (omega (arith, eqb-true low 0 a, eqb-true high 0 b))))
    (λ b. rw (a, b, ne_eqb n 0 (λ z. eqb-false high 0 b (omega arith)))))
    (λ a. rw (a, ne_eqb n 0 (λ z. eqb-false low 0 a (omega arith)))))

-- so of a text with a number behind it
pub zeros_by_parts : (i w : ℕ) (x : List ℕ) → i + w + 2 ≤ length x
    → zeros_at i (w + 2) x ≡ ((eqb (length (text_at i w x)) 0 && is_filled i w x) && eqb (number_at (i + w) x) 0)
zeros_by_parts i w x h =
    let apart : zeros_at i (w + 2) x ≡ (zeros_at i w x && zeros_at (i + w) 2 x) = unfold zeros_at all_zero in
    ap all_zero (take-add w 2 (drop i x))
    ∙ every_append (λ b. eqb b 0) (take w (drop i x)) (take 2 (drop w (drop i x)))
    ∙ ap (λ (l : List ℕ). all_zero (take w (drop i x)) && all_zero (take 2 l)) (drop-drop w i x) in
    apart ∙ ap₂ ◌&&◌ (zeros_by_text i w x) (zeros_by_number (i + w) x (omega arith))

-- ---- a content

-- a content that fills up its field with zeros, by the field's bytes
pub content_in_field : (i : ℕ) (x : List ℕ) → i + content_width ≤ length x
    → (is_content (text_at i content_width x) && is_filled i content_width x) ≡ content_stands i x
unfolding is_content content_stands
content_in_field i x h =
    let u = text_at i content_width x in
    let short : leb (length u) content_limit ≡ true = le-leb (length u) content_limit (field_text_fits x i content_width) in
    rw (short, and-true (every content_byte u)) (stands_in_field content_byte (content_width - 1) i x h)

swapped : (a b c d : Bool) → ((a && b) && (c && d)) ≡ (((a && c) && b) && d)
swapped true true c d = ap (λ (x : Bool). x && d) (sym (and-true c))
swapped true false c d = ap (λ (x : Bool). x && d) (sym (and-false c))
swapped false b c d = refl

-- a row's content, by the bytes of its field, what the kind allows, and the bytes behind
pub content_by_bytes : (x : List ℕ) → length x ≡ row_width
    → has_content x ≡ ((content_stands content_offset x && fits_kind (kind_of (get_or x 1 0)) (number_at mode_offset x) (text_at content_offset content_width x)) && zeros_at base_offset base_width x)
unfolding has_content
content_by_bytes x h =
    let c = text_at content_offset content_width x in
    let fits = fits_kind (kind_of (get_or x 1 0)) (number_at mode_offset x) c in
    let zeros = zeros_at base_offset base_width x in
    swapped (is_content c) fits (is_filled content_offset content_width x) zeros
    ∙ ap (λ (b : Bool). (b && fits) && zeros) (content_in_field content_offset x (omega arith))
