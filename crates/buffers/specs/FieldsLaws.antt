-- What is written into a field is read back from it, wherever it stands among other bytes; and the text of a field byte by byte.
use Rattle.std.specs.Prelude.{◌≡◌, List, [], ◌∷◌, ◌++◌, true, not, ℕ, zero, suc, ◌+◌, ◌-◌, ◌/◌, ◌%◌, ◌≤◌, ◌<◌, eqb, length, get_or, take, drop, replicate}
use Rattle.std.proofs.Math.Path.{refl, ap}
use Rattle.std.proofs.Common.{sym, ◌∙◌, append_assoc, length-append, length-take, take_at, drop_at, get_or-take, get_or-drop, drop-cons, drop-drop, take-take}
use native.Mathlib.Omega.{arith}
use Rattle.std.proofs.lemmas.List.{length-replicate, get_or_at}
use borrow.Author.Tests.{not-true, eqb-true, eqb-false, eq-eqb, ne_eqb}
use Rattle.buffers.specs.Cases.{case, and_both}
use Rattle.buffers.specs.Text.{Text, every, lacks}
use Rattle.buffers.specs.Fields.{two_bytes, number_at, padded, unpadded, text_at}

unpadded_zeros : (k : ℕ) → unpadded (replicate k 0) ≡ []
unfolding unpadded
unpadded_zeros zero = refl
unpadded_zeros (suc k) = refl

unpadded_append : (t : Text) (k : ℕ) → lacks 0 t ≡ true → unpadded (t ++ replicate k 0) ≡ t
unfolding unpadded lacks every
unpadded_append [] k h = unpadded_zeros k
unpadded_append (b ∷ t) k h =
    let i : _ = and_both (not (eqb b 0)) (lacks 0 t) h in
    rw (not-true (eqb b 0) i.0) (rw (unpadded_append t k i.1))

-- a text without zero bytes is what was filled up
unpadded_padded : (width : ℕ) (t : Text) → lacks 0 t ≡ true → unpadded (padded width t) ≡ t
unfolding padded
unpadded_padded width t h = unpadded_append t (width - length t) h

-- a text that fits is filled up to the width
pub length_padded : (width : ℕ) (t : Text) → length t ≤ width → length (padded width t) ≡ width
unfolding padded
length_padded width t h =
    length-append t (replicate (width - length t) 0) ∙ omega (arith, length-replicate {A = ℕ} (width - length t) 0)

-- and read where it stands among other bytes
pub text_at_padded : (P Q : List ℕ) (i width : ℕ) (t : Text) → length P ≡ i → length t ≤ width → lacks 0 t ≡ true
    → text_at i width (P ++ (padded width t ++ Q)) ≡ t
unfolding text_at
text_at_padded P Q i width t e l h =
    rw (drop_at P (padded width t ++ Q) i e, take_at (padded width t) Q width (length_padded width t l)) (unpadded_padded width t h)

-- a number takes two bytes
pub length_two_bytes : (n : ℕ) → length (two_bytes n) ≡ 2
unfolding two_bytes
length_two_bytes n = refl

-- a number is read where its two bytes stand
pub number_at_bytes : (P Q : List ℕ) (i n : ℕ) → length P ≡ i → number_at i (P ++ (two_bytes n ++ Q)) ≡ n
unfolding number_at two_bytes
number_at_bytes P Q i n e =
    let a : get_or (P ++ (n % 256 ∷ (n / 256 ∷ Q))) i 0 ≡ n % 256 = get_or_at P (n % 256) (n / 256 ∷ Q) 0 i e in
    let b : get_or (P ++ (n % 256 ∷ (n / 256 ∷ Q))) (suc i) 0 ≡ n / 256 =
    rw (← append_assoc P (n % 256 ∷ []) (n / 256 ∷ Q))
    (get_or_at (P ++ (n % 256 ∷ [])) (n / 256) Q 0 (suc i) (length-append P (n % 256 ∷ []) ∙ omega arith)) in
    omega arith

module _ (s : List ℕ) (at w : ℕ) where
  -- a byte that is not zero is counted
  pub text_goes_on : at < length s → (get_or s at 0 ≡ 0 → ⊥) → length (text_at at (suc w) s) ≡ suc (length (text_at (suc at) w s))
  unfolding text_at unpadded
  text_goes_on h e = rw (drop-cons s at 0 h, ne_eqb (get_or s at 0) 0 e)

  -- at a zero the text ends
  pub text_stops : at < length s → get_or s at 0 ≡ 0 → length (text_at at (suc w) s) ≡ 0
  unfolding text_at unpadded
  text_stops h e = rw (drop-cons s at 0 h, eq-eqb (get_or s at 0) 0 e)

-- and so it does at the end of the field
pub text_ends : (s : List ℕ) (at : ℕ) → length (text_at at 0 s) ≡ 0
unfolding text_at unpadded
text_ends s at = refl

-- a text without the zeros is no longer than with them
unpadded_fits : (l : List ℕ) → length (unpadded l) ≤ length l
unfolding unpadded
unpadded_fits [] = omega arith
unpadded_fits (x ∷ l) = let i = unpadded_fits l in case (eqb x 0) (λ e. rw e (omega arith)) (λ e. rw e (omega arith))

-- so a text has no more bytes than its field
pub field_text_fits : (s : List ℕ) (at w : ℕ) → length (text_at at w s) ≤ w
unfolding text_at
field_text_fits s at w = omega (arith, unpadded_fits (take w (drop at s)), length-take w (drop at s))

-- what stands before the zeros
take_unpadded : (l : List ℕ) → take (length (unpadded l)) l ≡ unpadded l
unfolding unpadded
take_unpadded [] = refl
take_unpadded (x ∷ l) = case (eqb x 0) (λ e. rw e) (λ e. rw e (ap (λ (r : List ℕ). x ∷ r) (take_unpadded l)))

-- the text is as many bytes of the field as it has
pub text_part : (s : List ℕ) (at w r : ℕ) → r ≡ length (text_at at w s) → r ≤ w → take r (drop at s) ≡ text_at at w s
unfolding text_at
text_part s at w r e h = sym (take-take r w (drop at s) h) ∙ rw e (take_unpadded (take w (drop at s)))

-- a part of a beginning is that part of the whole
pub part_of_take : (k w n : ℕ) (l : List ℕ) → k + w ≤ n → take w (drop k (take n l)) ≡ take w (drop k l)
part_of_take zero w n l h = take-take w n l (omega arith)
part_of_take (suc k) w zero l h = let z : ⊥ = omega arith in absurd z
part_of_take (suc k) w (suc n) [] h = refl
part_of_take (suc k) w (suc n) (x ∷ l) h = part_of_take k w n l (omega arith)

-- a byte of a text is that of its field, and so is the zero behind the last
unpadded_byte : (l : List ℕ) (k : ℕ) → k ≤ length (unpadded l) → get_or (unpadded l) k 0 ≡ get_or l k 0
unfolding unpadded
unpadded_byte [] k h = refl
unpadded_byte (x ∷ l) zero h = case (eqb x 0) (λ e. rw e (sym (eqb-true x 0 e))) (λ e. rw e)
unpadded_byte (x ∷ l) (suc k) h = case (eqb x 0) (λ e. let z : suc k ≤ 0 = rw e at h in absurd (omega arith)) (λ e. rw e (unpadded_byte l k (omega (arith, rw e at h))))

-- no byte of a text is zero
unpadded_nonzero : (l : List ℕ) (k : ℕ) → k < length (unpadded l) → get_or (unpadded l) k 0 ≡ 0 → ⊥
unfolding unpadded
unpadded_nonzero [] k h = absurd (omega arith)
unpadded_nonzero (x ∷ l) zero h = case (eqb x 0) (λ e. let z : 0 < 0 = rw e at h in absurd (omega arith)) (λ e. rw e (eqb-false x 0 e))
unpadded_nonzero (x ∷ l) (suc k) h = case (eqb x 0) (λ e. let z : suc k < 0 = rw e at h in absurd (omega arith)) (λ e. rw e (unpadded_nonzero l k (omega (arith, rw e at h))))

-- ---- a value of n bytes that stands from o on

module _ (b : List ℕ) (o n : ℕ) where
  abbrev value : List ℕ
  value = take n (drop o b)

  -- its byte, number and text at k stand at o + k
  pub byte_there : (k p : ℕ) → k < n → o + k ≡ p → get_or value k 0 ≡ get_or b p 0
  byte_there k p h e = get_or-take n (drop o b) k 0 h ∙ get_or-drop o b k 0 ∙ ap (λ (j : ℕ). get_or b j 0) e

  pub number_there : (k p : ℕ) → k + 1 < n → o + k ≡ p → number_at k value ≡ number_at p b
  unfolding number_at
  number_there k p h e =
      let low = byte_there k p (omega arith) e in
      let high = byte_there (suc k) (suc p) (omega arith) (omega arith) in
      omega arith

  pub text_there : (k w : ℕ) → k + w ≤ n → text_at k w value ≡ text_at (o + k) w b
  unfolding text_at
  text_there k w h = ap unpadded (part_of_take k w n (drop o b) h ∙ ap (take w) (drop-drop k o b))

-- ---- a text byte by byte

module _ (s : List ℕ) (at w k : ℕ) where
  -- a byte of a text stands in its field, and so does the zero behind the last, where the field goes on
  pub text_byte : k < w → k ≤ length (text_at at w s) → get_or (text_at at w s) k 0 ≡ get_or s (at + k) 0
  unfolding text_at
  text_byte h l = unpadded_byte (take w (drop at s)) k l ∙ byte_there s at w k (at + k) h refl

  -- no byte of a text is zero
  pub text_nonzero : k < length (text_at at w s) → get_or (text_at at w s) k 0 ≡ 0 → ⊥
  unfolding text_at
  text_nonzero h = unpadded_nonzero (take w (drop at s)) k h
