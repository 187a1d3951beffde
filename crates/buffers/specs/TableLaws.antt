-- Values one after another, and tables of them: if each value takes the same width and is read back from its bytes, then so
-- are all of them, wherever other bytes follow. Whatever the bytes are, a value is read from those at its index.
use Rattle.std.specs.Prelude.{◌≡◌, Bool, true, drop, replicate}
use Rattle.std.proofs.Math.Path.{refl, sym, ap}
use Rattle.std.proofs.Common.{◌∙◌, ap₂, zero-add, suc-add, zero-mul, mul-zero, add-mul, add-sub_of_le}
use mathlib.Core.List.{List, [], ◌∷◌, ◌++◌, append_assoc}
use Prim.Native.Nat.{ℕ, zero, suc, ◌+◌, ◌-◌, ◌*◌, ◌≤◌, ◌<◌}
use native.Mathlib.Omega.{arith}
use Rattle.std.proofs.Math.Nat.{suc-mul, mul-suc, add_comm}
use Rattle.std.proofs.Math.ListN.{length, get_or, take, length-append}
use Rattle.std.proofs.lemmas.List.{length-replicate}
use Rattle.std.proofs.Math.Seq.{take_at, drop_at, get_or-drop, drop-drop}
use Rattle.buffers.specs.Cases.{and_both}
use Rattle.buffers.specs.Text.{every}
use Rattle.buffers.specs.Fields.{all_bytes, all_from, table_bytes, table_from}

-- zeros and more zeros
pub zeros_join : (m n : ℕ) → replicate {A = ℕ} (m + n) 0 ≡ replicate m 0 ++ replicate n 0
zeros_join zero n = ap (λ (k : ℕ). replicate {A = ℕ} k 0) (zero-add n)
zeros_join (suc m) n = ap (λ (k : ℕ). replicate {A = ℕ} k 0) (suc-add m n) ∙ ap (λ (l : List ℕ). 0 ∷ l) (zeros_join m n)

-- the bytes of values and more values
pub all_bytes_append : {A : Type 0} (f : A → List ℕ) (k l : List A) → all_bytes f (k ++ l) ≡ all_bytes f k ++ all_bytes f l
unfolding all_bytes
all_bytes_append f [] l = refl
all_bytes_append f (a ∷ k) l = ap (λ (r : List ℕ). f a ++ r) (all_bytes_append f k l) ∙ sym (append_assoc (f a) (all_bytes f k) (all_bytes f l))

-- so many widths and those left over are all of them
widths : (n most width : ℕ) → n ≤ most → n * width + (most - n) * width ≡ most * width
widths n most width h = sym (add-mul n (most - n) width) ∙ rw (add-sub_of_le h)

module _ {A : Type 0} (width : ℕ) (from : List ℕ → A) where
  -- as many values are read as are asked for
  pub length_all_from : (n : ℕ) (b : List ℕ) → length (all_from width from n b) ≡ n
  unfolding all_from
  length_all_from zero b = refl
  length_all_from (suc n) b = ap suc (length_all_from n (drop width b))

  -- each from the bytes at its index
  pub all_from_at : (n i : ℕ) (b : List ℕ) (z : A) → i < n → get_or (all_from width from n b) i z ≡ from (take width (drop (width * i) b))
  unfolding all_from
  all_from_at zero i b z h = let x : ⊥ = omega arith in absurd x
  all_from_at (suc n) zero b z h = rw (mul-zero width)
  all_from_at (suc n) (suc i) b z h =
      all_from_at n i (drop width b) z (omega arith)
      ∙ ap (λ (l : List ℕ). from (take width l)) (drop-drop (width * i) width b ∙ rw (mul-suc width i, add_comm width (width * i)))

module _ {A : Type 0} (width : ℕ) (test : A → Bool) (to : A → List ℕ) (long : (a : A) → test a ≡ true → length (to a) ≡ width) where
  -- values that pass take their widths
  pub length_all_bytes : (l : List A) → every test l ≡ true → length (all_bytes to l) ≡ length l * width
  unfolding all_bytes every
  length_all_bytes [] h = sym (zero-mul width)
  length_all_bytes (a ∷ l) h =
      let i = and_both (test a) (every test l) h in
      let x = long a i.0 in
      let y = length_all_bytes l i.1 in
      let z = suc-mul (length l) width in
      length-append (to a) (all_bytes to l) ∙ omega arith

  -- the bytes of each stand at its index
  pub all_bytes_at : (l : List A) (i : ℕ) (Q : List ℕ) (z : A) → every test l ≡ true → i < length l → take width (drop (width * i) (all_bytes to l ++ Q)) ≡ to (get_or l i z)
  unfolding all_bytes every
  all_bytes_at [] i Q z h k = let x : ⊥ = omega arith in absurd x
  all_bytes_at (a ∷ l) zero Q z h k =
      let i = and_both (test a) (every test l) h in
      rw (mul-zero width, append_assoc (to a) (all_bytes to l) Q) (take_at (to a) (all_bytes to l ++ Q) width (long a i.0))
  all_bytes_at (a ∷ l) (suc j) Q z h k =
      let i = and_both (test a) (every test l) h in
      let B = all_bytes to l ++ Q in
      let s : width * suc j ≡ width + width * j = mul-suc width j ∙ add_comm (width * j) width in
      ap (λ (n : ℕ). take width (drop n ((to a ++ all_bytes to l) ++ Q))) s
      ∙ ap (take width) (sym (drop-drop (width * j) width ((to a ++ all_bytes to l) ++ Q)))
      ∙ rw (append_assoc (to a) (all_bytes to l) Q, drop_at (to a) B width (long a i.0)) (all_bytes_at l j Q z i.1 (omega arith))

  -- with zeros in place of those that are not there, as many widths as there may be values
  pub length_filled : (most : ℕ) (l : List A) → every test l ≡ true → length l ≤ most → length (all_bytes to l ++ replicate ((most - length l) * width) 0) ≡ most * width
  length_filled most l h few =
      let Z : List ℕ = replicate ((most - length l) * width) 0 in
      let b = length_all_bytes l h in
      let c = length-replicate {A = ℕ} ((most - length l) * width) 0 in
      let d = widths (length l) most width few in
      length-append (all_bytes to l) Z ∙ omega arith

  -- and a table one byte more
  pub length_table : (most : ℕ) (l : List A) → every test l ≡ true → length l ≤ most → length (table_bytes width most to l) ≡ suc (most * width)
  unfolding table_bytes
  length_table most l h few = ap suc (length_filled most l h few)

  module _ (from : List ℕ → A) (back : (a : A) → test a ≡ true → from (to a) ≡ a) where
    -- values that pass are read back from their bytes
    pub all_from_bytes : (l : List A) (Q : List ℕ) → every test l ≡ true → all_from width from (length l) (all_bytes to l ++ Q) ≡ l
    unfolding all_bytes all_from every
    all_from_bytes [] Q h = refl
    all_from_bytes (a ∷ l) Q h =
        let i = and_both (test a) (every test l) h in
        let x = long a i.0 in
        let B = all_bytes to l ++ Q in
        rw (append_assoc (to a) (all_bytes to l) Q, take_at (to a) B width x, drop_at (to a) B width x)
        (ap₂ ◌∷◌ (back a i.0) (all_from_bytes l Q i.1))

    -- and from their table
    pub table_from_bytes : (most : ℕ) (l : List A) (Q : List ℕ) → every test l ≡ true → table_from width from (table_bytes width most to l ++ Q) ≡ l
    unfolding table_bytes table_from
    table_from_bytes most l Q h =
        rw (append_assoc (all_bytes to l) (replicate ((most - length l) * width) 0) Q) (all_from_bytes l _ h)

-- ---- a table that stands from o on

module _ {A : Type 0} (width : ℕ) (from : List ℕ → A) (b : List ℕ) (o : ℕ) where
  abbrev table : List A
  table = table_from width from (drop o b)

  -- its first byte says how many values it has
  pub table_count : get_or b o 0 ≡ length table
  unfolding table_from
  table_count =
      let q : o + 0 ≡ o = omega arith in
      sym (length_all_from width from (get_or (drop o b) 0 0) (drop 1 (drop o b)) ∙ get_or-drop o b 0 0 ∙ ap (λ (j : ℕ). get_or b j 0) q)

  -- which stand behind it one after another
  pub table_value : (i : ℕ) (d : A) → i < length table → get_or table i d ≡ from (take width (drop (o + 1 + width * i) b))
  unfolding table_from
  table_value i d h =
      let n = get_or (drop o b) 0 0 in
      all_from_at width from n i (drop 1 (drop o b)) d (omega (arith, length_all_from width from n (drop 1 (drop o b))))
      ∙ ap (λ (l : List ℕ). from (take width l)) (ap (drop (width * i)) (drop-drop 1 o b) ∙ drop-drop (width * i) (o + 1) b)
