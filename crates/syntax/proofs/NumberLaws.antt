-- Laws of numbers as texts: a number's text is read as that number, only that text is, and how long it is. So for modes.
use Rattle.std.specs.Prelude.{◌≡◌, ◌&&◌, ◌||◌, eqb, leb, ltb, length}
use Rattle.std.proofs.Math.Path.{refl}
use Rattle.std.proofs.Common.{sym, ◌∙◌, ap, add-one, eqb-true, ne_eqb, ltb-true, ltb-false, lt-ltb, le-ltb, leb-true, le-leb, length-append}
use mathlib.Core.List.{[], ◌∷◌, ◌++◌, append-nil, append_assoc}
use Rattle.std.proofs.Math.Option.{some}
use Rattle.std.proofs.Math.Bool.{true}
use Prim.Native.Nat.{ℕ, zero, suc, ◌+◌, ◌-◌, ◌*◌, ◌/◌, ◌%◌, ◌^◌, ◌≤◌, ◌<◌}
use Rattle.std.proofs.Math.Nat.{pow-succ'}
use native.Mathlib.Omega.{arith}
use Rattle.std.proofs.lemmas.Bool.{eqb-false, not-true}
use Rattle.buffers.specs.Cases.{case, and_both, contra}
use Rattle.buffers.specs.Text.{Text, every}
use Rattle.syntax.specs.Number.{digit, value_after, no_leading_zero, decimal, mode_digits, mode, set_gid, is_mode, octal, digits_before, decimal_text, mode_text}
use Rattle.syntax.specs.Form.{◌>>◌, check}
use Rattle.syntax.proofs.FormLaws.{checked, answered}

-- ---- digits

-- the bounds of a digit
pub digit_bounds : (base b : ℕ) → digit base b ≡ true → (48 ≤ b) × (b < 48 + base)
unfolding digit
digit_bounds base b h =
    let i : _ = and_both (leb 48 b) (ltb b (48 + base)) h in
    (leb-true 48 b i.0, ltb-true b (48 + base) i.1)

-- a byte between them is one
digit_of : (base d : ℕ) → d < base → digit base (48 + d) ≡ true
unfolding digit
digit_of base d h = rw (le-leb 48 (48 + d) (omega arith), lt-ltb (48 + d) (48 + base) (omega arith))

-- one digit, and more than one
last_digit : (fuel n : ℕ) (t : Text) → n < 10 → digits_before (suc fuel) n t ≡ (48 + n) ∷ t
unfolding digits_before
last_digit fuel n t h = let e : n % 10 ≡ n = omega arith in rw (lt-ltb n 10 h, e)

more_digits : (fuel n : ℕ) (t : Text) → 10 ≤ n → digits_before (suc fuel) n t ≡ digits_before fuel (n / 10) ((48 + n % 10) ∷ t)
unfolding digits_before
more_digits fuel n t h = rw (le-ltb n 10 h)

-- by whether a number has one digit
by_digits : {P : Type 0} (n : ℕ) → (n < 10 → P) → (10 ≤ n → P) → P
by_digits n f g = case (ltb n 10) (λ t. f (ltb-true n 10 t)) (λ t. g (ltb-false n 10 t))

-- ---- a number's text is read as that number

digits_are : (fuel n : ℕ) (t : Text) → every (digit 10) (digits_before fuel n t) ≡ every (digit 10) t
unfolding every
digits_are zero n t = unfold digits_before in refl
digits_are (suc fuel) n t = by_digits n
    (λ h. rw (last_digit fuel n t h, digit_of 10 n h))
    (λ h. rw (more_digits fuel n t h, digits_are fuel (n / 10) ((48 + n % 10) ∷ t), digit_of 10 (n % 10) (omega arith)))

digits_value : (fuel n : ℕ) (t : Text) → n < fuel → value_after 10 0 (digits_before fuel n t) ≡ value_after 10 n t
unfolding value_after
digits_value zero n t l = let z : ⊥ = omega arith in absurd z
digits_value (suc fuel) n t l = by_digits n
    (λ h. rw (last_digit fuel n t h) (ap (λ m. value_after 10 m t) (omega arith)))
    (λ h. rw (more_digits fuel n t h, digits_value fuel (n / 10) ((48 + n % 10) ∷ t) (omega arith)) (ap (λ m. value_after 10 m t) (omega arith)))

digits_lead : (fuel n : ℕ) (t : Text) → 1 ≤ n → n < fuel → no_leading_zero (digits_before fuel n t) ≡ true
digits_lead zero n t k l = let z : ⊥ = omega arith in absurd z
digits_lead (suc fuel) n t k l = by_digits n
    (λ h. rw (last_digit fuel n t h) (leads n t k))
    (λ h. rw (more_digits fuel n t h) (digits_lead fuel (n / 10) ((48 + n % 10) ∷ t) (omega arith) (omega arith)))
  where
    leads : (n : ℕ) (t : Text) → 1 ≤ n → no_leading_zero ((48 + n) ∷ t) ≡ true
    leads n [] k = unfold no_leading_zero in refl
    leads n (e ∷ t) k = unfold no_leading_zero in rw (ne_eqb (48 + n) 48 (λ e. omega arith))

-- the text of a number is read as that number
pub decimal_of_text : (n : ℕ) → decimal (decimal_text n) ≡ some n
unfolding decimal decimal_text check ◌>>◌
decimal_of_text n = rw (digits_are (suc n) n [], lead n, digits_value (suc n) n [] (omega arith)) (unfold every value_after in refl)
  where
    lead : (n : ℕ) → no_leading_zero (digits_before (suc n) n []) ≡ true
    lead zero = unfold no_leading_zero digits_before in refl
    lead (suc n) = digits_lead (suc (suc n)) (suc n) [] (omega arith) (omega arith)

-- ---- only a number's text is read as that number

same_digits : (f g n : ℕ) (t : Text) → n < f → n < g → digits_before f n t ≡ digits_before g n t
same_digits zero g n t k l = let z : ⊥ = omega arith in absurd z
same_digits (suc f) zero n t k l = let z : ⊥ = omega arith in absurd z
same_digits (suc f) (suc g) n t k l = by_digits n
    (λ h. rw (last_digit f n t h, last_digit g n t h))
    (λ h. rw (more_digits f n t h, more_digits g n t h) (same_digits f g (n / 10) ((48 + n % 10) ∷ t) (omega arith) (omega arith)))

-- the last digit of a number taken off
take_digit : (f g n d : ℕ) (t : Text) → 1 ≤ n → digit 10 d ≡ true → n * 10 + (d - 48) < f → n < g →
    digits_before f (n * 10 + (d - 48)) t ≡ digits_before g n (d ∷ t)
take_digit zero g n d t k h l m = let z : ⊥ = omega arith in absurd z
take_digit (suc f) g n d t k h l m =
    let b : _ = digit_bounds 10 d h in
    let q : (n * 10 + (d - 48)) / 10 ≡ n = omega (arith, b.0, b.1) in
    let r : 48 + (n * 10 + (d - 48)) % 10 ≡ d = omega (arith, b.0, b.1) in
    rw (more_digits f (n * 10 + (d - 48)) t (omega arith), q, r) (same_digits f g n (d ∷ t) (omega (arith, b.0)) m)

take_digits : (f g n : ℕ) (ds t : Text) → 1 ≤ n → every (digit 10) ds ≡ true → value_after 10 n ds < f → n < g →
    digits_before f (value_after 10 n ds) t ≡ digits_before g n (ds ++ t)
unfolding value_after every
take_digits f g n [] t k h l m = same_digits f g n t l m
take_digits f g n (d ∷ ds) t k h l m =
    let i : _ = and_both (digit 10 d) (every (digit 10) ds) h in
    let a : ℕ = n * 10 + (d - 48) in
    take_digits f (suc a) a ds t (omega arith) i.1 l (omega arith) ∙ take_digit (suc a) g n d (ds ++ t) k i.0 (omega arith) m

digits_back : (t : Text) → every (digit 10) t ≡ true → no_leading_zero t ≡ true → decimal_text (value_after 10 0 t) ≡ t
unfolding decimal_text no_leading_zero every value_after
digits_back [] h k = contra refl (sym k)
digits_back (d ∷ []) h k =
    let n : ℕ = 0 * 10 + (d - 48) in
    let b : _ = digit_bounds 10 d (and_both (digit 10 d) true h).0 in
    let q : 48 + n ≡ d = omega (arith, b.0) in
    rw (last_digit n n [] (omega (arith, b.1)), q)
digits_back (d ∷ (e ∷ ds)) h k =
    let n : ℕ = 0 * 10 + (d - 48) in
    let i : _ = and_both (digit 10 d) (every (digit 10) (e ∷ ds)) h in
    let b : _ = digit_bounds 10 d i.0 in
    let z : d ≡ 48 → ⊥ = eqb-false d 48 (not-true (eqb d 48) k) in
    let v : ℕ = value_after 10 n (e ∷ ds) in
    let q : 48 + n ≡ d = omega (arith, b.0) in
    take_digits (suc v) 10 n (e ∷ ds) [] (omega (arith, b.0)) i.1 (omega arith) (omega (arith, b.1))
    ∙ rw (last_digit 9 n ((e ∷ ds) ++ []) (omega (arith, b.1)), append-nil (e ∷ ds), q)

-- only the text of a number is read as that number
pub decimal_only : (t : Text) (n : ℕ) → decimal t ≡ some n → decimal_text n ≡ t
unfolding decimal
decimal_only t n e =
    let i : _ = checked (every (digit 10) t && no_leading_zero t) (some (value_after 10 0 t)) n e in
    let j : _ = and_both (every (digit 10) t) (no_leading_zero t) i.0 in
    rw (answered i.1) (digits_back t j.0 j.1)

-- ---- how long the text of a number is

digits_fit : (fuel k n : ℕ) (t : Text) → n < 10 ^ suc k → length (digits_before fuel n t) ≤ suc k + length t
digits_fit zero k n t h = unfold digits_before in omega arith
digits_fit (suc fuel) zero n t h = rw (last_digit fuel n t h) (omega arith)
digits_fit (suc fuel) (suc k) n t h = by_digits n
    (λ l. rw (last_digit fuel n t l) (omega arith))
    (λ l. rw (more_digits fuel n t l) (omega (arith, digits_fit fuel k (n / 10) ((48 + n % 10) ∷ t) (omega (arith, pow-succ' 10 (suc k))))))

-- a number below 10 ^ (k + 1) has at most k + 1 digits
pub decimal_length : (k n : ℕ) → n < 10 ^ suc k → length (decimal_text n) ≤ suc k
unfolding decimal_text
decimal_length k n h = omega (arith, digits_fit (suc n) k n [] h)

-- one below 10 has one
pub decimal_one : (n : ℕ) → n < 10 → length (decimal_text n) ≡ 1
unfolding decimal_text
decimal_one n h = rw (last_digit n n [] h)

-- ---- the text of a number digit by digit

-- digits in front of a text are digits with the text behind them
digits_apart : (fuel n : ℕ) (t : Text) → digits_before fuel n t ≡ digits_before fuel n [] ++ t
digits_apart zero n t = unfold digits_before in refl
digits_apart (suc fuel) n t = by_digits n
    (λ h. rw (last_digit fuel n t h, last_digit fuel n [] h))
    (λ h.
    let d = 48 + n % 10 in
    more_digits fuel n t h
    ∙ digits_apart fuel (n / 10) (d ∷ t)
    ∙ sym (append_assoc (digits_before fuel (n / 10) []) (d ∷ []) t)
    ∙ ap (λ (l : Text). l ++ t) (sym (more_digits fuel n [] h ∙ digits_apart fuel (n / 10) (d ∷ []))))

-- below 10 it is one digit
pub decimal_digit : (n : ℕ) → n < 10 → decimal_text n ≡ (48 + n) ∷ []
unfolding decimal_text
decimal_digit n h = last_digit n n [] h

-- else the last digit stands behind the text of the others
pub decimal_last : (n : ℕ) → 10 ≤ n → decimal_text n ≡ decimal_text (n / 10) ++ ((48 + n % 10) ∷ [])
unfolding decimal_text
decimal_last n h =
    more_digits n n [] h
    ∙ same_digits n (suc (n / 10)) (n / 10) ((48 + n % 10) ∷ []) (omega arith) (omega arith)
    ∙ digits_apart (suc (n / 10)) (n / 10) ((48 + n % 10) ∷ [])

-- so it has one digit more
pub decimal_longer : (n : ℕ) → 10 ≤ n → length (decimal_text n) ≡ suc (length (decimal_text (n / 10)))
decimal_longer n h =
    ap length (decimal_last n h) ∙ length-append (decimal_text (n / 10)) ((48 + n % 10) ∷ []) ∙ add-one (length (decimal_text (n / 10)))

-- ---- modes

-- a mode has four digits
pub mode_length : (m : ℕ) → length (mode_text m) ≡ 4
unfolding mode_text
mode_length m = refl

-- four octal digits are read as the number that they write
pub octal_is_read : (a b c d : ℕ) → value_after 8 0 ((48 + a) ∷ (48 + b) ∷ (48 + c) ∷ (48 + d) ∷ []) ≡ octal a b c d
unfolding value_after
octal_is_read a b c d = omega arith

by_mode : {P : Type 0} (m : ℕ) → is_mode m ≡ true → (m / 512 ≡ 0 → P) → (m / 512 ≡ 2 → P) → P
unfolding is_mode set_gid
by_mode m h f g = case (ltb m 512)
    (λ t. f (omega (arith, ltb-true m 512 t)))
    (λ t. g (eqb-true (m / 512) 2 (rw t at h)))

mode_digits_of : (m : ℕ) → is_mode m ≡ true → mode_digits (mode_text m) ≡ true
unfolding mode_digits mode_text every
mode_digits_of m h =
    let a : _ = digit_of 8 (m / 64 % 8) (omega arith) in
    let b : _ = digit_of 8 (m / 8 % 8) (omega arith) in
    let c : _ = digit_of 8 (m % 8) (omega arith) in
    by_mode m h (λ e. rw (e, a, b, c)) (λ e. rw (e, a, b, c))

mode_value : (m : ℕ) → value_after 8 0 (mode_text m) ≡ m
unfolding value_after mode_text
mode_value m =
    let a : m / 64 ≡ m / 512 * 8 + m / 64 % 8 = omega arith in
    let b : m / 8 ≡ m / 64 * 8 + m / 8 % 8 = omega arith in
    let c : m ≡ m / 8 * 8 + m % 8 = omega arith in
    omega arith

-- the text of a mode is read as that mode
pub mode_of_text : (m : ℕ) → is_mode m ≡ true → mode (mode_text m) ≡ some m
unfolding mode check ◌>>◌
mode_of_text m h = rw (mode_digits_of m h, mode_value m)

octal_digit : (n q d : ℕ) → n ≡ q * 8 + (d - 48) → digit 8 d ≡ true → (48 + n % 8 ≡ d) × (n / 8 ≡ q)
octal_digit n q d e h = let b : _ = digit_bounds 8 d h in (omega (arith, b.0, b.1), omega (arith, b.1))

mode_back : (d : ℕ) (ds : Text) → 48 ≤ d → every (digit 8) ds ≡ true → length ds ≡ 3 → mode_text (value_after 8 0 (d ∷ ds)) ≡ d ∷ ds
unfolding mode_text value_after every
mode_back d [] k h l = let z : ⊥ = omega arith in absurd z
mode_back d (a ∷ []) k h l = let z : ⊥ = omega arith in absurd z
mode_back d (a ∷ (b ∷ [])) k h l = let z : ⊥ = omega arith in absurd z
mode_back d (a ∷ (b ∷ (c ∷ []))) k h l =
    let i : _ = and_both (digit 8 a) _ h in
    let j : _ = and_both (digit 8 b) (digit 8 c && true) i.1 in
    let m : ℕ = (((0 + (d - 48)) * 8 + (a - 48)) * 8 + (b - 48)) * 8 + (c - 48) in
    let z : _ = octal_digit m _ c refl (and_both (digit 8 c) true j.1).0 in
    let y : _ = octal_digit (m / 8) _ b z.1 j.0 in
    let u : m / 8 / 8 ≡ m / 64 = omega arith in
    let v : m / 64 / 8 ≡ m / 512 = omega arith in
    let x : _ = octal_digit (m / 64) _ a (sym u ∙ y.1) i.0 in
    let w : 48 + m / 512 ≡ d = omega (arith, x.1) in
    rw (w, x.0, y.0, z.0)
mode_back d (a ∷ (b ∷ (c ∷ (e ∷ ds)))) k h l = let z : ⊥ = omega arith in absurd z

digits_mode : (t : Text) → mode_digits t ≡ true → mode_text (value_after 8 0 t) ≡ t
unfolding mode_digits
digits_mode [] h = contra refl (sym h)
digits_mode (d ∷ ds) h =
    let i : _ = and_both (eqb d 48 || eqb d 50) _ h in
    let j : _ = and_both (every (digit 8) ds) (eqb (length ds) 3) i.1 in
    let k : 48 ≤ d = case (eqb d 48) (λ t. omega (arith, eqb-true d 48 t)) (λ t. omega (arith, eqb-true d 50 (rw t at i.0))) in
    mode_back d ds k j.0 (eqb-true (length ds) 3 j.1)

-- only the text of a mode is read as that mode
pub mode_only : (t : Text) (m : ℕ) → mode t ≡ some m → mode_text m ≡ t
unfolding mode
mode_only t m e =
    let i : _ = checked (mode_digits t) (some (value_after 8 0 t)) m e in
    rw (answered i.1) (digits_mode t i.0)
