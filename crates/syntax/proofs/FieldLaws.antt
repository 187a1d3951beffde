-- Laws of the readers of numbers, modes and fields: all that each answers is in range. Content fits its bytes.
use Rattle.std.specs.Prelude.{◌≡◌, refl, [], ◌∷◌, Bool, true, false, ◌&&◌, ◌||◌, not, ℕ, suc, ◌+◌, ◌-◌, ◌*◌, ◌/◌, ◌≤◌, ◌<◌, ◌%◌, eqb, leb, ltb, length}
use Rattle.std.proofs.Common.{sym, arith, eqb-true, eq-eqb, ne_eqb, lt-ltb, leb-true}
use Rattle.std.proofs.Math.Option.{some}
use Rattle.std.proofs.lemmas.Bool.{not-true}
use Rattle.buffers.specs.Cases.{case, and_both, contra}
use Rattle.buffers.specs.Text.{Text, every, lacks}
use Rattle.buffers.specs.TextLaws.{every_implies}
use Rattle.syntax.specs.Number.{digit, value_after, decimal, between, mode_digits, mode, set_gid, is_mode}
use Rattle.syntax.proofs.FormLaws.{both_read, checked, answered, AnswersPass, checked_gives}
use Rattle.syntax.proofs.NumberLaws.{digit_bounds}
use Rattle.syntax.specs.Form.{◌>>=◌, ◌>>◌, check}
use Rattle.syntax.specs.Path.{is_name}
use Rattle.syntax.specs.Field.{uid, gid, plain_mode, password, content_limit, content_byte, is_content, content}

-- a number read between two bounds is between them
pub between_gives : (low high : ℕ) → AnswersPass (between low high) (λ n. leb low n && leb n high)
unfolding between
between_gives low high t n e =
    let i : _ = both_read (decimal t) (λ m. check (leb low m && leb m high) >> some m) n e in
    checked_gives (λ m. leb low m && leb m high) i.0 n i.2

-- a number between two bounds, made a value, passes what every such value passes
pub number_gives : {X : Type 0} (test : X → Bool) (low high : ℕ) (x : ℕ → X) →
    ((n : ℕ) → (leb low n && leb n high) ≡ true → test (x n) ≡ true) → AnswersPass (λ s. between low high s >>= λ n. some (x n)) test
number_gives test low high x h s y e =
    let i : _ = both_read (between low high s) (λ n. some (x n)) y e in
    rw (answered i.2) (h i.0 (between_gives low high s i.0 i.1))

-- a number of at most a bound is less than the next
pub within_bound : (low high n : ℕ) → (leb low n && leb n high) ≡ true → ltb n (suc high) ≡ true
within_bound low high n h = lt-ltb n (suc high) (omega (arith, leb-true n high (and_both (leb low n) (leb n high) h).1))

-- a uid is 0 to 23
pub uid_gives : AnswersPass uid (λ u. ltb u.0 24)
unfolding uid
uid_gives = number_gives (λ u. ltb u.0 24) 0 23 (λ n. record { 0 = n }) (within_bound 0 23)

-- a gid is 0 to 24
pub gid_gives : AnswersPass gid (λ g. ltb g.0 25)
unfolding gid
gid_gives = number_gives (λ g. ltb g.0 25) 0 24 (λ n. record { 0 = n }) (within_bound 0 24)

-- three octal digits after a number
three_digits : (n : ℕ) (ds : Text) → every (digit 8) ds ≡ true → length ds ≡ 3 →
    (n * 512 ≤ value_after 8 n ds) × (value_after 8 n ds < n * 512 + 512)
unfolding every value_after
three_digits n [] h l = let z : ⊥ = omega arith in absurd z
three_digits n (a ∷ []) h l = let z : ⊥ = omega arith in absurd z
three_digits n (a ∷ (b ∷ [])) h l = let z : ⊥ = omega arith in absurd z
three_digits n (a ∷ (b ∷ (c ∷ []))) h l =
    let i : _ = and_both (digit 8 a) _ h in
    let j : _ = and_both (digit 8 b) _ i.1 in
    let k : _ = and_both (digit 8 c) true j.1 in
    let x : _ = digit_bounds 8 a i.0 in
    let y : _ = digit_bounds 8 b j.0 in
    let z : _ = digit_bounds 8 c k.0 in
    (omega arith, omega (arith, x.0, x.1, y.0, y.1, z.0, z.1))
three_digits n (a ∷ (b ∷ (c ∷ (d ∷ ds)))) h l = let z : ⊥ = omega arith in absurd z

digits_are_mode : (t : Text) → mode_digits t ≡ true → is_mode (value_after 8 0 t) ≡ true
unfolding mode_digits value_after is_mode set_gid
digits_are_mode [] h = contra refl (cc)
digits_are_mode (d ∷ ds) h =
    let i : _ = and_both (eqb d 48 || eqb d 50) _ h in
    let j : _ = and_both (every (digit 8) ds) (eqb (length ds) 3) i.1 in
    let n : ℕ = 0 * 8 + (d - 48) in
    let m : ℕ = value_after 8 n ds in
    let b : _ = three_digits n ds j.0 (eqb-true (length ds) 3 j.1) in
    case (eqb d 48)
    (λ t. rw (lt-ltb m 512 (omega (arith, b.1, eqb-true d 48 t))))
    (λ t. let f : eqb d 50 ≡ true = rw t at i.0 in
    let s : eqb (m / 512) 2 ≡ true = eq-eqb (m / 512) 2 (omega (arith, b.0, b.1, eqb-true d 50 f)) in
    case (ltb m 512) (λ l. rw l) (λ l. rw (l, s)))

-- a mode is four octal digits of which the first is 0 or 2
pub mode_gives : AnswersPass mode is_mode
unfolding mode
mode_gives t m e =
    let i : _ = checked (mode_digits t) (some (value_after 8 0 t)) m e in
    rw (answered i.1) (digits_are_mode t i.0)

plain_small : (m : ℕ) → is_mode m ≡ true → set_gid m ≡ false → ltb m 512 ≡ true
unfolding is_mode
plain_small m h k = case (ltb m 512) (λ t. t) (λ t. contra (rw t at h) k)

-- the mode of a new file has first digit 0
pub plain_mode_gives : AnswersPass plain_mode (λ m. ltb m 512)
unfolding plain_mode
plain_mode_gives t n e =
    let i : _ = both_read (mode t) (λ m. check (not (set_gid m)) >> some m) n e in
    let j : _ = checked (not (set_gid i.0)) (some i.0) n i.2 in
    rw (answered j.1) (plain_small i.0 (mode_gives t i.0 i.1) (not-true (set_gid i.0) j.0))

-- a password is a name
pub password_gives : AnswersPass password is_name
unfolding password
password_gives = checked_gives is_name

-- content is content
pub content_gives : AnswersPass content is_content
unfolding content
content_gives = checked_gives is_content

-- the bytes of content are from 32 on
content_byte_from : (b : ℕ) → content_byte b ≡ true → 32 ≤ b
unfolding content_byte
content_byte_from b h = leb-true 32 b (and_both (leb 32 b) (leb b 126) (and_both _ (not (eqb b 44)) h).0).0

-- content is not longer than its limit
pub content_length : (c : Text) → is_content c ≡ true → length c ≤ content_limit
unfolding is_content
content_length c h = leb-true (length c) content_limit (and_both (every content_byte c) (leb (length c) content_limit) h).1

-- so zeros fill it up to a field of that width: it has no zero byte
pub content_fits : (c : Text) → is_content c ≡ true → (length c ≤ content_limit) × (lacks 0 c ≡ true)
unfolding is_content lacks
content_fits c h = (
  content_length c h,
  every_implies content_byte (λ b. not (eqb b 0)) (λ b t. rw (ne_eqb b 0 (λ e. omega (arith, content_byte_from b t)))) c (and_both (every content_byte c) _ h).0,
)

-- a number that is read is in range, and fits a byte
read_range : (low high n : ℕ) (t : Text) → some n ≡ between low high t → (low ≤ n) × (n ≤ high)
read_range low high n t e =
    let i : _ = and_both (leb low n) (leb n high) (between_gives low high t n (sym e)) in
    (leb-true low n i.0, leb-true n high i.1)

pub read_byte : (low high n : ℕ) (t : Text) → some n ≡ between low high t → high < 256 → n % 256 ≡ n
read_byte low high n t e h = omega (arith, (read_range low high n t e).1)
