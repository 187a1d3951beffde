-- Numbers and texts in fields of fixed width: numbers of two bytes have the low one first, texts are filled up with zeros.
-- Values that all take the same width stand one after another, or in a table behind their number.
use Rattle.std.specs.Prelude.{List, [], ◌∷◌, ◌++◌, Bool, cond, ℕ, zero, suc, ◌+◌, ◌-◌, ◌*◌, ◌/◌, ◌%◌, eqb, length, get_or, take, drop, replicate}
use Rattle.buffers.specs.Text.{Text, every}

-- a number of two bytes
unfoldable pub two_bytes : ℕ → List ℕ
two_bytes n = n % 256 ∷ n / 256 ∷ []

unfoldable pub number_at : ℕ → List ℕ → ℕ
number_at i b = get_or b i 0 + 256 * get_or b (suc i) 0

-- a text filled up with zeros
unfoldable pub padded : ℕ → Text → List ℕ
padded width t = t ++ replicate (width - length t) 0

unfoldable pub unpadded : List ℕ → Text
unpadded [] = []
unpadded (b ∷ t) = cond (eqb b 0) [] (b ∷ unpadded t)

unfoldable pub text_at : ℕ → ℕ → List ℕ → Text
text_at i width b = unpadded (take width (drop i b))

-- whether bytes are all zero
unfoldable pub all_zero : List ℕ → Bool
all_zero l = every (λ b. eqb b 0) l

-- so many bytes from a place are zero
unfoldable pub zeros_at : ℕ → ℕ → List ℕ → Bool
zeros_at i n x = all_zero (take n (drop i x))

-- a field's bytes behind its text are zero
unfoldable pub is_filled : ℕ → ℕ → List ℕ → Bool
is_filled i width x = let n = length (text_at i width x) in zeros_at (i + n) (width - n) x

-- the bytes of some values one after another, and k values read back, each from so many bytes
unfoldable pub all_bytes : {A : Type 0} → (A → List ℕ) → List A → List ℕ
all_bytes f [] = []
all_bytes f (a ∷ l) = f a ++ all_bytes f l

unfoldable pub all_from : {A : Type 0} → ℕ → (List ℕ → A) → ℕ → List ℕ → List A
all_from width f zero b = []
all_from width f (suc k) b = f (take width b) ∷ all_from width f k (drop width b)

-- how many there are, the values, and zeros in place of those that are not there
unfoldable pub table_bytes : {A : Type 0} → ℕ → ℕ → (A → List ℕ) → List A → List ℕ
table_bytes width most f l = length l ∷ (all_bytes f l ++ replicate ((most - length l) * width) 0)

unfoldable pub table_from : {A : Type 0} → ℕ → (List ℕ → A) → List ℕ → List A
table_from width f b = all_from width f (get_or b 0 0) (drop 1 b)
