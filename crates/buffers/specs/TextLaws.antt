-- Laws of texts: byte order is a strict total order, how `every` goes through lists, and comparisons and tests from a place on.
use Rattle.std.specs.Prelude.{◌≡◌, refl, List, [], ◌∷◌, ◌++◌, Bool, true, false, ◌&&◌, ℕ, zero, suc, ◌≤◌, ◌<◌, eqb, ltb, length, get_or, set, drop}
use Rattle.std.proofs.Common.{sym, ap, ap₂, arith, eqb-true, eq-eqb, ltb-true, ltb-false, lt-ltb, le-ltb, drop_of_length-le, drop-cons}
use Rattle.std.proofs.lemmas.Bool.{eqb-false}
use Rattle.buffers.specs.Cases.{case, and_both, contra}
use Rattle.buffers.specs.Text.{Text, same_text, precedes, every}

-- a text without length has no bytes
pub no_bytes : (s : Text) → length s ≡ 0 → s ≡ []
no_bytes [] e = refl
no_bytes (b ∷ s) e = let z : ⊥ = omega arith in absurd z

-- a text is the same as itself
pub same_text_refl : (s : Text) → same_text s s ≡ true
unfolding same_text
same_text_refl [] = refl
same_text_refl (a ∷ s) = rw (eq-eqb a a refl) (same_text_refl s)

-- texts that are the same by the test are equal
pub same_text_sound : (s t : Text) → same_text s t ≡ true → s ≡ t
unfolding same_text
same_text_sound [] [] e = refl
same_text_sound [] (b ∷ t) e = cc
same_text_sound (a ∷ s) [] e = cc
same_text_sound (a ∷ s) (b ∷ t) e =
    let h : _ = and_both (eqb a b) (same_text s t) e in
    ap₂ ◌∷◌ (eqb-true a b h.0) (same_text_sound s t h.1)

-- what the first bytes of two texts in order are
first_bytes : {P : Type 0} (a b : ℕ) (s t : Text) → precedes (a ∷ s) (b ∷ t) ≡ true →
    (a < b → P) → (a ≡ b → precedes s t ≡ true → P) → P
unfolding precedes
first_bytes a b s t h less equal = case (ltb a b)
    (λ e. less (ltb-true a b e))
    (λ e. let i : _ = and_both (eqb a b) (precedes s t) (rw e at h) in equal (eqb-true a b i.0) i.1)

first_less : (a b : ℕ) (s t : Text) → a < b → precedes (a ∷ s) (b ∷ t) ≡ true
unfolding precedes
first_less a b s t h = rw (lt-ltb a b h)

first_equal : (a b : ℕ) (s t : Text) → a ≡ b → precedes (a ∷ s) (b ∷ t) ≡ precedes s t
unfolding precedes
first_equal a b s t e = rw (le-ltb a b (omega arith), eq-eqb a b e)

-- no text precedes itself
pub precedes_irrefl : (s : Text) → precedes s s ≡ false
unfolding precedes
precedes_irrefl [] = refl
precedes_irrefl (a ∷ s) = rw (first_equal a a s s refl) (precedes_irrefl s)

-- what precedes a text precedes all that the text precedes
pub precedes_trans : (s t u : Text) → precedes s t ≡ true → precedes t u ≡ true → precedes s u ≡ true
unfolding precedes
precedes_trans [] [] u h k = k
precedes_trans [] (b ∷ t) [] h k = k
precedes_trans [] (b ∷ t) (c ∷ u) h k = refl
precedes_trans (a ∷ s) [] u h k = contra {b = true} refl (cc)
precedes_trans (a ∷ s) (b ∷ t) [] h k = k
precedes_trans (a ∷ s) (b ∷ t) (c ∷ u) h k = first_bytes a b s t h
    (λ l. first_bytes b c t u k (λ m. first_less a c s u (omega arith)) (λ e i. first_less a c s u (omega arith)))
    (λ d j. first_bytes b c t u k
    (λ m. first_less a c s u (omega arith))
    (λ e i. rw (first_equal a c s u (omega arith)) (precedes_trans s t u j i)))

-- of two texts only one precedes the other
pub precedes_asym : (s t : Text) → precedes s t ≡ true → precedes t s ≡ false
precedes_asym s t h = case (precedes t s) (λ k. contra (precedes_trans s t s h k) (precedes_irrefl s)) (λ k. k)

-- of two different texts one precedes the other
pub precedes_total : (s t : Text) → same_text s t ≡ false → precedes s t ≡ false → precedes t s ≡ true
unfolding same_text precedes
precedes_total [] [] d h = sym d
precedes_total [] (b ∷ t) d h = sym h
precedes_total (a ∷ s) [] d h = refl
precedes_total (a ∷ s) (b ∷ t) d h = case (ltb a b)
    (λ l. contra {b = true} refl (rw l at h))
    (λ l. case (eqb a b)
    (λ e. rw (first_equal b a t s (sym (eqb-true a b e))) (precedes_total s t (rw e at d) (rw e at (rw l at h))))
    (λ e. first_less b a t s (omega (arith, ltb-false a b l, eqb-false a b e))))

-- a text that precedes another is not the same
pub precedes_differ : (s t : Text) → precedes s t ≡ true → same_text s t ≡ false
precedes_differ s t h = case (same_text s t)
    (λ e. contra (rw (same_text_sound s t e) at h) (precedes_irrefl t))
    (λ e. e)

-- a weaker test passes wherever a stronger one does
pub every_implies : {A : Type 0} (f g : A → Bool) → ((a : A) → f a ≡ true → g a ≡ true) → (l : List A) →
    every f l ≡ true → every g l ≡ true
unfolding every
every_implies f g w [] h = refl
every_implies f g w (a ∷ l) h =
    let i : _ = and_both (f a) (every f l) h in
    rw (w a i.0) (every_implies f g w l i.1)

-- a test of a list made of two is both lists' test
pub every_append : {A : Type 0} (f : A → Bool) (k l : List A) → every f (k ++ l) ≡ (every f k && every f l)
unfolding every
every_append f [] l = refl
every_append f (a ∷ k) l = case (f a) (λ t. rw t (every_append f k l)) (λ t. rw t)

-- an element of a list that passes a test, or the default, passes it
pub every_get_or : {A : Type 0} (f : A → Bool) (l : List A) (i : ℕ) (d : A) → every f l ≡ true → f d ≡ true → f (get_or l i d) ≡ true
unfolding every
every_get_or f [] i d h k = k
every_get_or f (a ∷ l) zero d h k = (and_both (f a) (every f l) h).0
every_get_or f (a ∷ l) (suc i) d h k = every_get_or f l i d (and_both (f a) (every f l) h).1 k

-- and so does one that is there
pub every_there : {A : Type 0} (f : A → Bool) (l : List A) (i : ℕ) (d : A) → every f l ≡ true → i < length l → f (get_or l i d) ≡ true
unfolding every
every_there f [] i d h k = let z : ⊥ = omega arith in absurd z
every_there f (a ∷ l) zero d h k = (and_both (f a) (every f l) h).0
every_there f (a ∷ l) (suc i) d h k = every_there f l i d (and_both (f a) (every f l) h).1 (omega arith)

-- a list that passes a test still does after an element that passes is stored
pub every_set : {A : Type 0} (f : A → Bool) (l : List A) (i : ℕ) (a : A) → every f l ≡ true → f a ≡ true → every f (set l i a) ≡ true
unfolding every
every_set f [] i a h k = refl
every_set f (b ∷ l) zero a h k = rw k (and_both (f b) (every f l) h).1
every_set f (b ∷ l) (suc i) a h k =
    let j : _ = and_both (f b) (every f l) h in
    rw j.0 (every_set f l i a j.1 k)

-- a test of a text from a place on tests the byte there and the others
pub every_from : (f : ℕ → Bool) (t : Text) (at : ℕ) → at < length t →
    every f (drop at t) ≡ (f (get_or t at 0) && every f (drop (suc at) t))
unfolding every
every_from f t at h = rw (drop-cons t at 0 h)

-- and at the end nothing
pub every_end : (f : ℕ → Bool) (t : Text) (at : ℕ) → length t ≤ at → every f (drop at t) ≡ true
unfolding every
every_end f t at h = rw (drop_of_length-le t h)

-- two texts from a place on are the same where their bytes there and the others are
pub same_from : (s t : Text) (at : ℕ) → at < length s → at < length t →
    same_text (drop at s) (drop at t) ≡ (eqb (get_or s at 0) (get_or t at 0) && same_text (drop (suc at) s) (drop (suc at) t))
unfolding same_text
same_from s t at h k = rw (drop-cons s at 0 h, drop-cons t at 0 k)

-- and at the end of both
pub same_end : (s t : Text) (at : ℕ) → length s ≤ at → length t ≤ at → same_text (drop at s) (drop at t) ≡ true
unfolding same_text
same_end s t at h k = rw (drop_of_length-le s h, drop_of_length-le t k)

-- texts of different lengths are not the same
pub same_length : (s t : Text) → (length s ≡ length t → ⊥) → same_text s t ≡ false
unfolding same_text
same_length [] [] h = absurd (h refl)
same_length [] (b ∷ t) h = refl
same_length (a ∷ s) [] h = refl
same_length (a ∷ s) (b ∷ t) h = case (eqb a b) (λ e. rw e (same_length s t (λ l. h (ap suc l)))) (λ e. rw e)
