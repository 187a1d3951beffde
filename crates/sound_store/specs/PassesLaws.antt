-- A test of so many indices: of the numbers of a range, of values one after another, and of tables.
use Rattle.std.specs.Prelude.{◌≡◌, Bool, true, false, ◌&&◌, take, drop}
use Rattle.std.specs.Fn.{Called}
use Rattle.std.specs.Iterator.{YieldsThen}
use Rattle.std.specs.List.{list_all, range_with_len, FoldsTo}
use Rattle.std.specs.Option.{MatchOption}
use Rattle.std.specs.Prelude.{Option}
use Rattle.std.specs.declared.ops.Range.{Range}
use Rattle.std.proofs.iter.Yields.{nat_range_steps}
use Rattle.std.proofs.lemmas.Iterator.{YieldsList-from_range}
use Rattle.std.proofs.lemmas.Iterator.Search.{all_from_yields_List}
use denote.Param.Members.{Mut}
use Rattle.std.proofs.Math.Path.{refl, ap, ap₂}
use Rattle.std.proofs.Common.{sym, ◌∙◌, drop-cons, drop-drop, length-take-le}
use mathlib.Core.List.{List, ◌∷◌, ◌++◌, append_assoc}
use Prim.Native.Nat.{ℕ, zero, suc, ◌+◌, ◌-◌, ◌*◌, ◌≤◌, ◌<◌}
use native.Mathlib.Omega.{arith}
use Rattle.std.proofs.Math.Numerals.{add-one}
use Rattle.std.proofs.Math.Nat.{mul-zero, mul-suc}
use Rattle.std.proofs.Math.ListN.{length, get_or, replicate, length-drop}
use Rattle.std.proofs.lemmas.List.{length-replicate}
use borrow.Author.Tests.{eq-eqb}
use Rattle.buffers.specs.Text.{same_text, every}
use Rattle.buffers.specs.Fields.{all_bytes, all_from, table_bytes, table_from, zeros_at}
use Rattle.buffers.specs.TableLaws.{length_all_from}
use Rattle.soundness.specs.RowTestLaws.{same_part, same_zeros_at}
use Rattle.sound_store.specs.HeaderTests.{passes_from}

-- the numbers of a range all pass a test just if so many indices do
all_in_range : (test : ℕ → Bool) (i n : ℕ) → list_all test (range_with_len i n) ≡ passes_from test i n
unfolding passes_from
all_in_range test i zero = refl
all_in_range test i (suc n) = rw add-one (ap (λ (b : Bool). test i && b) (all_in_range test (suc i) n))

-- what `all` answered over a range, where each call answered by the test
pub all_passed : {F : Type 0} {g : Mut F (ℕ × Unit {0}) Bool} (n : ℕ) (test : ℕ → Bool) (u : Range ℕ) (f : F) (r : Bool)
    → (xs : List ℕ) × (o : Option ℕ) × (j : F) × YieldsThen nat_range_steps (record { start = 0; end = n }) xs o u × FoldsTo (λ p x q. Called g p (x, tt) true q) f xs j
    × MatchOption o (r ≡ true) (λ x. (r ≡ false) × ((h : F) × Called g j (x, tt) false h))
    → ((x : ℕ) (b : Bool) (q : F) → Called g f (x, tt) b q → (q ≡ f) × (b ≡ test x))
    → r ≡ passes_from test 0 n
all_passed n test u f r ran each = all_from_yields_List test u f r ran (YieldsList-from_range 0 n n refl (omega arith)) each ∙ all_in_range test 0 n

-- before the turn of index i what is left to test decides the whole
pub record Passing (test : ℕ → Bool) (n i : ℕ) : Type 0 where
  pub le : i ≤ n
  pub goes : passes_from test i (n - i) ≡ passes_from test 0 n

module _ (test : ℕ → Bool) (n : ℕ) where
  -- at first all is left
  pub passing : Passing test n 0
  passing = let e : n - 0 ≡ n = omega arith in record { le = omega arith; goes = rw e }

  module _ (i : ℕ) (p : Passing test n i) where
    -- an index that passes leaves it to the others
    pub passes_on : i < n → test i ≡ true → Passing test n (i + 1)
    unfolding passes_from
    passes_on h t =
        let e : n - i ≡ suc (n - suc i) = omega arith in
        record { le = omega arith; goes = rw add-one (rw (e, t) at p.goes) }

    -- one that does not decides
    pub passes_not : i < n → test i ≡ false → false ≡ passes_from test 0 n
    unfolding passes_from
    passes_not h t = let e : n - i ≡ suc (n - suc i) = omega arith in rw (e, t) at p.goes

    -- and so does the end
    pub passes_all : n ≤ i → true ≡ passes_from test 0 n
    unfolding passes_from
    passes_all h = let e : n - i ≡ 0 = omega arith in rw e at p.goes

-- two tests of the same indices are one
both_passed : (a b c d : Bool) → ((a && b) && (c && d)) ≡ ((a && c) && (b && d))
both_passed true true c d = refl
both_passed true false true d = refl
both_passed true false false d = refl
both_passed false b c d = refl

pub passes_both : (f g : ℕ → Bool) (i n : ℕ) → (passes_from f i n && passes_from g i n) ≡ passes_from (λ k. f k && g k) i n
unfolding passes_from
passes_both f g i zero = refl
passes_both f g i (suc n) = both_passed (f i) (passes_from f (suc i) n) (g i) (passes_from g (suc i) n) ∙ ap (λ (t : Bool). (f i && g i) && t) (passes_both f g (suc i) n)

-- tests that agree on the indices
pub passes_same : (f g : ℕ → Bool) (i n : ℕ) → ((k : ℕ) → k < i + n → f k ≡ g k) → passes_from f i n ≡ passes_from g i n
unfolding passes_from
passes_same f g i zero h = refl
passes_same f g i (suc n) h = ap₂ ◌&&◌ (h i (omega arith)) (passes_same f g (suc i) n (λ k l. h k (omega arith)))

-- three tests, grouped the other way
three_tests : (a b c : Bool) → (a && (b && c)) ≡ ((a && b) && c)
three_tests true b c = refl
three_tests false b c = refl

-- the bytes of the value of an index, of values of a width from a place on
abbrev pub stretch : ℕ → ℕ → List ℕ → ℕ → List ℕ
stretch w o b k = take w (drop (o + w * k) b)

-- such values one after another
module _ {A : Type 0} (w o : ℕ) (b : List ℕ) (from : List ℕ → A) where
  next_stretch : (i : ℕ) → drop w (drop (o + w * i) b) ≡ drop (o + w * suc i) b
  next_stretch i = let q : o + w * i + w ≡ o + w * suc i = omega (arith, mul-suc w i) in drop-drop w (o + w * i) b ∙ ap (λ (k : ℕ). drop k b) q

  every_passes : (test : A → Bool) (i n : ℕ) → every test (all_from w from n (drop (o + w * i) b)) ≡ passes_from (λ k. test (from (stretch w o b k))) i n
  unfolding every all_from passes_from
  every_passes test i zero = refl
  every_passes test i (suc n) = rw (next_stretch i) (ap (λ (t : Bool). test (from (stretch w o b i)) && t) (every_passes test (suc i) n))

  -- all pass a test just if each does
  pub all_pass : (test : A → Bool) (n : ℕ) → every test (all_from w from n (drop o b)) ≡ passes_from (λ k. test (from (stretch w o b k))) 0 n
  all_pass test n = let q : o ≡ o + w * 0 = omega (arith, mul-zero w) in ap (λ (k : ℕ). every test (all_from w from n (drop k b))) q ∙ every_passes test 0 n

  module _ (to : A → List ℕ) (long : (x : List ℕ) → length x ≡ w → length (to (from x)) ≡ w) (R : List ℕ) where
    same_passes : (i n : ℕ) → o + w * i + w * n ≤ length b →
        same_text (all_bytes to (all_from w from n (drop (o + w * i) b)) ++ R) (drop (o + w * i) b)
        ≡ (passes_from (λ k. same_text (to (from (stretch w o b k))) (stretch w o b k)) i n && same_text R (drop (o + w * i + w * n) b))
    unfolding all_bytes all_from passes_from
    same_passes i zero h = let q : o + w * i + w * 0 ≡ o + w * i = omega (arith, mul-zero w) in ap (λ (k : ℕ). same_text R (drop k b)) (sym q)
    same_passes i (suc n) h =
        let a = to (from (stretch w o b i)) in
        let rest = all_bytes to (all_from w from n (drop (o + w * suc i) b)) ++ R in
        let e = mul-suc w n in
        let e' = mul-suc w i in
        let room : o + w * i + w ≤ length b = omega arith in
        let q : o + w * suc i + w * n ≡ o + w * i + w * suc n = omega arith in
        let q' : o + w * i + w ≡ o + w * suc i = omega arith in
        let l : length a ≡ w = long (stretch w o b i) (length-take-le w (drop (o + w * i) b) (omega (arith, length-drop (o + w * i) b))) in
        rw (next_stretch i, append_assoc a (all_bytes to (all_from w from n (drop (o + w * suc i) b))) R)
        (same_part (o + w * i) w a rest b l room
        ∙ ap (λ (t : Bool). same_text a (stretch w o b i) && t)
        (ap (λ (k : ℕ). same_text rest (drop k b)) q' ∙ same_passes (suc i) n (omega arith) ∙ ap (λ (k : ℕ). passes_from (λ k. same_text (to (from (stretch w o b k))) (stretch w o b k)) (suc i) n && same_text R (drop k b)) q)
        ∙ three_tests (same_text a (stretch w o b i)) _ _)

    -- they are written as they are read just if each is, and what follows is the same
    pub all_same : (n m : ℕ) → o + w * n ≡ m → m ≤ length b →
        same_text (all_bytes to (all_from w from n (drop o b)) ++ R) (drop o b)
        ≡ (passes_from (λ k. same_text (to (from (stretch w o b k))) (stretch w o b k)) 0 n && same_text R (drop m b))
    all_same n m e h =
        let z = mul-zero w in
        let q : o ≡ o + w * 0 = omega arith in
        let q' : o + w * 0 + w * n ≡ m = omega arith in
        ap (λ (k : ℕ). same_text (all_bytes to (all_from w from n (drop k b)) ++ R) (drop k b)) q
        ∙ same_passes 0 n (omega arith)
        ∙ ap (λ (k : ℕ). passes_from (λ k. same_text (to (from (stretch w o b k))) (stretch w o b k)) 0 n && same_text R (drop k b)) q'

-- what stands from a place on begins with the byte there
pub opened : (b : List ℕ) (i : ℕ) → i < length b → drop i b ≡ get_or b i 0 ∷ drop (i + 1) b
opened b i h = drop-cons b i 0 h ∙ ap (λ (k : ℕ). get_or b i 0 ∷ drop k b) (sym (add-one i))

-- a table behind its number
module _ {A : Type 0} (w most o : ℕ) (b : List ℕ) (from : List ℕ → A) where
  module _ (h : o < length b) where
    pub table_values : table_from w from (drop o b) ≡ all_from w from (get_or b o 0) (drop (o + 1) b)
    unfolding table_from
    table_values = rw (opened b o h)

    -- a table is written as it is read just if each value is, with zeros behind them, and what follows is the same
    pub table_same : (to : A → List ℕ) → ((x : List ℕ) → length x ≡ w → length (to (from x)) ≡ w) → (R : List ℕ) (z m : ℕ) →
        (most - get_or b o 0) * w ≡ z → o + 1 + w * get_or b o 0 + z ≡ m → m ≤ length b →
        same_text (table_bytes w most to (table_from w from (drop o b)) ++ R) (drop o b)
        ≡ (passes_from (λ k. same_text (to (from (stretch w (o + 1) b k))) (stretch w (o + 1) b k)) 0 (get_or b o 0)
        && (zeros_at (o + 1 + w * get_or b o 0) z b && same_text R (drop m b)))
    unfolding table_bytes same_text
    table_same to long R z m e f g =
        let n = get_or b o 0 in
        let l = all_from w from n (drop (o + 1) b) in
        let A = all_bytes to l in
        let Z : List ℕ = replicate z 0 in
        let s = o + 1 + w * n in
        let tail : same_text (Z ++ R) (drop s b) ≡ (zeros_at s z b && same_text R (drop m b)) =
        same_part s z Z R b (length-replicate z 0) (omega arith)
        ∙ ap₂ (λ (t : Bool) (k : ℕ). t && same_text R (drop k b)) (same_zeros_at s z b (omega arith)) f in
        rw (table_values, opened b o h, length_all_from w from n (drop (o + 1) b), e, eq-eqb n n refl, append_assoc A Z R)
        (all_same w (o + 1) b from to long (Z ++ R) n s refl (omega arith) ∙ ap (λ (t : Bool). passes_from (λ k. same_text (to (from (stretch w (o + 1) b k))) (stretch w (o + 1) b k)) 0 n && t) tail)
