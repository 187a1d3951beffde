-- The rows of bits are dominance: they begin so (`own_rows_are`), one pair more grows them so (`grown_rows_are`), and they tell
-- who dominates (`row_dominates_is`) and the service account (`row_account_is`).
use Rattle.std.specs.Prelude.{◌≡◌, List, [], ◌∷◌, ◌++◌, map, Bool, true, false, ◌||◌, ◌&&◌, ◌⊎◌, ℕ, zero, suc, ◌+◌, ◌*◌, ◌^◌, ◌≤◌, ◌<◌, ltb, length, get_or}
use Rattle.std.proofs.Math.Path.{refl, sym}
use Rattle.std.proofs.Common.{ap, ◌∙◌, arith, zero-add, add-zero, suc-add, add-suc, one-mul, zero-mul, pow-suc, lt_of_lt_of_le, le_of_suc-le-suc, not-suc-le-zero, pow_mono, pow-add}
use Rattle.std.proofs.Math.Bool.{or-true, or-false}
use Rattle.std.proofs.Math.Logic.{inl, inr}
use Rattle.std.proofs.Math.Nat.{div-eq_of_lt}
use Rattle.std.specs.Int.Bits.{bit_or, or_shifted_r, or_zero_r}
use Rattle.std.proofs.lemmas.Nat.{or_block}
use Rattle.std.proofs.Math.ListN.{get_or-eq_default}
use borrow.Author.Tests.{ltb-true, ltb-false, eqb-true, eqb-false}
use Rattle.std.proofs.Math.Pow.{pow-lt}
use Rattle.buffers.specs.Cases.{case, and_both}
use Rattle.accounts.specs.declared.Role.{Role}
use Rattle.accounts.specs.declared.Pair.{Pair}
use Rattle.accounts.specs.Session.{as_role}
use Rattle.accounts.specs.Groups.{same_gid, member, no_groups, with_group}
use Rattle.accounts.proofs.GroupsLaws.{member_with}
use Rattle.accounts.specs.Dominance.{BoundedRole, Listed, first, later, Dominates, self, down, same_role, juniors, any_role, chain, dominates, Falling, falls, all_fall}
use Rattle.accounts.proofs.DominanceLaws.{same_role_is, dominates_is, dominates_falls, all_fall_is}
use Rattle.accounts.specs.Service.{service_gid, all_services, service_groups, service, service_uid}
use Rattle.accounts.specs.Closure.{has_role, row_of, rows_from, rows_of, own_rows, grown_row, grown_rows, row_dominates, row_account, session_dominates}

-- without pairs each role has its own bit alone
pub own_rows_are : own_rows ≡ rows_of []
unfolding own_rows rows_of rows_from row_of dominates chain any_role juniors same_role
own_rows_are = refl

-- a test as a number
abbrev bit : Bool → ℕ
bit true = 1
bit false = 0

-- one role more of a row
row_step : (test : Role → Bool) (k : ℕ) → row_of test (suc k) ≡ bit (test (record { 0 = k })) * 2 ^ k + row_of test k
unfolding row_of
row_step test k = case (test (record { 0 = k }))
    (λ t. rw (t, one-mul (2 ^ k)))
    (λ t. rw (t, zero-mul (2 ^ k), zero-add (row_of test k)))

-- a row of the roles below k has k bits
row_below : (test : Role → Bool) (k : ℕ) → row_of test k < 2 ^ k
unfolding row_of
row_below test zero = omega arith
row_below test (suc k) = case (test (record { 0 = k }))
    (λ t. rw (t, pow-suc 2 k) (omega (arith, row_below test k)))
    (λ t. rw (t, pow-suc 2 k) (omega (arith, row_below test k)))

-- rows of tests that agree are one row
row_same : (f g : Role → Bool) (k : ℕ) → ((r : Role) → r.0 < k → f r ≡ g r) → row_of f k ≡ row_of g k
unfolding row_of
row_same f g zero h = refl
row_same f g (suc k) h = rw (h (record { 0 = k }) (omega arith), row_same f g k (λ r l. h r (omega arith)))

-- the or of two tests
or_of_bits : (a b : Bool) → bit_or (bit a) (bit b) ≡ bit (a || b)
or_of_bits true true = refl
or_of_bits true false = refl
or_of_bits false true = refl
or_of_bits false false = refl

-- the or of two rows
row_or : (f g : Role → Bool) (k : ℕ) → bit_or (row_of f k) (row_of g k) ≡ row_of (λ r. f r || g r) k
row_or f g zero = unfold row_of in refl
row_or f g (suc k) = rw (row_step f k, row_step g k, row_step (λ r. f r || g r) k, or_block k (bit (f (record { 0 = k }))) (bit (g (record { 0 = k }))) (row_of f k) (row_of g k) (row_below f k) (row_below g k), or_of_bits (f (record { 0 = k })) (g (record { 0 = k })), row_or f g k)

-- a row with role k more has it and its own
has_more : (row k : ℕ) (r : Role) → row < 2 ^ k → has_role (2 ^ k + row) r ≡ (same_role r (record { 0 = k }) || has_role row r)
unfolding has_role member with_group same_gid same_role
has_more row k r l =
    let e : bit_or row (2 ^ k) ≡ 2 ^ k + row = rw (one-mul (2 ^ k)) at (or_shifted_r 1 k row l) in
    rw (← e) (member_with (record { 0 = r.0 }) (record { 0 = k }) (record { 0 = row }))

-- a row of k bits has no role from k on
has_none : (row k : ℕ) (r : Role) → row < 2 ^ k → k ≤ r.0 → has_role row r ≡ false
unfolding has_role
has_none row k r l h = rw (div-eq_of_lt (lt_of_lt_of_le l (pow_mono h)))

-- a row has the roles that pass its test
row_has : (test : Role → Bool) (r : Role) (k : ℕ) → r.0 < k → has_role (row_of test k) r ≡ test r
unfolding row_of
row_has test r zero h = absurd (not-suc-le-zero h)
row_has test r (suc k) h = case (same_role r (record { 0 = k }))
    (λ e. rw (← same_role_is r (record { 0 = k }) e) (case (test r)
    (λ t. rw (t, has_more (row_of test k) k r (row_below test k), e))
    (λ t. rw (t, has_none (row_of test k) k r (row_below test k) (omega (arith, at_k e))))))
    (λ e. case (test (record { 0 = k }))
    (λ t. rw (t, has_more (row_of test k) k r (row_below test k), e) (row_has test r k (omega (arith, not_k e))))
    (λ t. rw t (row_has test r k (omega (arith, not_k e)))))
  where
    at_k : same_role r (record { 0 = k }) ≡ true → r.0 ≡ k
    at_k e = unfold same_role in eqb-true r.0 k e

    not_k : same_role r (record { 0 = k }) ≡ false → r.0 ≡ k → ⊥
    not_k e = unfold same_role in eqb-false r.0 k e

-- the rows stand in the roles' order
row_at : (ps : List Pair) (k n i : ℕ) → i < n → get_or (rows_from ps k n) i 0 ≡ row_of (dominates ps (record { 0 = k + i })) 8
unfolding rows_from
row_at ps k zero i h = absurd (not-suc-le-zero h)
row_at ps k (suc n) zero h = rw (add-zero k)
row_at ps k (suc n) (suc i) h = rw (add-suc k i, ← suc-add k i) (row_at ps (suc k) n i (le_of_suc-le-suc h))

-- a role's row
role_row : (ps : List Pair) (s : Role) → s.0 < 8 → get_or (rows_of ps) s.0 0 ≡ row_of (dominates ps s) 8
unfolding rows_of
role_row ps s h = row_at ps 0 8 s.0 h ∙ ap (λ (k : ℕ). row_of (dominates ps (record { 0 = k })) 8) (zero-add s.0)

-- a role's row tells which roles it dominates
pub row_dominates_is : (ps : List Pair) (s r : BoundedRole) → row_dominates (rows_of ps) s.role r.role ≡ dominates ps s.role r.role
unfolding row_dominates
row_dominates_is ps s r = rw (role_row ps s.role (ltb-true s.role.0 8 s.bound)) (row_has (dominates ps s.role) r.role 8 (ltb-true r.role.0 8 r.bound))

-- group 24 and a row stand apart in the number of a set
groups_or : (row k : ℕ) → row < 2 ^ k → k < 8 → bit_or (16777216 + 65536 * row) (2 ^ (16 + k)) ≡ 16777216 + 65536 * (2 ^ k + row)
groups_or row k l h =
    let p : 2 ^ k < 2 ^ 8 = pow-lt h in
    let a : (256 + row) * 2 ^ 16 + 0 ≡ 16777216 + 65536 * row = omega arith in
    let b : 2 ^ k * 2 ^ 16 + 0 ≡ 2 ^ (16 + k) = omega (arith, pow-add 2 16 k) in
    let one : bit_or row (2 ^ k) ≡ 2 ^ k + row = rw (one-mul (2 ^ k)) at (or_shifted_r 1 k row l) in
    let high : bit_or (256 + row) (2 ^ k) ≡ 256 + bit_or row (2 ^ k) = rw (zero-add (2 ^ k)) at (or_block 8 1 0 row (2 ^ k) (omega arith) p) in
    rw (← a, ← b, or_block 16 (256 + row) (2 ^ k) 0 0 (omega arith) (omega arith)) (omega (arith, high, one))

-- the service groups as a number
groups_are : (test : Role → Bool) (k : ℕ) → k ≤ 8 → (service_groups test k).0 ≡ 16777216 + 65536 * row_of test k
unfolding service_groups row_of with_group service_gid all_services no_groups
groups_are test zero h = refl
groups_are test (suc k) h = case (test (record { 0 = k }))
    (λ t. rw (t, groups_are test k (omega arith)) (groups_or (row_of test k) k (row_below test k) (omega arith)))
    (λ t. rw t (groups_are test k (omega arith)))

-- a role's row tells its service account
pub row_account_is : (ps : List Pair) (z : BoundedRole) → row_account (rows_of ps) z.role ≡ service ps z
unfolding row_account service
row_account_is ps z =
    let e : 16777216 + 65536 * get_or (rows_of ps) z.role.0 0 ≡ (service_groups (dominates ps z.role) 8).0 =
    rw (role_row ps z.role (ltb-true z.role.0 8 z.bound)) (sym (groups_are (dominates ps z.role) 8 (omega arith))) in
    λ i. record { uid = service_uid z.role; groups = record { 0 = e i } }

-- a pair of a list with one pair more
listed_split : {s j : Role} (ps : List Pair) (p : Pair) → Listed s j (ps ++ (p ∷ [])) → Listed s j ps ⊎ ((s ≡ p.senior) × (j ≡ p.junior))
listed_split [] p (first) = inr (refl, refl)
listed_split (q ∷ ps) p (first) = inl first
listed_split (q ∷ ps) p (later l) = elim (listed_split ps p l) [ inl k ↦ inl (later k) | inr e ↦ inr e ]
listed_split {s = s} {j = j} [] p (later l) = elim l [ ]

-- the pairs of the list stay
listed_more : {s j : Role} {ps : List Pair} (p : Pair) → Listed s j ps → Listed s j (ps ++ (p ∷ []))
listed_more p first = first
listed_more p (later l) = later (listed_more p l)

-- and the pair is one
listed_last : (ps : List Pair) (p : Pair) → Listed p.senior p.junior (ps ++ (p ∷ []))
listed_last [] p = first
listed_last (q ∷ ps) p = later (listed_last ps p)

-- what was dominated stays so
dominates_more : {ps : List Pair} {s r : Role} (p : Pair) → Dominates ps s r → Dominates (ps ++ (p ∷ [])) s r
dominates_more p self = self
dominates_more p (down l d) = down (listed_more p l) (dominates_more p d)

-- two chains with a pair between them
through : {ps : List Pair} {s q j r : Role} → Dominates ps s q → Listed q j ps → Dominates ps j r → Dominates ps s r
through self l e = down l e
through (down k d) l e = down k (through d l e)

-- what one pair more gives: what was, and what goes through it
abbrev Through : List Pair → Pair → Role → Role → Type 0
Through ps p s r = Dominates ps s r ⊎ (Dominates ps s p.senior × Dominates ps p.junior r)

-- one step of a chain
split_step : {s j r : Role} (ps : List Pair) (p : Pair) → Listed s j ps ⊎ ((s ≡ p.senior) × (j ≡ p.junior)) → Through ps p j r → Through ps p s r
split_step ps p (inl l) (inl d) = inl (down l d)
split_step ps p (inl l) (inr d) = inr (down l d.0, d.1)
split_step ps p (inr e) (inl d) = inr (rw e.0 self, rw e.1 at d)
split_step ps p (inr e) (inr d) = inr (rw e.0 self, d.1)

-- a chain of the longer list goes through the pair or not
split : (ps : List Pair) (p : Pair) {s r : Role} → Dominates (ps ++ (p ∷ [])) s r → Through ps p s r
split ps p self = inl self
split ps p (down l d) = split_step ps p (listed_split ps p l) (split ps p d)

-- the longer list falls
fall_more : (ps : List Pair) (p : Pair) → all_fall ps ≡ true → falls p ≡ true → all_fall (ps ++ (p ∷ [])) ≡ true
unfolding all_fall
fall_more [] p h e = rw e
fall_more (q ∷ ps) p h e =
    let b : _ = and_both (falls q) (all_fall ps) h in
    rw b.0 (fall_more ps p b.1 e)

-- tests that pass together are one
pub one_test : (a b : Bool) → (a ≡ true → b ≡ true) → (b ≡ true → a ≡ true) → a ≡ b
one_test true b f g = sym (f refl)
one_test false b f g = case b (λ t. g t ∙ sym t) sym

-- dominance by one pair more: what was, and whoever dominates the senior dominates what the junior does
dominates_grows : (ps : List Pair) (p : Pair) → all_fall ps ≡ true → falls p ≡ true → p.junior.0 < 8 → (s r : Role) → r.0 < 8 →
    dominates (ps ++ (p ∷ [])) s r ≡ (dominates ps s r || (dominates ps s p.senior && dominates ps p.junior r))
dominates_grows ps p h e b s r l =
    let hs : p.senior.0 < p.junior.0 = unfold falls in ltb-true p.senior.0 p.junior.0 e in
    let new : _ = dominates_is (ps ++ (p ∷ [])) (all_fall_is (ps ++ (p ∷ [])) (fall_more ps p h e)) s r (omega arith) in
    let old : _ = dominates_is ps (all_fall_is ps h) in
    one_test (dominates (ps ++ (p ∷ [])) s r) (dominates ps s r || (dominates ps s p.senior && dominates ps p.junior r))
    (λ d. elim (split ps p (new.0 d)) [
      | inl a ↦ rw ((old s r (omega arith)).1 a)
      | inr a ↦ rw ((old s p.senior (omega arith)).1 a.0, (old p.junior r (omega arith)).1 a.1, or-true)
    ])
    (λ d. case (dominates ps s r)
    (λ t. new.1 (dominates_more p ((old s r (omega arith)).0 t)))
    (λ t. let w : _ = and_both (dominates ps s p.senior) (dominates ps p.junior r) (rw t at d) in
    new.1 (through (dominates_more p ((old s p.senior (omega arith)).0 w.0)) (listed_last ps p) (dominates_more p ((old p.junior r (omega arith)).0 w.1)))))

-- one row grows so
row_grows : (ps : List Pair) (p : Pair) → all_fall ps ≡ true → falls p ≡ true → p.junior.0 < 8 → (s : Role) →
    grown_row p.senior (row_of (dominates ps p.junior) 8) (row_of (dominates ps s) 8) ≡ row_of (dominates (ps ++ (p ∷ [])) s) 8
unfolding grown_row
row_grows ps p h e b s =
    let hs : p.senior.0 < p.junior.0 = unfold falls in ltb-true p.senior.0 p.junior.0 e in
    rw (row_has (dominates ps s) p.senior 8 (omega arith)) (case (dominates ps s p.senior)
    (λ t. rw (t, row_or (dominates ps s) (dominates ps p.junior) 8) (row_same (λ r. dominates ps s r || dominates ps p.junior r) (dominates (ps ++ (p ∷ [])) s) 8 (λ r l. sym (rw t at (dominates_grows ps p h e b s r l)))))
    (λ t. rw t (row_same (dominates ps s) (dominates (ps ++ (p ∷ [])) s) 8 (λ r l. sym (rw (t, or-false) at (dominates_grows ps p h e b s r l))))))

-- all rows grow so
rows_grow : (ps : List Pair) (p : Pair) → all_fall ps ≡ true → falls p ≡ true → p.junior.0 < 8 → (k n : ℕ) →
    map (grown_row p.senior (row_of (dominates ps p.junior) 8)) (rows_from ps k n) ≡ rows_from (ps ++ (p ∷ [])) k n
unfolding rows_from
rows_grow ps p h e b k zero = refl
rows_grow ps p h e b k (suc n) = rw (row_grows ps p h e b (record { 0 = k }), rows_grow ps p h e b (suc k) n)

-- ---- a pair whose junior is past the eight roles

-- with nothing to take a row stays
grown_same : (s : Role) (row : ℕ) → grown_row s 0 row ≡ row
unfolding grown_row
grown_same s row = case (has_role row s) (λ t. rw (t, or_zero_r row)) (λ t. rw t)

-- and so do all rows
map_same : (f : ℕ → ℕ) (rows : List ℕ) → ((x : ℕ) → f x ≡ x) → rows ≡ map f rows
map_same f [] h = refl
map_same f (x ∷ xs) h = λ i. sym (h x) i ∷ map_same f xs h i

-- a junior past the last row has nothing
pub none_grown : (p : Pair) (rows : List ℕ) → length rows ≡ 8 → 8 ≤ p.junior.0 → rows ≡ grown_rows p rows
unfolding grown_rows
none_grown p rows l h =
    let past : length rows ≤ p.junior.0 = omega arith in
    rw (get_or-eq_default rows 0 past) (map_same (grown_row p.senior 0) rows (grown_same p.senior))

-- and leads down to none of the eight
dominates_beyond : (ps : List Pair) (p : Pair) → all_fall ps ≡ true → falls p ≡ true → 8 ≤ p.junior.0 → (s r : Role) → r.0 < 8 →
    dominates ps s r ≡ dominates (ps ++ (p ∷ [])) s r
dominates_beyond ps p h e b s r l =
    let f : Falling ps = all_fall_is ps h in
    let new : _ = dominates_is (ps ++ (p ∷ [])) (all_fall_is (ps ++ (p ∷ [])) (fall_more ps p h e)) s r (omega arith) in
    let old : _ = dominates_is ps f s r (omega arith) in
    one_test (dominates ps s r) (dominates (ps ++ (p ∷ [])) s r)
    (λ d. new.1 (dominates_more p (old.0 d)))
    (λ d. elim (split ps p (new.0 d)) [
      | inl a ↦ old.1 a
      | inr a ↦ let z : ⊥ = omega (arith, dominates_falls ps f a.1) in absurd z
    ])

-- so it changes no row
rows_beyond : (ps : List Pair) (p : Pair) → all_fall ps ≡ true → falls p ≡ true → 8 ≤ p.junior.0 → (k n : ℕ) →
    rows_from ps k n ≡ rows_from (ps ++ (p ∷ [])) k n
unfolding rows_from
rows_beyond ps p h e b k zero = refl
rows_beyond ps p h e b k (suc n) =
    let s : Role = record { 0 = k } in
    rw (row_same (dominates ps s) (dominates (ps ++ (p ∷ [])) s) 8 (dominates_beyond ps p h e b s), rows_beyond ps p h e b (suc k) n)

-- ---- one pair more grows the rows to those of the longer list

pub grown_rows_are : (ps : List Pair) (p : Pair) → all_fall ps ≡ true → falls p ≡ true → grown_rows p (rows_of ps) ≡ rows_of (ps ++ (p ∷ []))
unfolding rows_of
grown_rows_are ps p h e = case (ltb p.junior.0 8)
    (λ b. let l : p.junior.0 < 8 = ltb-true p.junior.0 8 b in
    unfold grown_rows in rw (role_row ps p.junior l) (rows_grow ps p h e l 0 8))
    (λ b. let l : 8 ≤ p.junior.0 = ltb-false p.junior.0 8 b in
    sym (none_grown p (rows_of ps) (unfold rows_from in refl) l) ∙ rows_beyond ps p h e l 0 8)

-- a session dominates what its role dominates
pub session_as : (rows : List ℕ) (s r : Role) → session_dominates (as_role s) rows r ≡ row_dominates rows s r
unfolding session_dominates
session_as rows s r = refl
