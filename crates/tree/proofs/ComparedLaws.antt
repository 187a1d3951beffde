-- Two names compared byte by byte: what one byte tells of their order, and of how many are alike, where all before it are.
--
-- Of the first, which stands in a row, a byte behind the last is zero and no other is; the second has any bytes.
use Rattle.std.specs.Prelude.{◌≡◌, refl, Bool, cond, ltb, length, get_or, drop}
use Rattle.std.proofs.Common.{◌∙◌, arith, add-one}
use Rattle.std.proofs.Math.Bool.{or-false}
use Prim.Native.Nat.{ℕ, suc, ◌+◌, ◌≤◌, ◌<◌}
use Rattle.std.proofs.Math.ListN.{drop_of_length-le, get_or-eq_default}
use Rattle.std.proofs.Math.Seq.{drop-cons}
use borrow.Author.Tests.{eq-eqb, ne_eqb, ltb-true, ltb-false, lt-ltb, le-ltb}
use Rattle.buffers.specs.Cases.{case}
use Rattle.buffers.specs.Text.{Text, same_text, precedes}
use Rattle.tree.specs.RowScan.{Order, Before, Same, After, order_of}
use Rattle.tree.specs.Search.{alike}

-- the first k bytes are alike, so what is behind them decides
pub record Compared (s t : Text) (k : ℕ) : Type 0 where
  pub in_first : k ≤ length s
  pub in_second : k ≤ length t
  pub order : order_of s t ≡ order_of (drop k s) (drop k t)
  pub count : alike s t ≡ k + alike (drop k s) (drop k t)

-- k bytes are alike, and the next decides
pub record Decided (s t : Text) (k : ℕ) (o : Order) : Type 0 where
  pub order : order_of s t ≡ o
  pub count : alike s t ≡ k

-- none are compared
pub compared_none : (s t : Text) → Compared s t 0
compared_none s t = record { in_first = omega arith; in_second = omega arith; order = refl; count = omega arith }

-- ---- the byte behind those that are alike

module _ {s t : Text} {k : ℕ} (c : Compared s t k) where
  decided : {o : Order} → order_of (drop k s) (drop k t) ≡ o → alike (drop k s) (drop k t) ≡ 0 → Decided s t k o
  decided e n = record { order = c.order ∙ e; count = omega (arith, c.count, n) }

  -- both names go on
  module _ (h : k < length s) (l : k < length t) where
    byte_alike : get_or s k 0 ≡ get_or t k 0 → Compared s t (k + 1)
    unfolding order_of same_text precedes alike
    byte_alike e =
        let o : order_of (drop k s) (drop k t) ≡ order_of (drop (k + 1) s) (drop (k + 1) t) =
        rw (add-one, drop-cons s k 0 h, drop-cons t k 0 l) (rw (eq-eqb (get_or s k 0) (get_or t k 0) e, le-ltb (get_or s k 0) (get_or t k 0) (omega arith))) in
        let n : alike (drop k s) (drop k t) ≡ suc (alike (drop (k + 1) s) (drop (k + 1) t)) =
        rw (add-one, drop-cons s k 0 h, drop-cons t k 0 l) (rw (eq-eqb (get_or s k 0) (get_or t k 0) e)) in
        record { in_first = omega arith; in_second = omega arith; order = c.order ∙ o; count = omega (arith, c.count, n) }

    -- where they differ, the lesser byte comes before
    byte_differs : {b : Bool} → (get_or s k 0 ≡ get_or t k 0 → ⊥) → ltb (get_or s k 0) (get_or t k 0) ≡ b → Decided s t k (cond b Before After)
    unfolding order_of same_text precedes alike
    byte_differs {b} n m =
        let d = ne_eqb (get_or s k 0) (get_or t k 0) n in
        decided (rw (drop-cons s k 0 h, drop-cons t k 0 l) (rw (d, m, or-false b))) (rw (drop-cons s k 0 h, drop-cons t k 0 l) (rw d))

  -- the first has ended, or the second, or both
  first_shorter : length s ≤ k → k < length t → Decided s t k Before
  unfolding order_of same_text precedes alike
  first_shorter h l = decided (rw (drop_of_length-le s h, drop-cons t k 0 l)) (rw (drop_of_length-le s h))

  second_shorter : k < length s → length t ≤ k → Decided s t k After
  unfolding order_of same_text precedes alike
  second_shorter h l = decided (rw (drop-cons s k 0 h, drop_of_length-le t l)) (rw (drop-cons s k 0 h, drop_of_length-le t l))

  both_over : length s ≤ k → length t ≤ k → Decided s t k Same
  unfolding order_of same_text precedes alike
  both_over h l = decided (rw (drop_of_length-le s h, drop_of_length-le t l)) (rw (drop_of_length-le s h))

-- ---- the same by the byte alone

module _ {s t : Text} {k : ℕ} (c : Compared s t k) (nonzero : k < length s → get_or s k 0 ≡ 0 → ⊥) where
  first_goes_on : (get_or s k 0 ≡ 0 → ⊥) → k < length s
  first_goes_on h = case (ltb k (length s))
      (λ l. ltb-true k (length s) l)
      (λ l. absurd (h (get_or-eq_default s 0 (ltb-false k (length s) l))))

  first_over : get_or s k 0 ≡ 0 → length s ≤ k
  first_over z = case (ltb k (length s))
      (λ l. absurd (nonzero (ltb-true k (length s) l) z))
      (λ l. ltb-false k (length s) l)

  -- one more is alike
  pub one_more : k < length t → get_or s k 0 ≡ get_or t k 0 → (get_or s k 0 ≡ 0 → ⊥) → Compared s t (k + 1)
  one_more l e n = byte_alike c (first_goes_on n) l e

  -- the first has ended, and the second goes on
  pub first_ends : k < length t → get_or s k 0 ≡ 0 → Decided s t k Before
  first_ends l z = first_shorter c (first_over z) l

  -- its byte is less: zero, where it has ended, or not
  pub stands_before : k < length t → get_or s k 0 < get_or t k 0 → Decided s t k Before
  stands_before l m = case (ltb k (length s))
      (λ h. byte_differs c (ltb-true k (length s) h) l (λ e. omega arith) (lt-ltb (get_or s k 0) (get_or t k 0) m))
      (λ h. first_shorter c (ltb-false k (length s) h) l)

  -- its byte is greater, so it has not ended
  pub stands_after : k < length t → get_or t k 0 < get_or s k 0 → Decided s t k After
  stands_after l m = byte_differs c (first_goes_on (λ e. omega arith)) l (λ e. omega arith) (le-ltb (get_or s k 0) (get_or t k 0) (omega arith))

  -- the second has ended, and the first too
  pub both_end : length t ≤ k → get_or s k 0 ≡ 0 → Decided s t k Same
  both_end l z = both_over c (first_over z) l

  -- or not
  pub second_ends : length t ≤ k → (get_or s k 0 ≡ 0 → ⊥) → Decided s t k After
  second_ends l n = second_shorter c (first_goes_on n) l
