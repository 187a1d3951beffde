-- Bytes tested each with the next: at another place, behind the first, and one after another in a loop.
use Rattle.std.specs.Prelude.{◌≡◌, List, ◌∷◌, Bool, false}
use Rattle.std.proofs.Math.Path.{refl, sym, ap, ap₂}
use Rattle.std.proofs.Common.{◌∙◌}
use Rattle.std.proofs.Math.Bool.{true, ◌&&◌, and-true, and-false, and_assoc}
use Prim.Native.Nat.{ℕ, zero, suc, ◌+◌, ◌-◌, ◌≤◌, ◌<◌}
use native.Mathlib.Omega.{arith}
use Rattle.std.proofs.Math.ListN.{get_or}
use Rattle.buffers.specs.Cases.{case, and_both}
use Rattle.soundness.specs.Tests.{neighbours_pass}

-- a loop over n places: what is left, with what was seen, is the whole
pub record PassedUpTo (f : ℕ → ℕ → Bool) (s : List ℕ) (at n : ℕ) (all : Bool) (i : ℕ) : Type 0 where
  pub le : i ≤ n
  pub goes : (all && neighbours_pass f (at + i) (n - i) s) ≡ neighbours_pass f at n s

module _ (f : ℕ → ℕ → Bool) where
  -- the same bytes at two places
  pub pass_alike : (n i j : ℕ) (x y : List ℕ) → ((k : ℕ) → k ≤ n → get_or x (i + k) 0 ≡ get_or y (j + k) 0) → neighbours_pass f i n x ≡ neighbours_pass f j n y
  unfolding neighbours_pass
  pass_alike zero i j x y same = refl
  pass_alike (suc n) i j x y same =
      let here : get_or x i 0 ≡ get_or y j 0 = let p : i + 0 ≡ i = omega arith in let q : j + 0 ≡ j = omega arith in rw (p, q) at (same 0 (omega arith)) in
      let next : get_or x (suc i) 0 ≡ get_or y (suc j) 0 = let p : i + 1 ≡ suc i = omega arith in let q : j + 1 ≡ suc j = omega arith in rw (p, q) at (same 1 (omega arith)) in
      ap₂ ◌&&◌ (ap₂ f here next) (pass_alike n (suc i) (suc j) x y (λ k h.
      let p : suc i + k ≡ i + suc k = omega arith in
      let q : suc j + k ≡ j + suc k = omega arith in
      rw (p, q) (same (suc k) (omega arith))))

  -- behind the first byte
  pub pass_behind : (n b : ℕ) (l : List ℕ) → neighbours_pass f 1 n (b ∷ l) ≡ neighbours_pass f 0 n l
  pass_behind n b l = pass_alike n 1 0 (b ∷ l) l (λ k h. let p : 1 + k ≡ suc k = omega arith in let q : 0 + k ≡ k = omega arith in rw (p, q))

  -- some, and those behind them
  pub pass_apart : (m n i : ℕ) (x : List ℕ) → neighbours_pass f i (m + n) x ≡ (neighbours_pass f i m x && neighbours_pass f (i + m) n x)
  unfolding neighbours_pass
  pass_apart zero n i x = let p : i + 0 ≡ i = omega arith in let q : 0 + n ≡ n = omega arith in rw (p, q)
  pass_apart (suc m) n i x =
      let p : suc m + n ≡ suc (m + n) = omega arith in
      let q : i + suc m ≡ suc i + m = omega arith in
      let first = f (get_or x i 0) (get_or x (suc i) 0) in
      rw (p, q) (ap (λ (b : Bool). first && b) (pass_apart m n (suc i) x)
      ∙ sym (and_assoc first (neighbours_pass f (suc i) m x) (neighbours_pass f (suc i + m) n x)))

  -- n of them in two stretches, that may share some: the first k, and the last j
  module _ (n i : ℕ) (x : List ℕ) where
    pub first_fails : (k : ℕ) → k ≤ n → neighbours_pass f i k x ≡ false → neighbours_pass f i n x ≡ false
    first_fails k h e =
        let q : n ≡ k + (n - k) = omega arith in
        ap (λ (m : ℕ). neighbours_pass f i m x) q ∙ pass_apart k (n - k) i x ∙ rw e

    pub last_fails : (j : ℕ) → j ≤ n → neighbours_pass f (i + (n - j)) j x ≡ false → neighbours_pass f i n x ≡ false
    last_fails j h e =
        let q : n ≡ n - j + j = omega arith in
        ap (λ (m : ℕ). neighbours_pass f i m x) q ∙ pass_apart (n - j) j i x ∙ simp (e, and-false)

    pub both_pass : (k j : ℕ) → k ≤ n → j ≤ n → n ≤ k + j → neighbours_pass f i k x ≡ true → neighbours_pass f (i + (n - j)) j x ≡ true → neighbours_pass f i n x ≡ true
    both_pass k j h l w e g =
        let q : n ≡ n - j + j = omega arith in
        let p : k ≡ n - j + (k - (n - j)) = omega arith in
        let before = neighbours_pass f i (n - j) x in
        let first : before ≡ true = (and_both before (neighbours_pass f (i + (n - j)) (k - (n - j)) x) (sym (pass_apart (n - j) (k - (n - j)) i x) ∙ sym (ap (λ (m : ℕ). neighbours_pass f i m x) p) ∙ e)).0 in
        ap (λ (m : ℕ). neighbours_pass f i m x) q ∙ pass_apart (n - j) j i x ∙ rw (first, g)

    pub in_two : (k j : ℕ) → k ≤ n → j ≤ n → n ≤ k + j → (neighbours_pass f i k x && neighbours_pass f (i + (n - j)) j x) ≡ neighbours_pass f i n x
    in_two k j h l w = case (neighbours_pass f i k x)
        (λ t. case (neighbours_pass f (i + (n - j)) j x)
        (λ u. rw (t, u) (sym (both_pass k j h l w t u)))
        (λ u. rw (t, u) (sym (last_fails j l u))))
        (λ t. rw t (sym (first_fails k h t)))

  module _ (s : List ℕ) (at n : ℕ) where
    pub begins : PassedUpTo f s at n true 0
    begins =
        let q : at + 0 ≡ at = omega arith in
        let p : n - 0 ≡ n = omega arith in
        record { le = omega arith; goes = ap₂ (λ (k m : ℕ). neighbours_pass f k m s) q p }

    pub one_more : {all : Bool} {i : ℕ} (r : Bool) → PassedUpTo f s at n all i → i < n → r ≡ f (get_or s (at + i) 0) (get_or s (at + i + 1) 0) → PassedUpTo f s at n (all && r) (i + 1)
    unfolding neighbours_pass
    one_more {all} {i} r g h e =
        let q : n - i ≡ suc (n - (i + 1)) = omega arith in
        let p : at + (i + 1) ≡ suc (at + i) = omega arith in
        let j : at + i + 1 ≡ suc (at + i) = omega arith in
        let m = f (get_or s (at + i) 0) (get_or s (suc (at + i)) 0) in
        let left = neighbours_pass f (suc (at + i)) (n - (i + 1)) s in
        let whole : neighbours_pass f (at + i) (n - i) s ≡ (m && left) = ap (λ (k : ℕ). neighbours_pass f (at + i) k s) q in
        let here : r ≡ m = rw j at e in
        record {
          le = omega arith;
          goes =
              ap₂ (λ (b : Bool) (k : ℕ). (all && b) && neighbours_pass f k (n - (i + 1)) s) here p
              ∙ and_assoc all m left
              ∙ ap (λ (b : Bool). all && b) (sym whole)
              ∙ g.goes;
        }

    pub ends : {all : Bool} {i : ℕ} → PassedUpTo f s at n all i → n ≤ i → all ≡ neighbours_pass f at n s
    unfolding neighbours_pass
    ends {all} {i} g h =
        let q : n - i ≡ 0 = omega arith in
        let none : neighbours_pass f (at + i) (n - i) s ≡ true = ap (λ (k : ℕ). neighbours_pass f (at + i) k s) q in
        sym (ap (λ (b : Bool). all && b) none ∙ and-true all) ∙ g.goes
