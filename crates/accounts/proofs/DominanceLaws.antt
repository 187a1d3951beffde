-- Laws of the definitions in `Dominance`.
use Rattle.std.specs.Prelude.{◌≡◌, refl, List, [], ◌∷◌, Bool, true, ◌&&◌, ℕ, zero, suc, ◌+◌, ◌≤◌, ◌<◌, eqb, ltb}
use Rattle.std.proofs.Common.{sym, ap, arith, ltb-true, eqb-true, eq-eqb}
use Rattle.buffers.specs.Cases.{case, and_both, contra}
use Rattle.buffers.specs.Text.{every}
use Rattle.accounts.specs.declared.Role.{Role}
use Rattle.accounts.specs.declared.Pair.{Pair}
use Rattle.accounts.specs.Dominance.{same_role, BoundedRole, Listed, first, later, Dominates, self, down, juniors, any_role, chain, dominates, Falling, falls, all_fall}

pub role_low : {r : Role} (z : BoundedRole) → z.role ≡ r → r.0 < 8
role_low z e = rw (← e) (ltb-true z.role.0 8 z.bound)

-- a listed pair of a list that passes
listed_falls : (s j : Role) (ps : List Pair) → all_fall ps ≡ true → Listed s j ps → s.0 < j.0
unfolding all_fall falls
listed_falls s j (p ∷ ps) h (first) = ltb-true s.0 j.0 (and_both (falls p) (all_fall ps) h).0
listed_falls s j (p ∷ ps) h (later l) = listed_falls s j ps (and_both (falls p) (all_fall ps) h).1 l
listed_falls s j [] h x'' = elim x'' [ ]

-- a list passes where every pair does
pub all_fall_every : (ps : List Pair) → all_fall ps ≡ every falls ps
unfolding all_fall every
all_fall_every [] = refl
all_fall_every (p ∷ ps) = ap (λ (b : Bool). falls p && b) (all_fall_every ps)

-- what passes the test leads down
pub all_fall_is : (ps : List Pair) → all_fall ps ≡ true → Falling ps
unfolding Falling
all_fall_is ps h = λ s j l. listed_falls s j ps h l

-- roles of one number are one role
pub same_role_is : (s r : Role) → same_role s r ≡ true → s ≡ r
unfolding same_role
same_role_is s r h = λ i. record { 0 = eqb-true s.0 r.0 h i }

-- roles are the same by their numbers
pub same_role_number : (s r : Role) → same_role s r ≡ eqb s.0 r.0
unfolding same_role
same_role_number s r = refl

-- a pair leads down by its numbers
pub falls_is : (p : Pair) → falls p ≡ ltb p.senior.0 p.junior.0
unfolding falls
falls_is p = refl

-- a role is itself
role_itself : (s : Role) → same_role s s ≡ true
unfolding same_role
role_itself s = eq-eqb s.0 s.0 refl

-- a listed junior is among the juniors
listed_any : (f : Role → Bool) (s j : Role) (ps : List Pair) → Listed s j ps → f j ≡ true → any_role f (juniors s ps) ≡ true
unfolding any_role juniors
listed_any f s j (p ∷ ps) (first) h = rw (role_itself s) (rw h)
listed_any f s j (p ∷ ps) (later l) h = case (same_role s p.senior)
    (λ t. rw t (case (f p.junior) (λ i. rw i) (λ i. rw (i, listed_any f s j ps l h))))
    (λ t. rw t (listed_any f s j ps l h))
listed_any f s j [] x'' h = elim x'' [ ]

-- and the juniors are listed
any_listed : (f : Role → Bool) (s : Role) (ps : List Pair) → any_role f (juniors s ps) ≡ true → (j : Role) × (Listed s j ps) × (f j ≡ true)
unfolding any_role juniors
any_listed f s [] h = contra refl (sym h)
any_listed f s (p ∷ ps) h = case (same_role s p.senior)
    (λ t. case (f p.junior)
    (λ i. (p.junior, rw (same_role_is s p.senior t) first, i))
    (λ i. let r : _ = any_listed f s ps (rw i at (rw t at h)) in (r.0, later r.1, r.2)))
    (λ t. let r : _ = any_listed f s ps (rw t at h) in (r.0, later r.1, r.2))

-- the test finds only what the relation holds of
chain_sound : (k : ℕ) (ps : List Pair) (s r : Role) → chain k ps s r ≡ true → Dominates ps s r
unfolding chain
chain_sound zero ps s r h = rw (same_role_is s r h) self
chain_sound (suc k) ps s r h = case (same_role s r)
    (λ t. rw (same_role_is s r t) self)
    (λ t. let w : _ = any_listed (λ j. chain k ps j r) s ps (rw t at h) in down w.1 (chain_sound k ps w.0 r w.2))

-- the relation leads down too
pub dominates_falls : (ps : List Pair) → Falling ps → {s r : Role} → Dominates ps s r → s.0 ≤ r.0
unfolding Falling
dominates_falls ps f self = omega arith
dominates_falls ps f (down l d) = omega (arith, f _ _ l, dominates_falls ps f d)

-- the test finds all that the relation holds of, since a chain falls with every pair
chain_complete : (k : ℕ) (ps : List Pair) → Falling ps → (s r : Role) → Dominates ps s r → r.0 ≤ s.0 + k → chain k ps s r ≡ true
unfolding chain Falling
chain_complete zero ps f s r (self) h = role_itself s
chain_complete zero ps f s r (down {j = j} l d) h = let z : ⊥ = omega (arith, f s j l, dominates_falls ps f d) in absurd z
chain_complete (suc k) ps f s r (self) h = rw (role_itself s)
chain_complete (suc k) ps f s r (down {j = j} l d) h = case (same_role s r)
    (λ t. rw t)
    (λ t. rw (t, listed_any (λ i. chain k ps i r) s j ps l (chain_complete k ps f j r d (omega (arith, f s j l)))))

-- the test and the relation are one
pub dominates_is : (ps : List Pair) → Falling ps → (s r : Role) → r.0 ≤ 7 → (dominates ps s r ≡ true → Dominates ps s r) × (Dominates ps s r → dominates ps s r ≡ true)
unfolding dominates
dominates_is ps f s r h = (chain_sound 7 ps s r, λ d. chain_complete 7 ps f s r d (omega arith))

-- a role dominates itself
pub dominates_self : (ps : List Pair) (s r : Role) → s.0 ≡ r.0 → dominates ps s r ≡ true
unfolding dominates chain same_role
dominates_self ps s r e = rw (eq-eqb s.0 r.0 e)

-- two chains, one after the other
after : {ps : List Pair} {s q r : Role} → Dominates ps s q → Dominates ps q r → Dominates ps s r
after self e = e
after (down l d) e = down l (after d e)

-- and what a role dominated by it dominates
pub dominates_trans : (ps : List Pair) → Falling ps → (s q r : Role) → q.0 ≤ 7 → r.0 ≤ 7 → dominates ps s q ≡ true → dominates ps q r ≡ true → dominates ps s r ≡ true
dominates_trans ps f s q r hq hr d e = (dominates_is ps f s r hr).1 (after ((dominates_is ps f s q hq).0 d) ((dominates_is ps f q r hr).0 e))

-- a chain of two pairs
pub chain_of_two : dominates (record { senior = record { 0 = 0 }; junior = record { 0 = 1 } } ∷ record { senior = record { 0 = 1 }; junior = record { 0 = 2 } } ∷ []) (record { 0 = 0 }) (record { 0 = 2 }) ≡ true
unfolding dominates chain any_role juniors same_role
chain_of_two = refl
