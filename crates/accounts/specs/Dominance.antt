-- Dominance between roles: as a relation, a chain of pairs, and as a test that computes; the two are one (`dominates_is`).
use Rattle.std.specs.Prelude.{◌≡◌, List, [], ◌∷◌, Bool, true, false, ◌||◌, ◌&&◌, cond, ℕ, zero, suc, ◌<◌, eqb, ltb}
use Rattle.accounts.specs.declared.Role.{Role}
use Rattle.accounts.specs.declared.Pair.{Pair}

unfoldable pub same_role : Role → Role → Bool
same_role s r = eqb s.0 r.0

-- a role with the bound that document 01 gives it, 0 to 7
pub record BoundedRole : Type 0 where
  pub role : Role
  pub bound : ltb role.0 8 ≡ true

-- the relation: s is r, or a pair leads from s to a role that dominates r
pub data Listed (s j : Role) : List Pair → Type 0 where
  first : {ps : List Pair} → Listed s j (record { senior = s; junior = j } ∷ ps)
  later : {p : Pair} {ps : List Pair} → Listed s j ps → Listed s j (p ∷ ps)

pub data Dominates (ps : List Pair) : Role → Role → Type 0 where
  self : {s : Role} → Dominates ps s s
  down : {s j r : Role} → Listed s j ps → Dominates ps j r → Dominates ps s r

-- the test: a chain of at most k pairs. Seniors are less than juniors and roles are 0 to 7, so 7 pairs are enough
unfoldable pub juniors : Role → List Pair → List Role
juniors s [] = []
juniors s (p ∷ ps) = let rest = juniors s ps in cond (same_role s p.senior) (p.junior ∷ rest) rest

unfoldable pub any_role : (Role → Bool) → List Role → Bool
any_role f [] = false
any_role f (r ∷ rs) = f r || any_role f rs

unfoldable pub chain : ℕ → List Pair → Role → Role → Bool
chain zero ps s r = same_role s r
chain (suc k) ps s r = same_role s r || any_role (λ j. chain k ps j r) (juniors s ps)

unfoldable pub dominates : List Pair → Role → Role → Bool
dominates ps s r = chain 7 ps s r

-- every pair leads down: senior < junior
unfoldable pub Falling : List Pair → Type 0
Falling ps = (s j : Role) → Listed s j ps → s.0 < j.0

-- the test of one pair
unfoldable pub falls : Pair → Bool
falls p = ltb p.senior.0 p.junior.0

-- the test of a list of pairs
unfoldable pub all_fall : List Pair → Bool
all_fall [] = true
all_fall (p ∷ ps) = falls p && all_fall ps
