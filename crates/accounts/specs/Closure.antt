-- Dominance as the code holds it: for each of the eight roles a row of bits, closed one pair after another.
--
-- `rows_of` are the rows of a list of pairs. `ClosureLaws` says that one pair more grows them so (`grown_rows_are`), and that a
-- row tells dominance (`row_dominates_is`) and the service account (`row_account_is`).
use Rattle.std.specs.Prelude.{List, [], ◌∷◌, map, Bool, false, cond, ℕ, zero, suc, ◌+◌, ◌*◌, ◌/◌, ◌%◌, ◌^◌, eqb, get_or, Some, None}
use Rattle.std.specs.Int.Bits.{bit_or}
use Rattle.accounts.specs.declared.Role.{Role}
use Rattle.accounts.specs.declared.Pair.{Pair}
use Rattle.accounts.specs.declared.Session.{Session}
use Rattle.accounts.specs.declared.Account.{Account}
use Rattle.accounts.specs.Dominance.{dominates}
use Rattle.accounts.specs.Service.{service_uid}

unfoldable pub has_role : ℕ → Role → Bool
has_role row r = eqb (row / 2 ^ r.0 % 2) 1

-- a row of the roles below k that pass a test
unfoldable pub row_of : (Role → Bool) → ℕ → ℕ
row_of test zero = 0
row_of test (suc k) = let rest = row_of test k in cond (test (record { 0 = k })) (2 ^ k + rest) rest

-- the rows of the roles from k on, as many as n
unfoldable pub rows_from : List Pair → ℕ → ℕ → List ℕ
rows_from ps k zero = []
rows_from ps k (suc n) = row_of (dominates ps (record { 0 = k })) 8 ∷ rows_from ps (suc k) n

unfoldable pub rows_of : List Pair → List ℕ
rows_of ps = rows_from ps 0 8

-- without pairs each role has its own bit alone
unfoldable pub own_rows : List ℕ
own_rows = 1 ∷ 2 ∷ 4 ∷ 8 ∷ 16 ∷ 32 ∷ 64 ∷ 128 ∷ []

unfoldable pub grown_row : Role → ℕ → ℕ → ℕ
grown_row senior add row = cond (has_role row senior) (bit_or row add) row

-- every row that has the senior takes the junior's
unfoldable pub grown_rows : Pair → List ℕ → List ℕ
grown_rows p rows = map (grown_row p.senior (get_or rows p.junior.0 0)) rows

unfoldable pub row_dominates : List ℕ → Role → Role → Bool
row_dominates rows s r = has_role (get_or rows s.0 0) r

-- group 24, and group 16 + r for each bit r of the row
unfoldable pub row_account : List ℕ → Role → Account
row_account rows z = record { uid = service_uid z; groups = record { 0 = 16777216 + 65536 * get_or rows z.0 0 } }

unfoldable pub session_dominates : Session → List ℕ → Role → Bool
session_dominates s rows r = elim s.0 [
  | None ↦ false
  | Some z ↦ row_dominates rows z r
]
