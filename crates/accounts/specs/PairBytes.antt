-- A role pair as two bytes: senior, junior.
use Rattle.std.specs.Prelude.{List, [], ◌∷◌, ℕ, get_or}
use Rattle.accounts.specs.declared.Pair.{Pair}

unfoldable pub pair_bytes : Pair → List ℕ
pair_bytes p = p.senior.0 ∷ p.junior.0 ∷ []

unfoldable pub pair_of : List ℕ → Pair
pair_of b = record { senior = record { 0 = get_or b 0 0 }; junior = record { 0 = get_or b 1 0 } }

-- 0 over 0, in place of a pair that is not there
abbrev pub no_pair : Pair
no_pair = record { senior = record { 0 = 0 }; junior = record { 0 = 0 } }
