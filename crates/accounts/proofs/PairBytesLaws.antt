-- Laws of the definitions in `PairBytes`.
use Rattle.std.specs.Prelude.{◌≡◌, refl, [], ◌∷◌, ℕ, length}
use Rattle.accounts.specs.declared.Pair.{Pair}
use Rattle.accounts.specs.PairBytes.{pair_bytes, pair_of}

-- two bytes, which are read as the pair
pub pair_bytes_are : (p : Pair) → pair_bytes p ≡ p.senior.0 ∷ p.junior.0 ∷ []
unfolding pair_bytes
pair_bytes_are p = refl

pub pair_of_two : (s j : ℕ) → pair_of (s ∷ j ∷ []) ≡ record { senior = record { 0 = s }; junior = record { 0 = j } }
unfolding pair_of
pair_of_two s j = refl

pub length_pair : (p : Pair) → length (pair_bytes p) ≡ 2
unfolding pair_bytes
length_pair p = refl

pub pair_back : (p : Pair) → pair_of (pair_bytes p) ≡ p
unfolding pair_bytes pair_of
pair_back p = refl
