-- What an exported call hands over: the number of document 01's table, and a value or none.
use Rattle.std.specs.Prelude.{◌≡◌, List, [], ◌∷◌, ℕ}
use Rattle.shell.specs.Replies.{Told}

-- the largest number of 64 bits, where there is no value
unfoldable pub no_value : ℕ
no_value = 18446744073709551615

unfoldable pub value_told : List ℕ → ℕ
value_told [] = no_value
value_told (v ∷ vs) = v

-- the number and the value are those that are told
pub record HandedOver (t : Told) (number value : ℕ) : Type 0 where
  pub is_number : number ≡ t.number
  pub is_value : value ≡ value_told t.values
