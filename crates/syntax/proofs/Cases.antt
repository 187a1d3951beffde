-- Contents computed at their edges: how many bytes, and which.
use Rattle.std.specs.Prelude.{◌≡◌, refl, [], ◌∷◌, map, true, false, replicate}
use Rattle.syntax.specs.Field.{is_content}
use Rattle.syntax.specs.Compute.{compute}

-- "The edge cases are 80 and 81."
eighty_bytes : is_content (replicate 80 97) ≡ true
unfolding compute
eighty_bytes = refl

eighty_one_bytes : is_content (replicate 81 97) ≡ false
unfolding compute
eighty_one_bytes = refl

-- none at all, and the bytes 31, 32, comma, 126, 127
no_bytes : is_content [] ≡ true
unfolding compute
no_bytes = refl

edge_bytes : map (λ b. is_content (b ∷ [])) (31 ∷ 32 ∷ 44 ∷ 126 ∷ 127 ∷ []) ≡ false ∷ true ∷ false ∷ true ∷ false ∷ []
unfolding compute
edge_bytes = refl
