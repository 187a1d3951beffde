-- A text cut into pieces at a byte, and pieces joined by one.
use Rattle.std.specs.Prelude.{List, [], ◌∷◌, ◌++◌, cond, ℕ, suc, eqb}
use Prim.Native.Char.{code}
use Prim.Native.String.{String, [] as no_more, ◌∷◌ as ◌then◌}
use Rattle.buffers.specs.Text.{Text}

-- a text written in quotes
unfoldable pub bytes : String → Text
bytes no_more = []
bytes (◌then◌ c s) = code c ∷ bytes s

unfoldable pub comma : ℕ
comma = 44

unfoldable pub newline : ℕ
newline = 10

unfoldable pub prefix_first : ℕ → List Text → List Text
prefix_first b [] = (b ∷ []) ∷ []
prefix_first b (p ∷ ps) = (b ∷ p) ∷ ps

-- the pieces of a text between the separators: one more than there are separators
unfoldable pub pieces : ℕ → Text → List Text
pieces separator [] = [] ∷ []
pieces separator (b ∷ t) = let rest = pieces separator t in cond (eqb b separator) ([] ∷ rest) (prefix_first b rest)

-- the pieces with the separator between each two
unfoldable pub joined : ℕ → List Text → Text
joined separator [] = []
joined separator (p ∷ []) = p
joined separator (p ∷ (q ∷ ps)) = p ++ (separator ∷ joined separator (q ∷ ps))

-- how many bytes come before the first separator, or all
unfoldable pub piece_length : ℕ → Text → ℕ
piece_length separator [] = 0
piece_length separator (b ∷ t) = cond (eqb b separator) 0 (suc (piece_length separator t))
