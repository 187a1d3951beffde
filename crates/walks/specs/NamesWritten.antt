-- Names written over an answer, parted by commas.
use Rattle.std.specs.Prelude.{◌≡◌, List, [], ◌∷◌, ◌++◌, ℕ, suc, ◌+◌, ◌*◌, ◌≤◌, length, drop}
use Rattle.buffers.specs.Text.{Text}
use Rattle.syntax.specs.Pieces.{comma, joined}
use Rattle.tree.specs.Layout.{most_rows, name_width}

-- as many bytes as the names of all rows take at most, each with a comma
abbrev pub all_names_width : ℕ
all_names_width = most_rows * suc name_width

-- where a name would stand behind those written, with a comma between
unfoldable pub next_place : List Text → ℕ
next_place [] = 0
next_place (n ∷ ns) = suc (length (joined comma (n ∷ ns)))

-- b is a with names written over its first bytes, and the next name goes to that place
pub record NamesWritten (a : List ℕ) (ns : List Text) (b : List ℕ) (place : ℕ) : Type 0 where
  pub holds : b ≡ joined comma ns ++ drop (length (joined comma ns)) a
  pub next : place ≡ next_place ns

-- names written behind any others
abbrev pub AddsNames : List Text → List ℕ → ℕ → List ℕ → ℕ → Type 0
AddsNames ms b place c next = (a : List ℕ) → (ns : List Text) → NamesWritten a ns b place → NamesWritten a (ns ++ ms) c next

-- one name or none
abbrev pub WritesOne : List Text → List ℕ → ℕ → List ℕ → ℕ → Type 0
WritesOne ms b place c next = AddsNames ms b place c next × (next ≤ place + suc name_width)

-- b is a with a text in front, and r tells how many bytes it takes
abbrev pub Answers : Text → List ℕ → ℕ → List ℕ → Type 0
Answers t a r b = (r ≡ length t) × (b ≡ t ++ drop (length t) a)
