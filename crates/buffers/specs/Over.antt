-- A text written over a buffer from a place on.
use Rattle.std.specs.Prelude.{◌≡◌, List, ◌++◌, ℕ, ◌+◌, length, take, drop}
use Rattle.buffers.specs.Text.{Text}

-- the buffer with the text written over it, every other byte as before
unfoldable pub over : ℕ → Text → List ℕ → List ℕ
over at t b = take at b ++ (t ++ drop (at + length t) b)

-- c is b with the text written over it from a place on, and r tells where it ends
pub record Wrote (t : Text) (b : List ℕ) (at : ℕ) (c : List ℕ) (r : ℕ) : Type 0 where
  pub ends : r ≡ at + length t
  pub holds : c ≡ over at t b
