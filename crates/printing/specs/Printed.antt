-- A text written in front of a buffer, to be printed.
use Rattle.std.specs.Prelude.{◌≡◌, List, ◌++◌, ℕ, length, drop}
use Rattle.buffers.specs.Text.{Text}

-- a text in the place of a buffer's first bytes; the others stay
abbrev pub in_front : Text → List ℕ → List ℕ
in_front x b = x ++ drop (length x) b

-- n is the text's length, and the bytes b have become c
pub record Printed (x : Text) (b c : List ℕ) (n : ℕ) : Type 0 where
  pub long : n ≡ length x
  pub holds : c ≡ in_front x b
