-- Laws of replies: a text leaves the answer buffer its length.
use Rattle.std.specs.Prelude.{◌≡◌, refl, List, ◌++◌, ℕ, ◌≤◌, length, drop}
use Rattle.std.proofs.Common.{◌∙◌, arith, length-append, length-drop}
use Rattle.std.proofs.Math.Option.{none, some}
use Rattle.buffers.specs.Text.{Text}
use Rattle.shell.specs.Replies.{Reply, ok, refusal, written}

-- a text that fits leaves the answer buffer's length
fits_length : (t answer : Text) → length t ≤ length answer → length (t ++ drop (length t) answer) ≡ length answer
fits_length t answer h = length-append t (drop (length t) answer) ∙ omega (arith, length-drop (length t) answer)

-- the text of a reply fits the answer buffer
abbrev pub Room : Reply → List ℕ → Type 0
Room r answer = (t : Text) → r ≡ ok (some t) → length t ≤ length answer

-- which then keeps its length
pub written_length : (r : Reply) (answer : List ℕ) → Room r answer → length (written r answer) ≡ length answer
unfolding written
written_length (ok none) answer h = refl
written_length (ok (some t)) answer h = fits_length t answer (h t refl)
written_length (refusal why) answer h = refl
