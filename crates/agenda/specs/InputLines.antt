-- What the next line of the program's input is.
use Rattle.std.specs.Prelude.{Bool, cond, ℕ, ◌+◌, ltb, length, drop}
use Rattle.buffers.specs.Text.{Text}
use Rattle.syntax.specs.Pieces.{newline, piece_length}
use Rattle.agenda.specs.declared.NextLine.{NextLine}
use Rattle.agenda.specs.declared.NextLine.TheVariants.{Line, Last, More, Nothing}

-- the next line of a text from a place on: up to its byte 10; without one all that is left, if there is something and the input has ended
unfoldable pub next_line : Text → ℕ → Bool → NextLine
next_line t at ended =
    let end = at + piece_length newline (drop at t) in
    cond (ltb end (length t)) (Line end) (cond ended (cond (ltb at (length t)) Last Nothing) More)
