use Rattle.std.proofs.Common.{◌≡◌, ◌+◌, drop}
use Rattle.syntax.specs.Pieces.{piece_length}
use Rattle.syntax.proofs.text.piece_end.Given as goal

-- the piece ends where what is left of it from the index on does
abbrev pub invariant-loop-i : goal.invariant-loop-i
invariant-loop-i l = l.at + piece_length l.separator (drop l.at l.s) ≡ l.i + piece_length l.separator (drop l.i l.s)
