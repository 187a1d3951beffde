-- `agenda::input::next_line` meets its contract: one law of the next line for each return.
use mathlib.Core.Path.{refl}
use Prim.Native.Nat.{◌+◌}
use native.Mathlib.Omega.{arith}
use lib.ListN.{drop}
use Rattle.syntax.specs.Pieces.{newline, piece_length}
use Rattle.agenda.proofs.InputLinesLaws.{line_ends, line_is_last, line_is_none, line_goes_on}
use Rattle.agenda.proofs.input.next_line.Goals as goal

pub piece_end-end-requires : goal.piece_end-end-requires
piece_end-end-requires c = omega arith

pub returns-then-end-text : goal.returns-then-end-text
unfolding newline
returns-then-end-text c =
    let a = c.args in
    let p = c.piece_end-end in
    line_ends a.text.now a.at p.result a.ended p.ensures.0 c.if-end-text.true

pub returns-then-ended : goal.returns-then-ended
unfolding newline
returns-then-ended c =
    let a = c.args in
    let p = c.piece_end-end in
    line_is_last a.text.now a.at p.result a.ended p.ensures.0 (omega arith) (omega arith) c.if-ended.true

pub returns-else-ended : goal.returns-else-ended
unfolding newline
returns-else-ended c =
    let a = c.args in
    let p = c.piece_end-end in
    line_goes_on a.text.now a.at p.result a.ended p.ensures.0 (omega arith) c.if-ended.false

pub returns-then-ended-2 : goal.returns-then-ended-2
unfolding newline
returns-then-ended-2 c =
    let a = c.args in
    let t = a.text.now in
    line_is_none t a.at (a.at + piece_length newline (drop a.at t)) a.ended refl (omega arith) (omega arith) c.if-ended-2.true

pub returns-else-ended-2 : goal.returns-else-ended-2
unfolding newline
returns-else-ended-2 c =
    let a = c.args in
    let t = a.text.now in
    line_goes_on t a.at (a.at + piece_length newline (drop a.at t)) a.ended refl (omega arith) c.if-ended-2.false
