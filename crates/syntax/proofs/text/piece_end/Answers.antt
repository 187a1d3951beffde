-- `syntax::text::piece_end` meets its contract: the piece ends where the separator is first found, or with the text.
use Rattle.std.proofs.Common.{◌≡◌, ◌+◌, ℕ, suc, ◌<◌, ◌≤◌, List, refl, length, get_or, drop, arith, add-one, drop-cons, drop_of_length-le, eq-eqb, ne_eqb}
use Rattle.syntax.specs.Pieces.{piece_length}
use Rattle.syntax.proofs.text.piece_end.Goals as goal

at_separator : (b : ℕ) (s : List ℕ) (i : ℕ) → i < length s → get_or s i 0 ≡ b → piece_length b (drop i s) ≡ 0
unfolding piece_length
at_separator b s i l e = rw (drop-cons s i 0 l, eq-eqb (get_or s i 0) b e)

past_other : (b : ℕ) (s : List ℕ) (i : ℕ) → i < length s → (get_or s i 0 ≡ b → ⊥) → piece_length b (drop i s) ≡ suc (piece_length b (drop (i + 1) s))
unfolding piece_length
past_other b s i l e = rw (drop-cons s i 0 l, ne_eqb (get_or s i 0) b e, add-one i)

at_end : (b : ℕ) (s : List ℕ) (i : ℕ) → length s ≤ i → piece_length b (drop i s) ≡ 0
unfolding piece_length
at_end b s i l = rw (drop_of_length-le s l)

pub loop-i-init : goal.loop-i-init
loop-i-init c = refl

pub returns-then-s-i : goal.returns-then-s-i
returns-then-s-i c =
    let e = at_separator c.args.separator c.args.s.now c.loop-i.i (omega arith) c.if-s-i.true in
    (omega (arith, c.loop-i.invariant, e), omega arith)

pub loop-i-preserved : goal.loop-i-preserved
loop-i-preserved c =
    let e = past_other c.args.separator c.args.s.now c.loop-i.i (omega arith) c.if-s-i.false in
    omega (arith, c.loop-i.invariant, e)

pub returns : goal.returns
returns c =
    let e = at_end c.args.separator c.args.s.now c.loop-i.i (omega arith) in
    (omega (arith, c.loop-i.invariant, e), omega arith)
