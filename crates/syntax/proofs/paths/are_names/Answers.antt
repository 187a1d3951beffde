-- `syntax::paths::are_names` meets its contract: whether what is left are names, after those that have been read, is whether all are.
use Rattle.std.proofs.Common.{ℕ, drop, sym, ap, ◌∙◌, arith}
use Rattle.syntax.specs.Pieces.{pieces}
use Rattle.syntax.specs.Parts.{part}
use Rattle.syntax.proofs.PathPartsLaws.{names_left, names_full, names_stop_from, names_last_from, names_next_from, names_are}
use Rattle.syntax.proofs.paths.are_names.Goals as goal

pub loop-count-init : goal.loop-count-init
loop-count-init c = record { le = omega arith; goes = sym (names_are c.args.s.now) }

pub returns-then-not-is_name : goal.returns-then-not-is_name
unfolding part
returns-then-not-is_name c =
    let l = c.loop-count in
    let p = c.piece_end-end in
    let n = sym c.is_name.ensures ∙ c.if-not-is_name.true in
    sym (names_stop_from c.args.s.now l.at p.result l._count (omega arith) p.ensures.0 n) ∙ l.invariant.goes

pub returns-then-end-s : goal.returns-then-end-s
unfolding part
returns-then-end-s c =
    let l = c.loop-count in
    let p = c.piece_end-end in
    let n = sym c.is_name.ensures ∙ c.if-not-is_name.false in
    sym (names_last_from c.args.s.now l.at p.result l._count (omega arith) p.ensures.0 c.if-end-s.true n (omega arith)) ∙ l.invariant.goes

pub loop-count-preserved : goal.loop-count-preserved
unfolding part
loop-count-preserved c =
    let l = c.loop-count in
    let p = c.piece_end-end in
    let n = sym c.is_name.ensures ∙ c.if-not-is_name.false in
    let next = names_next_from c.args.s.now l.at p.result l._count (omega arith) p.ensures.0 (omega arith) n in
    record { le = omega arith; goes = next ∙ l.invariant.goes }

pub returns : goal.returns
returns c =
    let l = c.loop-count in
    let s = c.args.s.now in
    sym (ap (λ (k : ℕ). names_left k (pieces 47 (drop l.at s))) (omega arith) ∙ names_full (drop l.at s)) ∙ l.invariant.goes
