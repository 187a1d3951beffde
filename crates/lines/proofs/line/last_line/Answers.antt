-- `lines::line::last_line` meets its contract: the fields are the pieces from the place on, and their number tells who reads them.
use mathlib.Core.Path.{◌≡◌, refl, ap, ◌∙◌}
use mathlib.Core.List.{List, [], ◌∷◌}
use mathlib.Core.Option.{Option, some, map}
use Rattle.std.specs.Prelude.{Option as Found, Some, None}
use Prim.Native.Nat.{ℕ, ◌-◌, ◌≤◌, ◌<◌}
use native.Mathlib.Omega.{arith}
use borrow.Author.Tests.{leb-true, leb-false}
use lib.Dec.{leb}
use lib.ListN.{length, drop, length-take}
use Rattle.buffers.specs.Cases.{case}
use Rattle.buffers.specs.Text.{Text}
use Rattle.syntax.specs.Pieces.{comma, pieces}
use Rattle.line_fields.specs.declared.Fields.{Fields}
use Rattle.line_fields.specs.FieldsRead.{argument_texts, fields_read, FieldsInside}
use Rattle.line_fields.proofs.FieldsReadLaws.{few_pieces, counted_pieces, many_pieces, fields_inside}
use Rattle.lines.specs.declared.LineKind.{LineKind}
use Rattle.lines.specs.SetupLines.{LineOfSetup, setup_line_of, setup_line}
use Rattle.lines.specs.Line.{kind_form, line_form, line_told}
use Rattle.lines.specs.LineLaws.{told_wrong, long_line, by_fields, formless}
use Rattle.lines.proofs.line.last_line.Goals as goal
use Rattle.lines.proofs.line.last_line.Goals.{After-fields_at-f}

-- neither two arguments nor three are no line
wrong-count : (t : Text) (at : ℕ) (f : Fields) → at ≤ length t → f ≡ fields_read t at → length t - at ≤ 200 → (f.count ≡ 2 → ⊥) → (f.count ≡ 3 → ⊥)
    → line_told t None ≡ map some (setup_line (drop at t))
unfolding argument_texts
wrong-count t at f h e short two three = case (leb f.count 3)
    (λ l. few (leb-true f.count 3 l))
    (λ l. many (pieces comma (drop at t)) refl (many_pieces t at f h e (leb-false f.count 3 l)))
  where
    few : f.count ≤ 3 → line_told t None ≡ map some (setup_line (drop at t))
    few l = formless t at short (few_pieces t at f h e l) (λ i. two (omega (arith, length-take f.count (argument_texts t f)))) (λ i. three (omega (arith, length-take f.count (argument_texts t f))))

    many : (ps : List Text) → pieces comma (drop at t) ≡ ps → 4 < length ps → line_told t None ≡ map some (setup_line (drop at t))
    many [] i l = absurd (omega arith)
    many (w ∷ ts) i l = formless t at short i (λ j. omega arith) (λ j. omega arith)

-- a line is told by the form of its kind, and one of no kind has none
module _ (t : Text) (at : ℕ) {w : Text} {arguments : List Text} {k : Found LineKind} (short : length t - at ≤ 200) (cut : pieces comma (drop at t) ≡ w ∷ arguments)
    (form : (s : List Text) → setup_line_of (w ∷ s) ≡ line_form k s) where
  of_kind : {kind : LineKind} {x : Option (Option LineOfSetup)} → k ≡ Some kind → x ≡ map some (kind_form kind arguments) → x ≡ map some (setup_line (drop at t))
  unfolding line_form
  of_kind e h = by_fields t at short cut (form arguments ∙ ap (λ k. line_form k arguments) e) h

  of_no_kind : k ≡ None → line_told t None ≡ map some (setup_line (drop at t))
  unfolding line_form
  of_no_kind e = by_fields t at short cut (form arguments) (told_wrong t (ap (λ k. line_form k arguments) e))

-- the parts, where the fields have been read
inside : (c : After-fields_at-f) → FieldsInside c.fields_at-f.result c.args.text.now
inside c = fields_inside _ c.args.at c.fields_at-f.result c.requires c.fields_at-f.ensures

pub returns-then-text-at-gt200 : goal.returns-then-text-at-gt200
returns-then-text-at-gt200 c = long_line c.args.text.now c.args.at c.if-text-at-gt200.true

pub of-requires : goal.of-requires
of-requires c = (inside (goal.at.of-requires c).After-fields_at-f).word

pub returns-in_err-kind-in-2 : goal.returns-in_err-kind-in-2
unfolding argument_texts
returns-in_err-kind-in-2 c =
    let a = c.args in
    let t = a.text.now in
    let f = c.fields_at-f.result in
    rw c.from_residual.ensures (of_no_kind t a.at c.if-text-at-gt200.false (counted_pieces t a.at f c.requires c.fields_at-f.ensures 2 c.in-2.is (omega arith)) (rw c.of.ensures at c.kind_of.ensures) c.in_err-kind-in-2.was)

pub two_argument_line-requires : goal.two_argument_line-requires
two_argument_line-requires c = let i = inside (goal.at.two_argument_line-requires c).After-fields_at-f in record {
  inside = i.first;
  inside_2 = i.second;
}

pub returns-in_ok-kind-in-2 : goal.returns-in_ok-kind-in-2
unfolding argument_texts
returns-in_ok-kind-in-2 c =
    let a = c.args in
    let t = a.text.now in
    let f = c.fields_at-f.result in
    of_kind t a.at c.if-text-at-gt200.false (counted_pieces t a.at f c.requires c.fields_at-f.ensures 2 c.in-2.is (omega arith)) (rw c.of.ensures at c.kind_of.ensures) c.in_ok-kind-in-2.was c.two_argument_line.ensures

pub of-requires-in-3 : goal.of-requires-in-3
of-requires-in-3 c = (inside (goal.at.of-requires-in-3 c).After-fields_at-f).word

pub returns-in_err-kind-in-3 : goal.returns-in_err-kind-in-3
unfolding argument_texts
returns-in_err-kind-in-3 c =
    let a = c.args in
    let t = a.text.now in
    let f = c.fields_at-f.result in
    rw c.from_residual-in_err-kind-in-3.ensures (of_no_kind t a.at c.if-text-at-gt200.false (counted_pieces t a.at f c.requires c.fields_at-f.ensures 3 c.in-3.is (omega arith)) (rw c.of-in-3.ensures at c.kind_of-in-3.ensures) c.in_err-kind-in-3.was)

pub three_argument_line-requires : goal.three_argument_line-requires
three_argument_line-requires c = let i = inside (goal.at.three_argument_line-requires c).After-fields_at-f in record {
  inside = i.first;
  inside_2 = i.second;
  inside_3 = i.third;
}

pub returns-in_ok-kind-in-3 : goal.returns-in_ok-kind-in-3
unfolding argument_texts
returns-in_ok-kind-in-3 c =
    let a = c.args in
    let t = a.text.now in
    let f = c.fields_at-f.result in
    of_kind t a.at c.if-text-at-gt200.false (counted_pieces t a.at f c.requires c.fields_at-f.ensures 3 c.in-3.is (omega arith)) (rw c.of-in-3.ensures at c.kind_of-in-3.ensures) c.in_ok-kind-in-3.was c.three_argument_line.ensures

pub returns-in_default : goal.returns-in_default
returns-in_default c =
    let a = c.args in
    wrong-count a.text.now a.at c.fields_at-f.result c.requires c.fields_at-f.ensures c.if-text-at-gt200.false (λ e. grind arith) (λ e. grind arith)
