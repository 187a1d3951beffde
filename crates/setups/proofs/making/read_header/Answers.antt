-- `setups::making::read_header` meets its contract: the lines that are left, after what the header holds, give what the whole text gives.
use Rattle.std.specs.Prelude.{Some}
use native.Mathlib.Omega.{arith}
use mathlib.Core.Path.{refl, ◌∙◌, ap}
use Rattle.syntax.specs.Pieces.{newline}
use Rattle.syntax.specs.Parts.{part}
use Rattle.setups.specs.Making.{header_made}
use Rattle.setups.specs.LineReadLaws.{begun_wide}
use Rattle.setups.specs.MakingLaws.{Line, going_first, stopped, going_on, line_wrong, text_accepted, text_behind}
use Rattle.setups.proofs.making.read_header.Goals as goal
use Rattle.setups.proofs.making.read_header.Goals.{After-read_line}

-- the line that was read
line : (c : After-read_line) → Line c.args.text.now c.loop-header.header c.loop-header.kind c.loop-header.at c.loop-header.number c.piece_end-end.result c.read_line.result c.read_line.new.header
unfolding newline part
line c = record {
  going = c.loop-header.invariant.0;
  ends = c.piece_end-end.ensures.0;
  within = omega (arith, c.piece_end-end.ensures.1, c.if-end-text.false);
  said = c.read_line.ensures;
}

pub loop-header-init : goal.loop-header-init
loop-header-init c = (going_first c.args.text.now c.args.header.now c.requires, refl)

pub overflow_add-number : goal.overflow_add-number
overflow_add-number c = omega arith

pub piece_end-end-requires : goal.piece_end-end-requires
piece_end-end-requires c = omega arith

pub refuse-requires : goal.refuse-requires
refuse-requires c = let l = c.loop-header in begun_wide l.header l.invariant.0.begun

pub returns-then-end-text : goal.returns-then-end-text
unfolding newline
returns-then-end-text c =
    let a = c.args in
    let l = c.loop-header in
    let e = c.piece_end-end in
    c.refuse.ensures
    ∙ ap header_made (stopped a.text.now l.header l.kind l.at l.number e.result l.invariant.0 e.ensures.0 c.if-end-text.true)

pub slice_bounds-read_line-count : goal.slice_bounds-read_line-count
slice_bounds-read_line-count c = omega arith

pub slice_bounds-read_line-start : goal.slice_bounds-read_line-start
slice_bounds-read_line-start c = omega arith

pub slice_bounds-read_line-end : goal.slice_bounds-read_line-end
slice_bounds-read_line-end c = omega arith

pub read_line-requires : goal.read_line-requires
read_line-requires c = let l = c.loop-header in record {
  begun = l.invariant.0.begun;
  kind_bound = l.invariant.0.kinds;
}

pub overflow_add-at : goal.overflow_add-at
overflow_add-at c = omega arith

pub loop-header-smaller : goal.loop-header-smaller
loop-header-smaller c = omega arith

pub loop-header-preserved : goal.loop-header-preserved
loop-header-preserved c = (going_on (line (goal.at.loop-header-preserved c).After-read_line) c.in-More.next (c.in-Some.is ∙ ap Some c.in-More.is), c.read_line.auto.header ∙ c.loop-header.invariant.1)

pub overflow_add-end : goal.overflow_add-end
overflow_add-end c = omega arith

pub returns-then-end-text-2 : goal.returns-then-end-text-2
returns-then-end-text-2 c = text_accepted (line (goal.at.returns-then-end-text-2 c).After-read_line) (c.in-Some.is ∙ ap Some c.in-End.is) c.if-end-text-2.true

pub overflow_add-number-in-End : goal.overflow_add-number-in-End
overflow_add-number-in-End c = omega arith

pub refuse-requires-in-End : goal.refuse-requires-in-End
refuse-requires-in-End c = let l = c.loop-header in c.read_line.auto.header ∙ begun_wide l.header l.invariant.0.begun

pub returns-in-End : goal.returns-in-End
returns-in-End c = c.refuse-in-End.ensures ∙ ap header_made (text_behind (line (goal.at.returns-in-End c).After-read_line) (c.in-Some.is ∙ ap Some c.in-End.is) c.if-end-text-2.false)

pub refuse-requires-in_default : goal.refuse-requires-in_default
refuse-requires-in_default c = let l = c.loop-header in c.read_line.auto.header ∙ begun_wide l.header l.invariant.0.begun

pub returns-in_default : goal.returns-in_default
returns-in_default c = c.refuse-in_default.ensures ∙ ap header_made (line_wrong (line (goal.at.returns-in_default c).After-read_line) c.in_default.is)
