-- `walks::below::add_name` meets its contract: the first name is written as it is, another behind a comma.
use mathlib.Core.Path.{◌∙◌}
use native.Mathlib.Omega.{arith}
use Prim.Native.Nat.{◌-◌}
use lib.ListN.{set, length-set}
use Rattle.buffers.specs.OverLaws.{over_paste}
use Rattle.walks.specs.NamesWrittenLaws.{named_first, named_more}
use Rattle.walks.proofs.below.add_name.Goals as goal

pub returns-then-place-eq0 : goal.returns-then-place-eq0
returns-then-place-eq0 c =
    let w = c.write in
    let g = c.args in
    (λ a ns v. named_first a g.answer.now w.new.b g.name.now g.place ns v (omega arith) (w.ensures ∙ over_paste g.answer.now g.name.now 0), omega arith)

pub shape_of-answer : goal.shape_of-answer
shape_of-answer c = c.write-2.auto.b ∙ simp length-set

pub returns : goal.returns
returns c =
    let w = c.write-2 in
    let g = c.args in
    (λ a ns v. named_more a g.answer.now w.new.b g.name.now g.place ns v (λ e. omega arith) (omega arith) (w.ensures ∙ over_paste (set g.answer.now (g.place - 1) 44) g.name.now g.place), omega arith)
