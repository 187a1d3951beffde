-- `nodes::paths::is_within` meets its contract: a text of one byte has every other within it, any other those that go on behind it.
use Rattle.std.proofs.Common.{arith, sym, ◌∙◌, ap, length}
use Rattle.std.proofs.Math.ListN.{length-take}
use Rattle.std.proofs.lemmas.Bool.{eq-eqb, ne_eqb}
use Rattle.buffers.specs.TextLaws.{same_text_sound}
use Rattle.syntax.specs.Parts.{text_goes_on_from}
use Rattle.nodes.specs.NodeChecks.{text_within}
use Rattle.nodes.proofs.paths.is_within.Goals as goal

pub bounds-text-n : goal.bounds-text-n
bounds-text-n c =
    let s = c.args.above.now in
    let u = c.args.text.now in
    omega (arith, ap length (same_text_sound _ s (sym c.begins.ensures ∙ c.if-begins.true)), length-take (length s) u, c.if-text-n.false)

pub returns-then-n-eq1 : goal.returns-then-n-eq1
unfolding text_within
returns-then-n-eq1 c = rw (eq-eqb (length c.args.above.now) 1 c.if-n-eq1.true)

pub returns-then-text-n : goal.returns-then-text-n
unfolding text_within text_goes_on_from
returns-then-text-n c =
    rw (ne_eqb (length c.args.above.now) 1 c.if-n-eq1.false, sym c.begins.ensures ∙ c.if-begins.true, eq-eqb (length c.args.text.now) (length c.args.above.now) c.if-text-n.true)

pub returns-else-text-n : goal.returns-else-text-n
unfolding text_within text_goes_on_from
returns-else-text-n c =
    rw (ne_eqb (length c.args.above.now) 1 c.if-n-eq1.false, sym c.begins.ensures ∙ c.if-begins.true, ne_eqb (length c.args.text.now) (length c.args.above.now) c.if-text-n.false)

pub returns-else-begins : goal.returns-else-begins
unfolding text_within text_goes_on_from
returns-else-begins c =
    rw (ne_eqb (length c.args.above.now) 1 c.if-n-eq1.false, sym c.begins.ensures ∙ c.if-begins.false) c.if-begins.false
