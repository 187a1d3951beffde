-- `whole_paths::kinds::any_found` meets its contract: the arguments are tested one after another, and the first that passes decides.
use Rattle.std.proofs.Common.{sym, ap, ◌∙◌}
use Rattle.whole_paths.specs.WholeText.{any_argument}
use Rattle.whole_paths.proofs.kinds.any_found.Goals as goal

pub returns-then-test : goal.returns-then-test
unfolding any_argument
returns-then-test g c passes same =
    let e = sym (same _ _ _ c.test.ensures ∙ ap (passes _) c.of.ensures) ∙ c.if-test.true in
    rw e

pub returns-then-test-2 : goal.returns-then-test-2
unfolding any_argument
returns-then-test-2 g c passes same =
    let d = sym (same _ _ _ c.test.ensures ∙ ap (passes _) c.of.ensures) ∙ c.if-test.false in
    let e = sym (same _ _ _ c.test-2.ensures ∙ ap (passes _) c.of-2.ensures) ∙ c.if-test-2.true in
    rw (d, e)

pub returns : goal.returns
unfolding any_argument
returns g c passes same =
    let d = sym (same _ _ _ c.test.ensures ∙ ap (passes _) c.of.ensures) ∙ c.if-test.false in
    let e = sym (same _ _ _ c.test-2.ensures ∙ ap (passes _) c.of-2.ensures) ∙ c.if-test-2.false in
    rw (d, e) (same _ _ _ c.test-3.ensures ∙ ap (passes _) c.of-3.ensures)
