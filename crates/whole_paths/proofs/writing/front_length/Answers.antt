-- `whole_paths::writing::front_length` meets its contract: its test is that of the definition.
use borrow.Author.Tests.{eq-eqb, ne_eqb}
use Rattle.whole_paths.specs.WholeText.{front_length}
use Rattle.whole_paths.proofs.writing.front_length.Goals as goal

pub returns-then-directory-eq1 : goal.returns-then-directory-eq1
unfolding front_length
returns-then-directory-eq1 c = rw (eq-eqb _ _ c.if-directory-eq1.true)

pub returns : goal.returns
unfolding front_length
returns c = rw (ne_eqb _ _ c.if-directory-eq1.false)
