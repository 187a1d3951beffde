-- `whole_paths::kinds::any_short` meets its contract: the test is for a short path.
use Rattle.whole_paths.specs.WholeText.{is_short, any_short}
use Rattle.whole_paths.proofs.kinds.any_short.Goals as goal

pub returns : goal.returns
unfolding any_short
returns c = c.any_found.ensures is_short (λ k x r h. h.1)
