-- `whole_paths::kinds::is_deep` meets its contract: the kind and the form of the text decide.
use mathlib.Core.Path.{sym, ap, ◌∙◌}
use mathlib.Core.Bool.{not}
use Rattle.whole_paths.specs.WholeText.{is_deep}
use Rattle.whole_paths.proofs.kinds.is_deep.Goals as goal

pub returns-then-is_path_kind : goal.returns-then-is_path_kind
unfolding is_deep
returns-then-is_path_kind c = rw (sym c.is_path_kind.ensures ∙ c.if-is_path_kind.true) (ap not c.is_path.ensures)

pub returns : goal.returns
unfolding is_deep
returns c = rw (sym c.is_path_kind.ensures ∙ c.if-is_path_kind.false)
