-- `whole_paths::kinds::is_short` meets its contract: the kind and the first byte decide.
use mathlib.Core.Path.{sym, ap, ◌∙◌}
use mathlib.Core.Bool.{not}
use Rattle.whole_paths.specs.WholeText.{is_short}
use Rattle.whole_paths.proofs.kinds.is_short.Goals as goal

pub returns-then-is_path_kind : goal.returns-then-is_path_kind
unfolding is_short
returns-then-is_path_kind c = rw (sym c.is_path_kind.ensures ∙ c.if-is_path_kind.true) (ap not c.begins_with_slash.ensures)

pub returns : goal.returns
unfolding is_short
returns c = rw (sym c.is_path_kind.ensures ∙ c.if-is_path_kind.false)
