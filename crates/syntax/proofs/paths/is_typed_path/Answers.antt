-- `syntax::paths::is_typed_path` meets its contract: what begins with `/` has to be a path, and anything else names.
use Rattle.std.proofs.Common.{sym, ◌∙◌, arith}
use Rattle.syntax.proofs.PathPartsLaws.{typed_empty, typed_whole, typed_short}
use Rattle.syntax.proofs.paths.is_typed_path.Goals as goal

pub returns-in-empty : goal.returns-in-empty
returns-in-empty c = sym (typed_empty c.args.s.now (omega arith))

pub returns-in-47 : goal.returns-in-47
returns-in-47 c = c.is_path.ensures ∙ sym (typed_whole c.args.s.now (omega arith) (omega arith))

pub returns-in_default : goal.returns-in_default
returns-in_default c = c.are_names.ensures ∙ sym (typed_short c.args.s.now (omega arith) (λ e. omega arith))
