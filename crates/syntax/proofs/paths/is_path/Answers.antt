-- `syntax::paths::is_path` meets its contract: a text that begins with `/` is a path where nothing or names stand behind it.
use Rattle.std.proofs.Common.{◌-◌, length, drop, sym, ◌∙◌, arith, length-drop, take_all}
use Rattle.syntax.proofs.PathPartsLaws.{path_empty, path_begins, path_top, path_is_names}
use Rattle.syntax.proofs.paths.is_path.Goals as goal

pub returns-in-47 : goal.returns-in-47
returns-in-47 c = sym (path_top c.args.s.now (omega arith) (omega arith))

pub returns-in-47-2 : goal.returns-in-47-2
returns-in-47-2 c =
    let s = c.args.s.now in
    rw (take_all (length s - 1) (drop 1 s) (omega (arith, length-drop 1 s))) at c.are_names.ensures ∙ sym (path_is_names s (omega arith) (omega arith))

pub returns-in_default : goal.returns-in_default
returns-in_default c = sym (path_empty c.args.s.now (omega arith))

pub returns-in_default-2 : goal.returns-in_default-2
returns-in_default-2 c = sym (path_begins c.args.s.now (omega arith) (λ e. omega arith))

pub returns-in_default-3 : goal.returns-in_default-3
returns-in_default-3 c = sym (path_begins c.args.s.now (omega arith) (λ e. omega arith))
