-- `syntax::paths::is_entry_path` meets its contract: a text that is shorter, or of which one of the first bytes is not that of `/rep/`,
-- is no entry path; any other is one where it is a path, and so where names stand behind its first `/`.
use Rattle.std.proofs.Common.{◌-◌, length, drop, sym, ◌∙◌, arith, length-drop, take_all}
use Rattle.syntax.specs.Pieces.{bytes}
use Rattle.syntax.proofs.PathPartsLaws.{path_is_names, entry_long, entry_by_bytes, entry_other_byte}
use Rattle.syntax.proofs.paths.is_entry_path.Goals as goal

pub returns-in-47 : goal.returns-in-47
returns-in-47 c =
    let s = c.args.s.now in
    rw (take_all (length s - 1) (drop 1 s) (omega (arith, length-drop 1 s))) at c.are_names.ensures
    ∙ sym (path_is_names s (omega arith) (omega arith))
    ∙ sym (entry_by_bytes s (omega arith) (omega arith) (omega arith) (omega arith) (omega arith) (omega arith))

pub returns-in_default : goal.returns-in_default
returns-in_default c = sym (entry_long c.args.s.now (omega arith))

pub returns-in_default-2 : goal.returns-in_default-2
unfolding bytes
returns-in_default-2 c = sym (entry_other_byte c.args.s.now 4 (omega arith) (λ e. omega arith))

pub returns-in_default-3 : goal.returns-in_default-3
unfolding bytes
returns-in_default-3 c = sym (entry_other_byte c.args.s.now 3 (omega arith) (λ e. omega arith))

pub returns-in_default-4 : goal.returns-in_default-4
unfolding bytes
returns-in_default-4 c = sym (entry_other_byte c.args.s.now 2 (omega arith) (λ e. omega arith))

pub returns-in_default-5 : goal.returns-in_default-5
unfolding bytes
returns-in_default-5 c = sym (entry_other_byte c.args.s.now 1 (omega arith) (λ e. omega arith))

pub returns-in_default-6 : goal.returns-in_default-6
unfolding bytes
returns-in_default-6 c = sym (entry_other_byte c.args.s.now 0 (omega arith) (λ e. omega arith))
