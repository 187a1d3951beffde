use Rattle.std.proofs.Common.{◌≡◌, ◌≤◌, length, drop}
use Rattle.syntax.specs.Pieces.{pieces}
use Rattle.syntax.specs.Path.{some_names}
use Rattle.syntax.specs.Form.{is_some}
use Rattle.syntax.proofs.PathPartsLaws.{names_left}
use Rattle.syntax.proofs.paths.are_names.Given as goal

-- whether what is left are names, after those that have been read, is whether all are
abbrev pub invariant-loop-count : goal.invariant-loop-count
invariant-loop-count l = record {
  le : l.at ≤ length l.s;
  goes : names_left l._count (pieces 47 (drop l.at l.s)) ≡ is_some (some_names (pieces 47 l.s));
}
