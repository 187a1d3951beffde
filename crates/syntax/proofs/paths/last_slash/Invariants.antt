use Rattle.std.proofs.Common.{◌≡◌}
use Rattle.syntax.specs.Parts.{slash_before, last_slash}
use Rattle.syntax.proofs.paths.last_slash.Given as goal

-- the last `/` of what is left is that of the whole
abbrev pub invariant-loop-i : goal.invariant-loop-i
invariant-loop-i l = slash_before l.path l.i ≡ last_slash l.path
