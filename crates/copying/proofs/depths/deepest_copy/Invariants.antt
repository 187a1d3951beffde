use Rattle.std.proofs.Common.{◌≡◌, ◌-◌}
use Rattle.copying.specs.CopyRows.{deepest_from}
use Rattle.copying.proofs.depths.deepest_copy.Given as goal

abbrev pub invariant-loop-i : goal.invariant-loop-i
invariant-loop-i l = deepest_from l.out l.most l.i (l.n - l.i) ≡ deepest_from l.out 0 0 l.n
