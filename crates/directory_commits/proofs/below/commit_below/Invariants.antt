use mathlib.Core.Path.{◌≡◌}
use Prim.Native.Nat.{◌-◌}
use Rattle.accounts.specs.declared.Caller.{Caller}
use Rattle.directory_commits.specs.Commits.{DirectoryRow}
use Rattle.directory_commits.specs.BelowLaws.{Going}
use Rattle.directory_commits.proofs.below.commit_below.Given as goal

-- for every directory that the row may be, of the caller whose account the person's is
abbrev pub invariant-loop-at : goal.invariant-loop-at
invariant-loop-at l = (c : Caller) → l.person ≡ c.account → (x : DirectoryRow l.initial.store c l.account l.row) → Going x l.store l.end l.at l.count

abbrev pub decreases-loop-at : goal.decreases-loop-at
decreases-loop-at l = l.end - l.at
