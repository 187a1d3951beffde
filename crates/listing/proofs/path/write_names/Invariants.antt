use mathlib.Core.Path.{◌≡◌}
use mathlib.Core.List.{List}
use Prim.Native.Nat.{ℕ, ◌≤◌, ◌*◌}
use lib.ListN.{length}
use Rattle.buffers.specs.Over.{Wrote}
use Rattle.syntax.specs.Path.{names_text}
use Rattle.listing.specs.RowListing.{path_seen, names_told}
use Rattle.listing.proofs.path.write_names.Given as goal

pub record Going (tree last : List ℕ) (depth : ℕ) (answer₀ answer : List ℕ) (end k : ℕ) : Type 0 where
  pub le : k ≤ depth
  pub len : length answer ≡ length answer₀
  pub far : end ≤ 9 * k
  pub done : Wrote (names_text (path_seen (names_told tree last) k)) answer₀ 0 answer end

abbrev pub invariant-loop-k : goal.invariant-loop-k
invariant-loop-k l = Going l.tree l.last l.depth l.initial.answer l.answer l.end l.k
