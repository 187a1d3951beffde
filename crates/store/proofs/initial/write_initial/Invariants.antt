use mathlib.Core.Path.{◌≡◌}
use mathlib.Core.List.{List, map}
use Prim.Native.Nat.{ℕ, ◌≤◌}
use Rattle.tree.specs.Encoding.{encode_tree}
use Rattle.tree.specs.TreeBytes.{Wide}
use Rattle.store.specs.declared.Person.{Person as Slot}
use Rattle.store.specs.Initial.{homes, topped}
use Rattle.store.specs.InitialRows.{slot_value}
use Rattle.store.proofs.InitialRowsLaws.{with_persons}
use Rattle.store.proofs.initial.write_initial.Given as goal

-- before the turn of account k
pub record Turned (persons : List Slot) (b : List ℕ) (k : ℕ) : Type 0 where
  pub le : k ≤ 16
  pub wide : Wide b
  pub encoded : b ≡ encode_tree (topped (homes (with_persons (map slot_value persons)) k))

abbrev pub invariant-loop-k : goal.invariant-loop-k
invariant-loop-k l = Turned l.persons l.tree l.k
