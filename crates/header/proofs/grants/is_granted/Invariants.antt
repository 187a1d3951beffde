use mathlib.Core.Path.{◌≡◌}
use mathlib.Core.List.{List}
use Prim.Native.Nat.{ℕ, ◌≤◌}
use lib.ListN.{get_or, drop}
use Rattle.accounts.specs.declared.Uid.{Uid}
use Rattle.accounts.specs.declared.Role.{Role}
use Rattle.accounts.specs.Dominance.{BoundedRole}
use Rattle.store.specs.HeaderLayout.{grants_offset}
use Rattle.store.specs.Callers.{granted}
use Rattle.header.specs.HeaderBytes.{Whose}
use Rattle.header.proofs.grants.is_granted.Given as goal

-- before the grant at an index
pub record Going (b : List ℕ) (uid : Uid) (role : Role) (password : List ℕ) (i : ℕ) : Type 0 where
  pub le : i ≤ get_or b grants_offset 0
  pub goes : Whose b (λ u z. (s : BoundedRole) → s.role ≡ role → granted (drop i u.grants) uid s password ≡ granted u.grants uid s password)

abbrev pub invariant-loop-i : goal.invariant-loop-i
invariant-loop-i l = Going l.header l.uid l.role l.password l.i
