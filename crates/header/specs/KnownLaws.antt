-- Who calls, by a header's bytes: root, nobody, or the person whose slot it is.
use Rattle.std.specs.Prelude.{◌≡◌, List, ℕ, ◌*◌, ◌<◌, get_or}
use Rattle.std.proofs.Math.Option.{none, some}
use Rattle.std.proofs.Common.{arith}
use borrow.Author.Tests.{eq-eqb, ne_eqb}
use Rattle.accounts.specs.declared.Caller.{Caller}
use Rattle.accounts.specs.declared.Gid.{Gid}
use Rattle.accounts.specs.declared.Groups.{Groups}
use Rattle.accounts.specs.declared.Uid.{Uid}
use Rattle.accounts.proofs.AccessLaws.{is_root_is}
use Rattle.accounts.specs.Groups.{no_groups, with_group}
use Rattle.accounts.proofs.CallerLaws.{root_caller_is}
use Rattle.setup.specs.Setup.{Person, Setup, person}
use Rattle.tree.specs.declared.Cause.TheVariants.{UnknownCaller}
use Rattle.tree.specs.Result.{done}
use Rattle.tree.proofs.ResultLaws.{present_of, present_none, done_bind, refused_bind}
use Rattle.store.specs.HeaderLayout.{slot_width}
use Rattle.store.specs.State.{Registry}
use Rattle.store.proofs.PersonLaws.{person_in_range}
use Rattle.store.specs.Callers.{person_caller, known_caller, caller}
use Rattle.std.specs.Prelude.{Some, None}
use Rattle.header.specs.HeaderBytes.{Heads, known}
use Rattle.header.specs.HeaderBytesLaws.{filled_slot}

-- a caller of an account number, with groups and a primary group
abbrev calls_as : Uid → Groups → Gid → Caller
calls_as v groups primary = record { account = record { uid = v; groups = groups }; primary = primary }

module _ (u : Setup) (v : Uid) where
  -- root is in group 0 alone
  pub root_known : (g : Groups) → v.0 ≡ 0 → g ≡ with_group (record { 0 = 0 }) no_groups → known (Some (calls_as v g (record { 0 = 0 }))) ≡ caller u v
  unfolding known caller
  root_known g e q = rw (is_root_is v, eq-eqb v.0 0 e, root_caller_is) (λ i. done (calls_as (record { 0 = e i }) (q i) (record { 0 = 0 })))

  -- who is no person is nobody
  pub nobody_known : (v.0 ≡ 0 → ⊥) → person u v ≡ none → known None ≡ caller u v
  unfolding known caller known_caller
  nobody_known n e = rw (is_root_is v, ne_eqb v.0 0 n, e, present_none {A = Person} UnknownCaller, refused_bind UnknownCaller (λ w. done (person_caller v w)))

  -- a person is in the primary and the further groups
  pub person_known : (p : Person) (g : Groups) → (v.0 ≡ 0 → ⊥) → person u v ≡ some p → g ≡ with_group p.primary p.further
      → known (Some (calls_as v g p.primary)) ≡ caller u v
  unfolding known caller known_caller person_caller
  person_known p g n e q =
      rw (is_root_is v, ne_eqb v.0 0 n, e, present_of p UnknownCaller, done_bind p (λ w. done (person_caller v w)))
      (λ i. done (calls_as v (q i) p.primary))

-- a primary group is one that a set of groups has room for
pub primary_low : {b : List ℕ} {u : Setup} {z : Registry} → Heads b u z → (v : Uid) → v.0 < 16 → (get_or b (slot_width * v.0) 0 ≡ 0 → ⊥)
    → get_or b (slot_width * v.0) 0 < 32
primary_low {u = u} h v l n = omega (arith, (person_in_range u h.in_range v _ (filled_slot h v l n)).1)
