-- The byte of a session and the code's session are told from each other.
use Rattle.std.specs.Prelude.{◌≡◌, refl, ℕ, ◌+◌, ◌-◌, ◌<◌}
use Rattle.std.proofs.Math.Option.{Option, none, some}
use Rattle.std.proofs.Common.{arith, ap, add-one, ltb-true, lt-ltb}
use Rattle.buffers.specs.Cases.{contra}
use Rattle.accounts.specs.declared.Role.{Role}
use Rattle.accounts.specs.declared.Session.{Session}
use Rattle.accounts.specs.Session.{nobody, as_role}
use Rattle.accounts.specs.Dominance.{BoundedRole}
use Rattle.store.specs.StoreBytes.{session_byte}
use Rattle.header.specs.HeaderBytes.{session_held, BoundedSession}

-- ---- from the byte

-- 0 is no session's
pub zero_holds : (n : ℕ) (o : Option BoundedRole) → n ≡ session_byte o → n ≡ 0 → nobody ≡ session_held o
unfolding session_byte session_held
zero_holds n none e q = refl
zero_holds n (some z) e q = let x : ⊥ = omega arith in absurd x

-- any other is one more than the role
pub role_holds : (n : ℕ) (o : Option BoundedRole) → n ≡ session_byte o → (n ≡ 0 → ⊥) → as_role (record { 0 = n - 1 }) ≡ session_held o
unfolding session_byte session_held
role_holds n none e q = absurd (q e)
role_holds n (some z) e q = let r : n - 1 ≡ z.role.0 = omega arith in λ i. as_role (record { 0 = r i })

-- ---- from the session

pub nobody_byte : (o : Option BoundedRole) → nobody ≡ session_held o → 0 ≡ session_byte o
unfolding session_byte session_held
nobody_byte none e = refl
nobody_byte (some z) e = let h = ap (λ (s : Session). s.0) e in contra refl (cc)

pub role_byte : (r : Role) (o : Option BoundedRole) → as_role r ≡ session_held o → r.0 + 1 ≡ session_byte o
unfolding session_byte session_held
role_byte r none e = let h = ap (λ (s : Session). s.0) e in contra refl (cc)
role_byte r (some z) e = let h = ap (λ (s : Session). s.0) e in let q : r ≡ z.role = cc in rw (q, add-one)

-- a session's role is one of 0 to 7
pub role_bounded : (r : Role) → BoundedSession (as_role r) → r.0 < 8
role_bounded r (none, e) = unfold session_held in let h = ap (λ (s : Session). s.0) e in contra refl (cc)
role_bounded r (some z, e) = let q : r ≡ z.role = unfold session_held in let h = ap (λ (s : Session). s.0) e in cc in rw q (ltb-true z.role.0 8 z.bound)

-- ---- the sessions of the commands

-- none, and a role of 0 to 7
pub nobody_is : nobody ≡ session_held none
unfolding session_held
nobody_is = refl

pub role_is : (r : Role) (z : BoundedRole) → z.role ≡ r → as_role r ≡ session_held (some z)
unfolding session_held
role_is r z e = rw e

-- and so every role of 0 to 7 is one's
pub role_session : (r : Role) → r.0 < 8 → BoundedSession (as_role r)
role_session r h = let z : BoundedRole = record { role = r; bound = lt-ltb r.0 8 h } in (some z, role_is r z refl)
