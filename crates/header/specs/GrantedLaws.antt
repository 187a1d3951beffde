-- Whether a login is granted, by a header's bytes: one grant compared field by field, and the search through all of them.
use Rattle.std.specs.Prelude.{◌≡◌, List, Bool, true, false, ◌||◌, ℕ, suc, ◌+◌, ◌≤◌, ◌<◌, length, get_or, drop}
use Rattle.std.proofs.Math.Path.{ap}
use Rattle.std.proofs.Common.{◌∙◌, arith, add-one, drop_of_length-le, drop-cons}
use borrow.Author.Tests.{eq-eqb, ne_eqb}
use Rattle.buffers.specs.Text.{Text, same_text}
use Rattle.accounts.specs.declared.Uid.{Uid}
use Rattle.accounts.specs.declared.Role.{Role}
use Rattle.accounts.proofs.AccessLaws.{same_uid_is}
use Rattle.accounts.specs.Dominance.{BoundedRole}
use Rattle.accounts.proofs.DominanceLaws.{same_role_number}
use Rattle.setup.specs.Setup.{Grant, Setup}
use Rattle.setup.proofs.SetupLaws.{apart}
use Rattle.store.specs.HeaderLayout.{grants_offset}
use Rattle.store.specs.State.{Registry}
use Rattle.store.specs.Callers.{granted}
use Rattle.header.specs.HeaderBytes.{Heads, Headed, grant_in, grant_has}
use Rattle.header.specs.HeaderBytesLaws.{grants_counted, grant_stands}

-- ---- one grant

module _ (g : Grant) (uid : Uid) (role : Role) (password : Text) where
  pub uid_differs : (g.uid.0 ≡ uid.0 → ⊥) → false ≡ grant_has g uid role password
  unfolding grant_has
  uid_differs n = rw (same_uid_is g.uid uid, ne_eqb g.uid.0 uid.0 n)

  pub role_differs : g.uid.0 ≡ uid.0 → (g.role.0 ≡ role.0 → ⊥) → false ≡ grant_has g uid role password
  unfolding grant_has
  role_differs e n = rw (same_uid_is g.uid uid, same_role_number g.role role, eq-eqb g.uid.0 uid.0 e, ne_eqb g.role.0 role.0 n)

  pub password_decides : g.uid.0 ≡ uid.0 → g.role.0 ≡ role.0 → same_text g.password password ≡ grant_has g uid role password
  unfolding grant_has
  password_decides e f = rw (same_uid_is g.uid uid, same_role_number g.role role, eq-eqb g.uid.0 uid.0 e, eq-eqb g.role.0 role.0 f)

-- ---- all grants

-- a header has at most 32
pub few_granted : {b : List ℕ} → Headed b → get_or b grants_offset 0 ≤ 32
few_granted h = omega (arith, grants_counted h.2, (apart h.0 h.2.in_range).few_grants)

-- s is the bounded role of the number that the code has
module _ {b : List ℕ} {u : Setup} {z : Registry} (h : Heads b u z)
    (uid : Uid) (role : Role) (password : Text) (s : BoundedRole) (e : s.role ≡ role) where
  -- whether one of the grants from an index on has just these three
  abbrev granted_from : ℕ → Bool
  granted_from i = granted (drop i u.grants) uid s password

  -- whether the grant at an index has
  abbrev this_grants : ℕ → Bool
  this_grants i = grant_has (grant_in b i) uid role password

  -- the grant at the index, or one behind it
  one_of : (i : ℕ) → i < length u.grants → granted_from i ≡ (this_grants i || granted_from (suc i))
  unfolding granted grant_has
  one_of i l =
      let g = grant_in b i in
      let q : granted_from i ≡ (grant_has g uid s.role password || granted_from (suc i)) = rw (drop-cons u.grants i g l, grant_stands h i g l) in
      q ∙ ap (λ (r : Role). grant_has g uid r password || granted_from (suc i)) e

  pub granted_here : (i : ℕ) (r : Bool) → i < length u.grants → r ≡ this_grants i → r ≡ true → true ≡ granted_from i
  granted_here i r l f q = rw (one_of i l, ← f, q)

  pub not_granted_here : (i : ℕ) (r : Bool) → i < length u.grants → r ≡ this_grants i → r ≡ false → granted_from (i + 1) ≡ granted_from i
  not_granted_here i r l f q = rw (one_of i l, ← f, q, add-one i)

  pub not_granted : (i : ℕ) → length u.grants ≤ i → false ≡ granted_from i
  unfolding granted
  not_granted i l = rw (drop_of_length-le u.grants l)
