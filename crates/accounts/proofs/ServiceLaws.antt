-- Laws of the definitions in `Service`.
use Rattle.std.specs.Prelude.{◌≡◌, refl, List, ◌⊎◌, Bool, true, false, ◌&&◌, ◌||◌, ℕ, zero, suc, ◌+◌, ◌≤◌, ◌<◌, eqb, ltb}
use Rattle.std.proofs.Math.Path.{ap}
use Rattle.std.proofs.Common.{⊎_elim, zero-le, arith}
use Rattle.std.proofs.Math.Bool.{or-true, and-false}
use borrow.Author.Tests.{eqb-true, eqb-false, eq-eqb, ne_eqb, ltb-true, ltb-false, lt-ltb, le-ltb}
use Rattle.buffers.specs.Cases.{case}
use Rattle.accounts.specs.declared.Uid.{Uid}
use Rattle.accounts.specs.declared.Gid.{Gid}
use Rattle.accounts.specs.declared.Role.{Role}
use Rattle.accounts.specs.declared.Pair.{Pair}
use Rattle.accounts.specs.Groups.{same_gid, member, no_groups}
use Rattle.accounts.proofs.GroupsLaws.{member_none, member_with}
use Rattle.accounts.specs.Access.{same_uid, is_root}
use Rattle.accounts.specs.Dominance.{BoundedRole, same_role, dominates}
use Rattle.accounts.proofs.DominanceLaws.{same_role_is}
use Rattle.accounts.specs.Service.{service_uid, service_gid, all_services, service_groups, service}

-- a service account is not root
pub service_not_root : (ps : List Pair) (z : BoundedRole) → is_root (service ps z).uid ≡ false
unfolding is_root service service_uid
service_not_root ps z = ne_eqb (16 + z.role.0) 0 (omega arith)

-- its number is its role's
pub service_own : (ps : List Pair) (z : BoundedRole) → (service ps z).uid ≡ service_uid z.role
unfolding service
service_own ps z = refl

-- numbers from 16 on are equal as those from 0 on
same_offset : (r q : ℕ) → eqb (16 + r) (16 + q) ≡ eqb r q
same_offset r q = case (eqb r q)
    (λ e. rw (e, eq-eqb (16 + r) (16 + q) (omega (arith, eqb-true r q e))))
    (λ e. rw (e, ne_eqb (16 + r) (16 + q) (λ (i : 16 + r ≡ 16 + q). eqb-false r q e (omega arith))))

-- two roles have one service account if they are one role
pub same_service : (r q : Role) → same_uid (service_uid r) (service_uid q) ≡ same_role r q
unfolding same_uid service_uid same_role
same_service r q = same_offset r.0 q.0

-- and one account is one role's
pub service_role : (r q : Role) → service_uid r ≡ service_uid q → r ≡ q
unfolding service_uid
service_role r q e = same_role_is r q (unfold same_role in eq-eqb r.0 q.0 (omega (arith, ap (λ (u : Uid). u.0) e)))

-- the numbers of a role's account and group, and of the group of all service accounts
pub service_uid_is : (r : Role) → service_uid r ≡ record { 0 = 16 + r.0 }
unfolding service_uid
service_uid_is r = refl

pub service_gid_is : (r : Role) → service_gid r ≡ record { 0 = 16 + r.0 }
unfolding service_gid
service_gid_is r = refl

pub all_services_is : all_services ≡ record { 0 = 24 }
unfolding all_services
all_services_is = refl

-- what is a person's is no service account's
pub service_foreign : (r : Role) (v : Uid) → v.0 < 16 → same_uid (service_uid r) v ≡ false
unfolding same_uid service_uid
service_foreign r v h = ne_eqb (16 + r.0) v.0 (λ (e : 16 + r.0 ≡ v.0). omega arith)

-- one step of the groups: the group added if the test passes
member_step : (test : Role → Bool) (g : Gid) (k : ℕ) →
    member g (service_groups test (suc k)) ≡ (test (record { 0 = k }) && same_gid g (service_gid (record { 0 = k })) || member g (service_groups test k))
unfolding service_groups
member_step test g k = case (test (record { 0 = k }))
    (λ t. rw t (member_with g (service_gid (record { 0 = k })) (service_groups test k)))
    (λ t. rw t)

-- below k + 1 is k or below k
ltb_step : (v k : ℕ) → ltb v (suc k) ≡ (eqb v k || ltb v k)
ltb_step v k = case (eqb v k)
    (λ e. rw (e, lt-ltb v (suc k) (omega (arith, eqb-true v k e))))
    (λ e. case (ltb v k)
    (λ t. rw (e, t, lt-ltb v (suc k) (omega (arith, ltb-true v k t))))
    (λ t. rw (e, t, le-ltb v (suc k) (omega (arith, ltb-false v k t, eqb-false v k e)))))

-- of the service groups, those of the roles below k that pass the test are there
member_below : (test : Role → Bool) (v : Role) → v.0 < 8 → (k : ℕ) → member (service_gid v) (service_groups test k) ≡ (ltb v.0 k && test v)
unfolding service_groups service_gid same_gid all_services same_role
member_below test v h zero = rw (member_with (service_gid v) all_services no_groups, member_none (service_gid v), ne_eqb (16 + v.0) 24 (omega arith), le-ltb v.0 0 zero-le)
member_below test v h (suc k) = rw (member_step test (service_gid v) k, member_below test v h k, same_offset v.0 k, ltb_step v.0 k) (case (eqb v.0 k)
    (λ e. rw (e, ← same_role_is v (record { 0 = k }) e) (case (test v) (λ t. rw t) (λ t. rw (t, and-false))))
    (λ e. rw (e, and-false)))

-- it is in the service groups of the roles that its own dominates
pub member_service : (ps : List Pair) (z v : BoundedRole) → member (service_gid v.role) (service ps z).groups ≡ dominates ps z.role v.role
unfolding service
member_service ps z v = rw (member_below (dominates ps z.role) v.role (ltb-true v.role.0 8 v.bound) 8, v.bound)

-- group 24 stays among the groups
all_below : (test : Role → Bool) (k : ℕ) → member all_services (service_groups test k) ≡ true
unfolding service_groups all_services same_gid
all_below test zero = rw (member_with all_services all_services no_groups)
all_below test (suc k) = rw (member_step test all_services k, all_below test k, or-true)

-- and in the group of all service accounts
pub member_all : (ps : List Pair) (z : BoundedRole) → member all_services (service ps z).groups ≡ true
unfolding service
member_all ps z = all_below (dominates ps z.role) 8

-- no other group is among them
outside_below : (test : Role → Bool) (g : Gid) → (g.0 < 16) ⊎ (24 < g.0) → (k : ℕ) → k ≤ 8 → member g (service_groups test k) ≡ false
unfolding service_groups service_gid all_services same_gid
outside_below test g o zero h =
    rw (member_with g all_services no_groups, member_none g, ne_eqb g.0 24 (λ (e : g.0 ≡ 24). ⊎_elim (λ l. omega arith) (λ l. omega arith) o))
outside_below test g o (suc k) h = rw (
  member_step test g k,
  outside_below test g o k (omega arith),
  ne_eqb g.0 (16 + k) (λ (e : g.0 ≡ 16 + k). ⊎_elim (λ l. omega arith) (λ l. omega arith) o),
  and-false,
)

-- and in no other: none below 16, which are root's and persons', and none past 24
pub member_no_other : (ps : List Pair) (z : BoundedRole) (g : Gid) → (g.0 < 16) ⊎ (24 < g.0) → member g (service ps z).groups ≡ false
unfolding service
member_no_other ps z g o = outside_below (dominates ps z.role) g o 8 (omega arith)
