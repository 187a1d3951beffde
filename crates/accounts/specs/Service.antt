-- The service account of a role: 16 + r, in group 24 and in group 16 + q for every role q that r dominates.
use Rattle.std.specs.Prelude.{List, Bool, cond, ℕ, zero, suc, ◌+◌}
use Rattle.accounts.specs.declared.Uid.{Uid}
use Rattle.accounts.specs.declared.Gid.{Gid}
use Rattle.accounts.specs.declared.Role.{Role}
use Rattle.accounts.specs.declared.Groups.{Groups}
use Rattle.accounts.specs.declared.Pair.{Pair}
use Rattle.accounts.specs.Groups.{no_groups, with_group}
use Rattle.accounts.specs.declared.Account.{Account}
use Rattle.accounts.specs.Dominance.{BoundedRole, dominates}

unfoldable pub service_uid : Role → Uid
service_uid r = record { 0 = 16 + r.0 }

unfoldable pub service_gid : Role → Gid
service_gid r = record { 0 = 16 + r.0 }

-- the group of all service accounts
unfoldable pub all_services : Gid
all_services = record { 0 = 24 }

-- group 24, and the service groups of the roles below k that pass the test
unfoldable pub service_groups : (Role → Bool) → ℕ → Groups
service_groups test zero = with_group all_services no_groups
service_groups test (suc k) =
    let rest = service_groups test k in
    cond (test (record { 0 = k })) (with_group (service_gid (record { 0 = k })) rest) rest

unfoldable pub service : List Pair → BoundedRole → Account
service ps z = record { uid = service_uid z.role; groups = service_groups (dominates ps z.role) 8 }
