-- For computed examples only: whoever unfolds `compute` unfolds every definition of this crate that a run goes through.
use Rattle.accounts.specs.Groups.{same_gid, member, no_groups, with_group}
use Rattle.accounts.specs.Access.{same_uid, is_root, grants, judging_digit, may}
use Rattle.accounts.specs.Caller.{root_caller}
use Rattle.accounts.specs.Dominance.{same_role, juniors, any_role, chain, dominates, falls}
use Rattle.accounts.specs.Service.{service_uid, service_gid, all_services, service_groups, service}

unfoldable pub compute : Unit {0}
unfolding same_gid member no_groups with_group same_uid is_root grants judging_digit may root_caller same_role juniors any_role chain dominates falls service_uid service_gid all_services service_groups service
compute = tt
