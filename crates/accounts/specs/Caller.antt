-- Who calls: an account with its primary group.
use Rattle.std.specs.Prelude.{Bool, ◌&&◌, ltb}
use Rattle.accounts.specs.declared.Caller.{Caller}
use Rattle.accounts.specs.Groups.{no_groups, with_group}

unfoldable pub root_caller : Caller
root_caller = record {
  account = record { uid = record { 0 = 0 }; groups = with_group (record { 0 = 0 }) no_groups };
  primary = record { 0 = 0 };
}

-- a caller whose account and primary group are in range
unfoldable pub is_caller : Caller → Bool
is_caller c = ltb c.account.uid.0 24 && ltb c.primary.0 25
