-- Sets of groups, held as the bits of a number.
--
-- Here: `member`, `no_groups`, `with_group`. A reader needs `member` alone; `member_none` and `member_with` say what the
-- other two mean by it, and every proof above goes by these two.
use Rattle.std.specs.Prelude.{Bool, ◌/◌, ◌%◌, ◌^◌, eqb}
use Rattle.std.specs.Int.Bits.{bit_or}
use Rattle.accounts.specs.declared.Gid.{Gid}
use Rattle.accounts.specs.declared.Groups.{Groups}

unfoldable pub same_gid : Gid → Gid → Bool
same_gid g h = eqb g.0 h.0

unfoldable pub member : Gid → Groups → Bool
member g s = eqb (s.0 / 2 ^ g.0 % 2) 1

unfoldable pub no_groups : Groups
no_groups = record { 0 = 0 }

unfoldable pub with_group : Gid → Groups → Groups
with_group g s = record { 0 = bit_or s.0 (2 ^ g.0) }
