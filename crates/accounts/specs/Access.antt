-- The access test of one node's owner, group and mode, in document 002's order.
use Rattle.std.specs.Prelude.{Bool, ◌||◌, cond, ℕ, ◌/◌, ◌%◌, eqb}
use Rattle.accounts.specs.declared.Uid.{Uid}
use Rattle.accounts.specs.declared.Gid.{Gid}
use Rattle.accounts.specs.declared.Account.{Account}
use Rattle.accounts.specs.declared.Right.{Right}
use Rattle.accounts.specs.declared.Right.TheVariants.{R, W, X}
use Rattle.accounts.specs.Groups.{member}

unfoldable pub same_uid : Uid → Uid → Bool
same_uid u v = eqb u.0 v.0

unfoldable pub is_root : Uid → Bool
is_root u = eqb u.0 0

-- whether an octal digit of a mode has the right's bit: r is 4, w is 2, x is 1
unfoldable pub grants : ℕ → Right → Bool
grants digit R = eqb (digit / 4 % 2) 1
grants digit W = eqb (digit / 2 % 2) 1
grants digit X = eqb (digit % 2) 1

-- the digit that judges the account: the owner's alone, else for a member of the group the group's alone, else the others'
unfoldable pub judging_digit : Account → Uid → Gid → ℕ → ℕ
judging_digit a owner group mode =
    cond (same_uid a.uid owner) (mode / 64 % 8) (cond (member group a.groups) (mode / 8 % 8) (mode % 8))

-- root passes every test
unfoldable pub may : Account → Right → Uid → Gid → ℕ → Bool
may a right owner group mode = is_root a.uid || grants (judging_digit a owner group mode) right
