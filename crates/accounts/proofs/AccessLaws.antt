-- Laws of the definitions in `Access`.
use Rattle.std.specs.Prelude.{◌≡◌, refl, true, false, ℕ, ◌/◌, ◌%◌, eqb}
use Rattle.std.proofs.Common.{eqb-true}
use Rattle.accounts.specs.declared.Uid.{Uid}
use Rattle.accounts.specs.declared.Gid.{Gid}
use Rattle.accounts.specs.declared.Account.{Account}
use Rattle.accounts.specs.declared.Right.{Right}
use Rattle.accounts.specs.declared.Right.TheVariants.{R, W, X}
use Rattle.accounts.specs.Groups.{member, no_groups, with_group}
use Rattle.accounts.specs.Access.{same_uid, is_root, grants, judging_digit, may}

-- the test case by case: root passes
pub may_root : (a : Account) (t : Right) (o : Uid) (g : Gid) (m : ℕ) → is_root a.uid ≡ true → may a t o g m ≡ true
unfolding may
may_root a t o g m z = rw z

-- who is not root is judged by one digit alone: the owner by the owner's
pub may_owner : (a : Account) (t : Right) (o : Uid) (g : Gid) (m : ℕ) → is_root a.uid ≡ false → same_uid a.uid o ≡ true → may a t o g m ≡ grants (m / 64 % 8) t
unfolding may judging_digit
may_owner a t o g m z e = rw (z, e)

-- who is not the owner and is in the group, by the group's
pub may_group : (a : Account) (t : Right) (o : Uid) (g : Gid) (m : ℕ) → is_root a.uid ≡ false → same_uid a.uid o ≡ false → member g a.groups ≡ true →
    may a t o g m ≡ grants (m / 8 % 8) t
unfolding may judging_digit
may_group a t o g m z e i = rw (z, e, i)

-- and everybody else by the others'
pub may_other : (a : Account) (t : Right) (o : Uid) (g : Gid) (m : ℕ) → is_root a.uid ≡ false → same_uid a.uid o ≡ false → member g a.groups ≡ false →
    may a t o g m ≡ grants (m % 8) t
unfolding may judging_digit
may_other a t o g m z e i = rw (z, e, i)

-- digit 0 gives no right
pub grants_none : (t : Right) → grants 0 t ≡ false
unfolding grants
grants_none R = refl
grants_none W = refl
grants_none X = refl

-- digit 7 every right
pub grants_7 : (t : Right) → grants 7 t ≡ true
unfolding grants
grants_7 R = refl
grants_7 W = refl
grants_7 X = refl

-- digit 5 r and x
pub grants_5 : (grants 5 R ≡ true) × (grants 5 W ≡ false) × (grants 5 X ≡ true)
unfolding grants
grants_5 = (refl, refl, refl)

-- digit 4 r
pub grants_4 : (grants 4 R ≡ true) × (grants 4 W ≡ false) × (grants 4 X ≡ false)
unfolding grants
grants_4 = (refl, refl, refl)

-- accounts are the same by their numbers
pub same_uid_is : (u v : Uid) → same_uid u v ≡ eqb u.0 v.0
unfolding same_uid
same_uid_is u v = refl

-- root is account 0
pub is_root_is : (u : Uid) → is_root u ≡ eqb u.0 0
unfolding is_root
is_root_is u = refl

pub root_is : (u : Uid) → is_root u ≡ true → u ≡ record { 0 = 0 }
unfolding is_root
root_is u r = λ i. record { 0 = eqb-true u.0 0 r i }

-- who is account 0 is root
pub same_as_root : (u : Uid) → same_uid u (record { 0 = 0 }) ≡ is_root u
unfolding same_uid is_root
same_as_root u = refl

-- mode 0040: the owner is judged by the owner's digit alone, though in the group
pub owner_alone : may (record { uid = record { 0 = 1 }; groups = with_group (record { 0 = 1 }) no_groups }) R (record { 0 = 1 }) (record { 0 = 1 }) 32 ≡ false
unfolding may is_root grants judging_digit same_uid
owner_alone = refl
