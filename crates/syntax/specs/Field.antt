-- The readers of a command line's fields.
use Rattle.std.specs.Prelude.{◌≡◌, refl, Bool, true, false, ◌&&◌, not, ℕ, eqb, leb, ltb, length}
use Rattle.std.proofs.Math.Option.{Option, none, some}
use Rattle.buffers.specs.Text.{Text, every}
use Rattle.accounts.specs.declared.Uid.{Uid}
use Rattle.accounts.specs.declared.Gid.{Gid}
use Rattle.accounts.specs.Dominance.{BoundedRole}
use Rattle.syntax.specs.Number.{decimal, between, mode, set_gid}
use Rattle.syntax.specs.Form.{◌>>=◌, ◌>>◌, check}
use Rattle.syntax.specs.Path.{is_name}

unfoldable pub uid : Text → Option Uid
uid t = do
  n ← between 0 23 t
  some (record { 0 = n })

unfoldable pub gid : Text → Option Gid
gid t = do
  n ← between 0 24 t
  some (record { 0 = n })

-- a number as a role, where it is 0 to 7
unfoldable pub bounded_by : (n : ℕ) (small : Bool) → ltb n 8 ≡ small → Option BoundedRole
bounded_by n true e = some (record { role = record { 0 = n }; bound = e })
bounded_by n false e = none

unfoldable pub bounded : ℕ → Option BoundedRole
bounded n = bounded_by n (ltb n 8) refl

unfoldable pub role : Text → Option BoundedRole
role t = do
  n ← decimal t
  bounded n

-- the mode of a new file begins with 0
unfoldable pub plain_mode : Text → Option ℕ
plain_mode t = do
  m ← mode t
  check (not (set_gid m))
  some m

unfoldable pub password : Text → Option Text
password t = do
  check (is_name t)
  some t

-- content is 0 to 80 bytes of 32 to 126 without comma
abbrev pub content_limit : ℕ
content_limit = 80

unfoldable pub content_byte : ℕ → Bool
content_byte b = (leb 32 b && leb b 126) && not (eqb b 44)

unfoldable pub is_content : Text → Bool
is_content t = every content_byte t && leb (length t) content_limit

unfoldable pub content : Text → Option Text
content t = do
  check (is_content t)
  some t
