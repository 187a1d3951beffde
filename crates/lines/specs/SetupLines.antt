-- The lines of a setup text before `end`, each by its form.
use Rattle.std.specs.Prelude.{List, [], ◌∷◌, ℕ, leb, length}
use Rattle.std.proofs.Math.Option.{Option, none, some}
use Rattle.buffers.specs.Text.{Text}
use Rattle.accounts.specs.declared.Uid.{Uid}
use Rattle.accounts.specs.declared.Gid.{Gid}
use Rattle.accounts.specs.declared.Role.{Role}
use Rattle.syntax.specs.Pieces.{bytes, comma, pieces}
use Rattle.syntax.specs.Number.{between}
use Rattle.syntax.specs.Form.{◌>>=◌, ◌>>◌, check, Form, two_of, three_of, by_form}
use Rattle.syntax.specs.Field.{password}

unfoldable pub longest_line : ℕ
longest_line = 200

-- the lines before `end`, by their form
pub data LineOfSetup : Type 0 where
  p_line : Uid → Gid → LineOfSetup
  g_line : Uid → Gid → LineOfSetup
  r_line : Role → Role → LineOfSetup
  l_line : Uid → Role → Text → LineOfSetup

unfoldable pub person_uid : Text → Option Uid
person_uid t = do
  n ← between 1 15 t
  some (record { 0 = n })

unfoldable pub person_or_root : Text → Option Uid
person_or_root t = do
  n ← between 0 15 t
  some (record { 0 = n })

unfoldable pub person_gid : Text → Option Gid
person_gid t = do
  n ← between 1 15 t
  some (record { 0 = n })

unfoldable pub plain_role : Text → Option Role
plain_role t = do
  n ← between 0 7 t
  some (record { 0 = n })

unfoldable pub setup_form : Text → (List Text → Option LineOfSetup) → Form LineOfSetup
setup_form w read_arguments = record { word = w; arguments = read_arguments }

unfoldable pub setup_forms : List (Form LineOfSetup)
setup_forms =
    setup_form (bytes "p") (two_of person_uid person_gid p_line) ∷
    setup_form (bytes "g") (two_of person_uid person_gid g_line) ∷
    setup_form (bytes "r") (two_of plain_role plain_role r_line) ∷
    setup_form (bytes "l") (three_of person_or_root plain_role password l_line) ∷ []

unfoldable pub setup_line_of : List Text → Option LineOfSetup
setup_line_of [] = none
setup_line_of (w ∷ arguments) = by_form setup_forms w arguments

unfoldable pub setup_line : Text → Option LineOfSetup
setup_line t = do
  check (leb (length t) longest_line)
  setup_line_of (pieces comma t)
