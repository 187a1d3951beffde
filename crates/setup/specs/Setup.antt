-- The setup text: persons, their further groups, role pairs, login grants, `end`.
--
-- `setup` answers the setup, or the number of the first wrong line, from 1.
use Rattle.std.specs.Prelude.{List, [], ◌∷◌, ◌++◌, Bool, true, false, ◌&&◌, ◌||◌, not, cond, ℕ, suc, ◌%◌, eqb, leb, ltb, length, get_or, set, replicate}
use Rattle.std.proofs.Math.Option.{Option, none, some}
use Rattle.buffers.specs.Text.{Text, same_text, every}
use Rattle.accounts.specs.declared.Uid.{Uid}
use Rattle.accounts.specs.declared.Gid.{Gid}
use Rattle.accounts.specs.declared.Role.{Role}
use Rattle.accounts.specs.declared.Groups.{Groups}
use Rattle.accounts.specs.declared.Pair.{Pair}
use Rattle.accounts.specs.Groups.{no_groups, with_group}
use Rattle.accounts.specs.Access.{is_root}
use Rattle.accounts.specs.Dominance.{falls}
use Rattle.syntax.specs.Pieces.{bytes, newline, pieces}
use Rattle.syntax.specs.Form.{◌>>=◌, ◌>>◌, check, is_some}
use Rattle.syntax.specs.Path.{is_name}
use Rattle.lines.specs.SetupLines.{LineOfSetup, p_line, g_line, r_line, l_line, setup_line}

-- a person's primary group and further groups
pub record Person : Type 0 where
  pub primary : Gid
  pub further : Groups

pub record Grant : Type 0 where
  pub uid : Uid
  pub role : Role
  pub password : Text

-- the persons by account number, 0 to 15, of which 0 is none; pairs and grants as their lines stand
pub record Setup : Type 0 where
  pub persons : List (Option Person)
  pub pairs : List Pair
  pub grants : List Grant

unfoldable pub accounts : ℕ
accounts = 16

unfoldable pub most_pairs : ℕ
most_pairs = 28

unfoldable pub most_grants : ℕ
most_grants = 32

unfoldable pub person : Setup → Uid → Option Person
person s u = get_or s.persons u.0 none

-- what has been read, and the kind of the last line: kinds come in the order p, g, r, l, here 0 to 3
pub record Reading : Type 0 where
  pub kind : ℕ
  pub so_far : Setup

unfoldable pub with_person : Uid → Person → Setup → Setup
with_person u p s = record { persons = set s.persons u.0 (some p); pairs = s.pairs; grants = s.grants }

unfoldable pub with_pair : Pair → Setup → Setup
with_pair p s = record { persons = s.persons; pairs = s.pairs ++ (p ∷ []); grants = s.grants }

unfoldable pub with_grant : Grant → Setup → Setup
with_grant g s = record { persons = s.persons; pairs = s.pairs; grants = s.grants ++ (g ∷ []) }

-- a further group of a person
unfoldable pub joining : Gid → Person → Person
joining g p = record { primary = p.primary; further = with_group g p.further }

-- one line after what has been read
unfoldable pub accept : LineOfSetup → Reading → Option Reading
accept (p_line u g) d = do
  check (leb d.kind 0)
  check (not (is_some (person d.so_far u)))
  some (record { kind = 0; so_far = with_person u (record { primary = g; further = no_groups }) d.so_far })
accept (g_line u g) d = do
  check (leb d.kind 1)
  p ← person d.so_far u
  some (record { kind = 1; so_far = with_person u (joining g p) d.so_far })
accept (r_line senior junior) d = do
  check (leb d.kind 2)
  check (falls (record { senior = senior; junior = junior }))
  check (ltb (length d.so_far.pairs) most_pairs)
  some (record { kind = 2; so_far = with_pair (record { senior = senior; junior = junior }) d.so_far })
accept (l_line u r w) d = do
  check (leb d.kind 3)
  check (is_root u || is_some (person d.so_far u))
  check (ltb (length d.so_far.grants) most_grants)
  some (record { kind = 3; so_far = with_grant (record { uid = u; role = r; password = w }) d.so_far })

unfoldable pub no_setup : Setup
no_setup = record { persons = replicate accounts none; pairs = []; grants = [] }

pub data SetupAnswer : Type 0 where
  accepted : Setup → SetupAnswer
  wrong_line : ℕ → SetupAnswer

-- after `end` the text stops: nothing stands after its byte 10
unfoldable pub stops : List Text → Bool
stops [] = true
stops ([] ∷ []) = true
stops ([] ∷ (t ∷ ts)) = false
stops ((b ∷ s) ∷ ts) = false

-- a line that fits leads on to the rest of the text
unfoldable pub continue : Option Reading → ℕ → (Reading → SetupAnswer) → SetupAnswer
continue none n rest = wrong_line n
continue (some d) n rest = rest d

-- Lines from number n on. The last piece of a text is what follows its last byte 10: a line without byte 10, or where `end`
-- is missing nothing; both are wrong at that number.
unfoldable pub read_lines : List Text → ℕ → Reading → SetupAnswer
read_lines [] n d = wrong_line n
read_lines (t ∷ []) n d = wrong_line n
read_lines (t ∷ (u ∷ us)) n d =
    cond (same_text t (bytes "end"))
    (cond (stops (u ∷ us)) (accepted d.so_far) (wrong_line (suc n)))
    (continue (setup_line t >>= λ l. accept l d) n (read_lines (u ∷ us) (suc n)))

unfoldable pub setup : Text → SetupAnswer
setup t = read_lines (pieces newline t) 1 (record { kind = 0; so_far = no_setup })

-- what an accepted setup has: every value in range
unfoldable pub is_person : Person → Bool
is_person p = (leb 1 p.primary.0 && leb p.primary.0 15) && (ltb p.further.0 65536 && eqb (p.further.0 % 2) 0)

unfoldable pub is_slot : Option Person → Bool
is_slot none = true
is_slot (some p) = is_person p

unfoldable pub is_pair : Pair → Bool
is_pair p = falls p && ltb p.junior.0 8

unfoldable pub is_grant : Setup → Grant → Bool
is_grant s g = (is_root g.uid || is_some (person s g.uid)) && (ltb g.role.0 8 && is_name g.password)

unfoldable pub is_setup : Setup → Bool
is_setup s =
    (eqb (length s.persons) accounts && (not (is_some (get_or s.persons 0 none)) && every is_slot s.persons))
    && ((leb (length s.pairs) most_pairs && every is_pair s.pairs)
    && (leb (length s.grants) most_grants && every (is_grant s) s.grants))
