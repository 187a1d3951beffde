-- The bytes of the whole store: a header with setup, sessions and working directories, then the tree.
--
-- | from | bytes | what |
-- |---:|---:|---|
-- | 0 | 48 | the accounts 0 to 15, 3 each: primary group, or 0 where the account is no person's, and further groups in 2 |
-- | 48 | 16 | the accounts' sessions: role + 1, or 0 for none |
-- | 64 | 57 | how many role pairs, then 28 of 2: senior, junior |
-- | 121 | 321 | how many grants, then 32 of 10: uid, role, password in 8 |
-- | 442 | 864 | the accounts' working directories, 54 each: a path's text |
-- | 1306 | 6116 | zero |
-- | 7422 | 58114 | the tree |
--
-- `decode` answers the state whose encoding the bytes are, if it is well-formed; it is the only one (`encode_decode`).
use Rattle.std.specs.Prelude.{List, [], ◌∷◌, ◌++◌, Bool, ◌&&◌, cond, ℕ, zero, suc, eqb, get_or, drop, replicate}
use Rattle.std.proofs.Math.Option.{Option, none, some}
use Rattle.buffers.specs.Text.{same_text}
use Rattle.buffers.specs.Fields.{two_bytes, number_at, padded, text_at, all_bytes, all_from, table_bytes, table_from}
use Rattle.accounts.specs.Dominance.{BoundedRole}
use Rattle.accounts.specs.PairBytes.{pair_bytes, pair_of}
use Rattle.syntax.specs.Form.{◌>>=◌, ◌>>◌, check}
use Rattle.syntax.specs.Field.{bounded}
use Rattle.syntax.specs.Path.{Path, root, path, path_text}
use Rattle.setup.specs.Setup.{Person, Grant, Setup, accounts, most_pairs, most_grants, is_setup}
use Rattle.tree.specs.Encoding.{encode_tree, decode_tree}
use Rattle.store.specs.HeaderLayout.{slot_width, sessions_offset, pairs_offset, pair_width, grants_offset, grant_width, password_offset, password_width, directories_offset, directory_width, spare_width, header_width}
use Rattle.store.specs.State.{Sessions, Registry, State, well_formed}

unfoldable pub store_width : ℕ
store_width = 65536

unfoldable pub slot_bytes : Option Person → List ℕ
slot_bytes none = 0 ∷ 0 ∷ 0 ∷ []
slot_bytes (some p) = p.primary.0 ∷ two_bytes p.further.0

unfoldable pub slot_of : List ℕ → Option Person
slot_of b = cond (eqb (get_or b 0 0) 0) none (some (record { primary = record { 0 = get_or b 0 0 }; further = record { 0 = number_at 1 b } }))

unfoldable pub session_byte : Option BoundedRole → ℕ
session_byte none = 0
session_byte (some z) = suc z.role.0

unfoldable pub session_of : ℕ → Option BoundedRole
session_of zero = none
session_of (suc n) = bounded n

unfoldable pub grant_bytes : Grant → List ℕ
grant_bytes g = g.uid.0 ∷ g.role.0 ∷ padded password_width g.password

unfoldable pub grant_of : List ℕ → Grant
grant_of b = record { uid = record { 0 = get_or b 0 0 }; role = record { 0 = get_or b 1 0 }; password = text_at password_offset password_width b }

unfoldable pub directory_bytes : Path → List ℕ
directory_bytes p = padded directory_width (path_text p)

-- what is no path is read as `/`, whose bytes are others
unfoldable pub path_or_root : Option Path → Path
path_or_root none = root
path_or_root (some p) = p

unfoldable pub directory_from : List ℕ → Path
directory_from b = path_or_root (path (text_at 0 directory_width b))

-- setup and sessions, before other bytes
unfoldable pub front_bytes : Setup → Sessions → List ℕ → List ℕ
front_bytes u sessions behind =
    all_bytes slot_bytes u.persons
    ++ (all_bytes (λ z. session_byte z ∷ []) sessions
    ++ (table_bytes pair_width most_pairs pair_bytes u.pairs
    ++ (table_bytes grant_width most_grants grant_bytes u.grants
    ++ behind)))

unfoldable pub header_bytes : Setup → Registry → List ℕ
header_bytes u r = front_bytes u r.sessions (all_bytes directory_bytes r.directories ++ replicate spare_width 0)

unfoldable pub setup_of : List ℕ → Setup
setup_of b = record {
  persons = all_from slot_width slot_of accounts b;
  pairs = table_from pair_width pair_of (drop pairs_offset b);
  grants = table_from grant_width grant_of (drop grants_offset b);
}

unfoldable pub sessions_of : List ℕ → Sessions
sessions_of b = all_from 1 (λ s. session_of (get_or s 0 0)) accounts (drop sessions_offset b)

unfoldable pub directories_of : List ℕ → List Path
directories_of b = all_from directory_width directory_from accounts (drop directories_offset b)

unfoldable pub registry_of : List ℕ → Registry
registry_of b = record { sessions = sessions_of b; directories = directories_of b }

-- whether bytes are those of a header: of the setup and the registry that are read off them, the setup in range
unfoldable pub is_header : List ℕ → Bool
is_header b = is_setup (setup_of b) && same_text (header_bytes (setup_of b) (registry_of b)) b

unfoldable pub encode : State → List ℕ
encode s = header_bytes s.setup s.store.registry ++ encode_tree s.store.tree

unfoldable pub decode : List ℕ → Option State
decode b = do
  tree ← decode_tree (drop header_width b)
  let s : State = record { setup = setup_of b; store = record { tree = tree; registry = registry_of b } }
  check (well_formed s && same_text (encode s) b)
  some s
