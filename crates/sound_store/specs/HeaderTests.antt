-- What the code tests: a header's bytes part by part, and a part's values one by one.
use Rattle.std.specs.Prelude.{List, Bool, true, ◌&&◌, ◌||◌, not, cond, ℕ, zero, suc, ◌+◌, ◌-◌, ◌*◌, ◌%◌, eqb, leb, ltb, get_or}
use Rattle.buffers.specs.Fields.{text_at, zeros_at, is_filled}
use Rattle.syntax.specs.Form.{is_some}
use Rattle.syntax.specs.Path.{is_name, path}
use Rattle.store.specs.HeaderLayout.{slot_width, sessions_offset, pairs_offset, grants_offset, password_offset, password_width, directories_offset, directory_width, spare_offset, spare_width, pair_start, grant_start, directory_start}

-- whether so many indices from one on pass a test
unfoldable pub passes_from : (ℕ → Bool) → ℕ → ℕ → Bool
passes_from test i zero = true
passes_from test i (suc m) = test i && passes_from test (suc i) m

-- where the slot of an index stands
abbrev pub slot_start : ℕ → ℕ
slot_start k = slot_width * k

-- a slot is zeros, or a person's primary group and further groups in range
unfoldable pub is_slot_at : List ℕ → ℕ → Bool
is_slot_at b k = cond (eqb (get_or b (slot_start k) 0) 0) (zeros_at (slot_start k + 1) 2 b)
    (leb (get_or b (slot_start k) 0) 15 && eqb (get_or b (slot_start k + 1) 0 % 2) 0)

-- account 0 is no person's, and each slot is in range
unfoldable pub has_slots : List ℕ → Bool
has_slots b = eqb (get_or b 0 0) 0 && passes_from (is_slot_at b) 0 16

unfoldable pub is_session_at : List ℕ → ℕ → Bool
is_session_at b k = leb (get_or b (sessions_offset + k) 0) 8

unfoldable pub has_sessions : List ℕ → Bool
has_sessions b = passes_from (is_session_at b) 0 16

unfoldable pub is_pair_at : List ℕ → ℕ → Bool
is_pair_at b k = ltb (get_or b (pair_start k) 0) (get_or b (pair_start k + 1) 0) && ltb (get_or b (pair_start k + 1) 0) 8

-- at most 28 pairs, each in range, and zeros behind them
unfoldable pub has_pairs : List ℕ → Bool
has_pairs b =
    let n = get_or b pairs_offset 0 in
    leb n 28 && (passes_from (is_pair_at b) 0 n && zeros_at (pair_start n) (grants_offset - pair_start n) b)

-- a number is root's, or that of an account whose slot is a person's
unfoldable pub named_at : List ℕ → ℕ → Bool
named_at b uid = eqb uid 0 || (leb uid 15 && not (eqb (get_or b (slot_start uid) 0) 0))

-- a password is a name, filled up with zeros
unfoldable pub is_password_at : List ℕ → ℕ → Bool
is_password_at b k =
    let at = grant_start k + password_offset in
    is_name (text_at at password_width b) && is_filled at password_width b

unfoldable pub is_grant_at : List ℕ → ℕ → Bool
is_grant_at b k = named_at b (get_or b (grant_start k) 0) && (ltb (get_or b (grant_start k + 1) 0) 8 && is_password_at b k)

-- at most 32 grants, each in range, and zeros behind them
unfoldable pub has_grants : List ℕ → Bool
has_grants b =
    let n = get_or b grants_offset 0 in
    leb n 32 && (passes_from (is_grant_at b) 0 n && zeros_at (grant_start n) (directories_offset - grant_start n) b)

-- a working directory is a path's text, filled up with zeros
unfoldable pub is_directory_at : List ℕ → ℕ → Bool
is_directory_at b k =
    let at = directory_start k in
    is_some (path (text_at at directory_width b)) && is_filled at directory_width b

unfoldable pub has_directories : List ℕ → Bool
has_directories b = passes_from (is_directory_at b) 0 16

-- all parts of a header, and the zeros at its end
unfoldable pub header_test : List ℕ → Bool
header_test b = (has_slots b && has_sessions b) && (has_pairs b && (has_grants b && (has_directories b && zeros_at spare_offset spare_width b)))
