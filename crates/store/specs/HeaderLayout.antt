-- Where the parts of a store stand, and how wide they are; src/layout.rt has the same numbers for the code.
use Rattle.std.specs.Prelude.{◌≡◌, List, ℕ, ◌+◌, ◌*◌, length}

-- an account's slot: its primary group, its further groups in two bytes
abbrev pub slot_width : ℕ
slot_width = 3

-- the accounts' sessions, a byte each
abbrev pub sessions_offset : ℕ
sessions_offset = 48

-- how many role pairs, then each: senior, junior
abbrev pub pairs_offset : ℕ
pairs_offset = 64

abbrev pub pair_width : ℕ
pair_width = 2

-- how many grants, then each: uid, role, password
abbrev pub grants_offset : ℕ
grants_offset = 121

abbrev pub grant_width : ℕ
grant_width = 10

abbrev pub password_offset : ℕ
password_offset = 2

abbrev pub password_width : ℕ
password_width = 8

-- the bytes of all pairs and of all grants, each with their number
abbrev pub pairs_width : ℕ
pairs_width = 57

abbrev pub grants_width : ℕ
grants_width = 321

-- the accounts' working directories, a path's text each
abbrev pub directories_offset : ℕ
directories_offset = 442

abbrev pub directory_width : ℕ
directory_width = 54

abbrev pub directories_width : ℕ
directories_width = 864

-- zeros up to the header's end
abbrev pub spare_offset : ℕ
spare_offset = 1306

abbrev pub spare_width : ℕ
spare_width = 6116

-- the whole header; the tree begins behind it
abbrev pub header_width : ℕ
header_width = 7422

abbrev pub WideHeader : List ℕ → Type 0
WideHeader b = length b ≡ header_width

-- where the pair, the grant and the working directory of an index begin
abbrev pub pair_start : ℕ → ℕ
pair_start i = pairs_offset + 1 + pair_width * i

abbrev pub grant_start : ℕ → ℕ
grant_start i = grants_offset + 1 + grant_width * i

abbrev pub directory_start : ℕ → ℕ
directory_start i = directories_offset + directory_width * i
