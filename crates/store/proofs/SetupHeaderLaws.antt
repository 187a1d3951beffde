-- What a header holds while a setup is read, alone and in a store, and that one of zeros holds nothing.
use Rattle.std.specs.Prelude.{◌≡◌, refl, List, ◌++◌, true, ℕ, ◌+◌, length, drop, replicate}
use Rattle.std.proofs.Common.{◌∙◌, ap, arith}
use Rattle.std.proofs.lemmas.List.{length-replicate}
use Rattle.buffers.specs.TableLaws.{zeros_join}
use Rattle.buffers.specs.Fields.{all_bytes, table_bytes}
use Rattle.setup.specs.Setup.{Setup, accounts, most_pairs, most_grants, no_setup, is_setup}
use Rattle.store.specs.HeaderLayout.{sessions_offset, pairs_width, grants_width, directories_width, spare_width, header_width}
use Rattle.store.specs.Initial.{no_sessions}
use Rattle.store.specs.StoreBytes.{slot_bytes, session_byte, front_bytes, setup_of}
use Rattle.store.specs.SetupHeader.{setup_header, headed}
use Rattle.store.proofs.FrontLaws.{front_before, length_front, setup_of_front}

-- there are sixteen accounts without a session
pub length_no_sessions : length no_sessions ≡ 16
unfolding no_sessions accounts
length_no_sessions = refl

-- the zeros behind setup and sessions, not computed
zeros_behind : List ℕ
zeros_behind = replicate (directories_width + spare_width) 0

length_zeros_behind : length zeros_behind ≡ directories_width + spare_width
unfolding zeros_behind
length_zeros_behind = length-replicate {A = ℕ} (directories_width + spare_width) 0

setup_header_parts : (u : Setup) → setup_header u ≡ front_bytes u no_sessions zeros_behind
unfolding setup_header zeros_behind
setup_header_parts u = refl

pub setup_header_wide : (u : Setup) → is_setup u ≡ true → length (setup_header u) ≡ header_width
setup_header_wide u h =
    ap length (setup_header_parts u) ∙ length_front u no_sessions h length_no_sessions zeros_behind ∙ omega (arith, length_zeros_behind)

-- the setup is read back, whatever stands behind the header
pub headed_holds : (u : Setup) (b : List ℕ) → is_setup u ≡ true → setup_of (headed u b) ≡ u
headed_holds u b h =
    let B = drop header_width b in
    ap (λ (l : List ℕ). setup_of (l ++ B)) (setup_header_parts u)
    ∙ ap setup_of (front_before u no_sessions zeros_behind B)
    ∙ setup_of_front u no_sessions h length_no_sessions (zeros_behind ++ B)

pub header_holds : (u : Setup) → is_setup u ≡ true → setup_of (setup_header u) ≡ u
header_holds u h = ap setup_of (setup_header_parts u) ∙ setup_of_front u no_sessions h length_no_sessions zeros_behind

-- ---- a header of zeros

five_zeros : (k l m n o : ℕ) (S Z P G U : List ℕ) → S ≡ replicate k 0 → Z ≡ replicate l 0 → P ≡ replicate m 0 → G ≡ replicate n 0 → U ≡ replicate o 0 →
    S ++ (Z ++ (P ++ (G ++ U))) ≡ replicate (k + (l + (m + (n + o)))) 0
five_zeros k l m n o S Z P G U s z p g u =
    rw (s, z, p, g, u, zeros_join k (l + (m + (n + o))), zeros_join l (m + (n + o)), zeros_join m (n + o), zeros_join n o)

-- its parts, the last of which is not computed
parts_of_zeros : (U : List ℕ) → U ≡ replicate (directories_width + spare_width) 0 → front_bytes no_setup no_sessions U ≡ replicate header_width 0
unfolding front_bytes no_setup accounts most_pairs most_grants all_bytes slot_bytes no_sessions session_byte table_bytes
parts_of_zeros U e = five_zeros sessions_offset 16 pairs_width grants_width (directories_width + spare_width) _ _ _ _ U refl refl refl refl e

-- it is that of a setup of nothing
pub nothing_is_zeros : setup_header no_setup ≡ replicate header_width 0
unfolding zeros_behind
nothing_is_zeros = setup_header_parts no_setup ∙ parts_of_zeros zeros_behind refl
