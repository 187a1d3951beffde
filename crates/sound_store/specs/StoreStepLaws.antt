-- What the code goes by where it tests a header and a store: each test by what it has seen.
use Rattle.std.specs.Prelude.{◌≡◌, List, ◌∷◌, Bool, true, false, ◌&&◌, not, eqb, ltb, take, drop}
use Rattle.std.proofs.Common.{sym, ◌∙◌, drop-cons}
use Rattle.std.proofs.Math.Path.{ap}
use Rattle.std.proofs.Math.Bool.{and-false}
use Prim.Native.Nat.{ℕ, suc, ◌+◌, ◌-◌, ◌%◌, ◌≤◌, ◌<◌}
use native.Mathlib.Omega.{arith}
use Rattle.std.proofs.Math.Numerals.{add-one}
use Rattle.std.proofs.Math.ListN.{length, get_or}
use borrow.Author.Tests.{eqb-true, eqb-false, eq-eqb, ne_eqb, lt-ltb, le-ltb, le-leb, lt-leb}
use Rattle.buffers.specs.Cases.{case}
use Rattle.buffers.specs.Text.{Text}
use Rattle.buffers.specs.Fields.{unpadded, text_at, zeros_at, is_filled}
use Rattle.buffers.specs.FieldsLaws.{text_stops}
use Rattle.syntax.specs.Form.{is_some}
use Rattle.syntax.specs.Path.{path}
use Rattle.syntax.proofs.PathPartsLaws.{path_empty, path_begins, path_top}
use Rattle.tree.specs.Encoding.{decode_tree}
use Rattle.store.specs.StoreBytes.{store_width, is_header, decode}
use Rattle.store.proofs.DecodeLaws.{decode_in_parts}
use Rattle.store.specs.HeaderLayout.{pair_start, grant_start, directory_start, grants_offset, directories_offset, directory_width, header_width, spare_offset, spare_width, sessions_offset, pairs_offset, WideHeader}
use Rattle.sound_store.specs.HeaderTests.{passes_from, slot_start, is_slot_at, has_slots, is_session_at, is_pair_at, has_pairs, named_at, is_password_at, is_grant_at, has_grants, is_directory_at, has_directories, has_sessions, header_test}

-- a field whose text fails a test
pub text_fails : (test : Text → Bool) (i w : ℕ) (b : List ℕ) → test (text_at i w b) ≡ false → (test (text_at i w b) && is_filled i w b) ≡ false
text_fails test i w b e = rw e

-- zeros behind the n bytes of a field's text fill it up
pub filled_by : (i w : ℕ) (b : List ℕ) (n : ℕ) → n ≡ length (text_at i w b) → is_filled i w b ≡ zeros_at (i + n) (i + w - (i + n)) b
unfolding is_filled
filled_by i w b n l =
    let q : w - n ≡ i + w - (i + n) = omega arith in
    rw (← l, q)

module _ (test : Text → Bool) (i w : ℕ) (b : List ℕ) where
  pub by_filling : test (text_at i w b) ≡ true → (n : ℕ) → n ≡ length (text_at i w b) →
      (test (text_at i w b) && is_filled i w b) ≡ zeros_at (i + n) (i + w - (i + n)) b
  unfolding is_filled
  by_filling e n l =
      let q : w - n ≡ i + w - (i + n) = omega arith in
      rw (e, ← l, q)

-- a field's text begins with its first byte, unless that is zero
text_opened : (b : List ℕ) (i w : ℕ) → i < length b → (get_or b i 0 ≡ 0 → ⊥) → text_at i (suc w) b ≡ get_or b i 0 ∷ text_at (suc i) w b
unfolding text_at unpadded
text_opened b i w h e = rw (drop-cons b i 0 h, ne_eqb (get_or b i 0) 0 e)

-- a working directory, as the test of a field's text
abbrev pub reads_path : Text → Bool
reads_path t = is_some (path t)

module _ (b : List ℕ) (k : ℕ) (wide : WideHeader b) (h : k < 16) where
  -- one that does not begin with `/`
  pub directory_begins : (get_or b (directory_start k) 0 ≡ 47 → ⊥) → is_directory_at b k ≡ false
  unfolding is_directory_at
  directory_begins f =
      let i = directory_start k in
      let w = directory_width - 1 in
      let x = get_or b i 0 in
      text_fails reads_path i directory_width b
      (case (eqb x 0)
      (λ z. path_empty (text_at i directory_width b) (text_stops b i w (omega arith) (eqb-true x 0 z)))
      (λ z. rw (text_opened b i w (omega arith) (eqb-false x 0 z)) (path_begins (x ∷ text_at (suc i) w b) (omega arith) f)))

  -- and `/` alone
  pub directory_top : get_or b (directory_start k) 0 ≡ 47 → get_or b (directory_start k + 1) 0 ≡ 0 →
      is_directory_at b k ≡ zeros_at (directory_start k + 1) (directory_start k + directory_width - (directory_start k + 1)) b
  unfolding is_directory_at
  directory_top e z =
      let i = directory_start k in
      let t = text_at i directory_width b in
      let q = text_opened b i (directory_width - 1) (omega arith) (λ y. omega arith) in
      let l : length t ≡ 1 = ap length q ∙ ap suc (text_stops b (suc i) (directory_width - 2) (omega arith) (rw add-one at z)) in
      rw (path_top t l (ap (λ (s : Text). get_or s 0 0) q ∙ e)) (filled_by i directory_width b 1 (sym l))

module _ (b : List ℕ) (k : ℕ) where
  -- a slot that is no person's
  pub slot_free : get_or b (slot_start k) 0 ≡ 0 → is_slot_at b k ≡ zeros_at (slot_start k + 1) (slot_start k + 3 - (slot_start k + 1)) b
  unfolding is_slot_at
  slot_free e = let q : slot_start k + 3 - (slot_start k + 1) ≡ 2 = omega arith in rw (eq-eqb (get_or b (slot_start k) 0) 0 e, q)

  -- a person's with a primary group past 15
  pub slot_past : 15 < get_or b (slot_start k) 0 → is_slot_at b k ≡ false
  unfolding is_slot_at
  slot_past h = rw (ne_eqb (get_or b (slot_start k) 0) 0 (λ e. omega arith), lt-leb (get_or b (slot_start k) 0) 15 h)

  -- and with one in range
  pub slot_groups : (get_or b (slot_start k) 0 ≡ 0 → ⊥) → get_or b (slot_start k) 0 ≤ 15 → is_slot_at b k ≡ eqb (get_or b (slot_start k + 1) 0 % 2) 0
  unfolding is_slot_at
  slot_groups e h = rw (ne_eqb (get_or b (slot_start k) 0) 0 e, le-leb (get_or b (slot_start k) 0) 15 h)

  -- a session past role 7, and one in range
  pub session_past : 8 < get_or b (sessions_offset + k) 0 → is_session_at b k ≡ false
  unfolding is_session_at
  session_past h = lt-leb (get_or b (sessions_offset + k) 0) 8 h

  pub session_fits : get_or b (sessions_offset + k) 0 ≤ 8 → is_session_at b k ≡ true
  unfolding is_session_at
  session_fits h = le-leb (get_or b (sessions_offset + k) 0) 8 h

  -- a pair that does not fall, and one that does
  pub pair_rises : get_or b (pair_start k + 1) 0 ≤ get_or b (pair_start k) 0 → is_pair_at b k ≡ false
  unfolding is_pair_at
  pair_rises h = rw (le-ltb (get_or b (pair_start k) 0) (get_or b (pair_start k + 1) 0) h)

  pub pair_falls : get_or b (pair_start k) 0 < get_or b (pair_start k + 1) 0 → is_pair_at b k ≡ ltb (get_or b (pair_start k + 1) 0) 8
  unfolding is_pair_at
  pair_falls h = rw (lt-ltb (get_or b (pair_start k) 0) (get_or b (pair_start k + 1) 0) h)

  -- root's number, one past 15, and one of an account
  pub root_named : k ≡ 0 → named_at b k ≡ true
  unfolding named_at
  root_named e = rw (eq-eqb k 0 e)

  pub past_named : 15 < k → named_at b k ≡ false
  unfolding named_at
  past_named h = rw (ne_eqb k 0 (λ e. omega arith), lt-leb k 15 h)

  pub slot_named : (k ≡ 0 → ⊥) → k ≤ 15 → named_at b k ≡ not (eqb (get_or b (slot_start k) 0) 0)
  unfolding named_at
  slot_named e h = rw (ne_eqb k 0 e, le-leb k 15 h)

  -- a grant of nobody, one of a role past 7, and another
  pub grant_unnamed : named_at b (get_or b (grant_start k) 0) ≡ false → is_grant_at b k ≡ false
  unfolding is_grant_at
  grant_unnamed e = rw e

  pub grant_past : 7 < get_or b (grant_start k + 1) 0 → is_grant_at b k ≡ false
  unfolding is_grant_at
  grant_past h = simp (le-ltb (get_or b (grant_start k + 1) 0) 8 (omega arith), and-false)

  pub grant_by_password : named_at b (get_or b (grant_start k) 0) ≡ true → get_or b (grant_start k + 1) 0 ≤ 7 → is_grant_at b k ≡ is_password_at b k
  unfolding is_grant_at
  grant_by_password e h = rw (e, lt-ltb (get_or b (grant_start k + 1) 0) 8 (omega arith))

module _ (b : List ℕ) where
  -- account 0 is a person's, or the slots decide
  pub root_a_person : (get_or b 0 0 ≡ 0 → ⊥) → has_slots b ≡ false
  unfolding has_slots
  root_a_person e = rw (ne_eqb (get_or b 0 0) 0 e)

  pub by_slots : get_or b 0 0 ≡ 0 → has_slots b ≡ passes_from (is_slot_at b) 0 16
  unfolding has_slots
  by_slots e = rw (eq-eqb (get_or b 0 0) 0 e)

  -- too many pairs, one out of range, or the zeros behind them decide
  pub many_pairs : 28 < get_or b pairs_offset 0 → has_pairs b ≡ false
  unfolding has_pairs
  many_pairs h = rw (lt-leb (get_or b pairs_offset 0) 28 h)

  pub pair_fails : passes_from (is_pair_at b) 0 (get_or b pairs_offset 0) ≡ false → has_pairs b ≡ false
  unfolding has_pairs
  pair_fails e = simp (e, and-false)

  pub by_pair_zeros : get_or b pairs_offset 0 ≤ 28 → passes_from (is_pair_at b) 0 (get_or b pairs_offset 0) ≡ true →
      has_pairs b ≡ zeros_at (pair_start (get_or b pairs_offset 0)) (grants_offset - pair_start (get_or b pairs_offset 0)) b
  unfolding has_pairs
  by_pair_zeros h e = rw (le-leb (get_or b pairs_offset 0) 28 h, e)

  -- and so with grants
  pub many_grants : 32 < get_or b grants_offset 0 → has_grants b ≡ false
  unfolding has_grants
  many_grants h = rw (lt-leb (get_or b grants_offset 0) 32 h)

  pub grant_fails : passes_from (is_grant_at b) 0 (get_or b grants_offset 0) ≡ false → has_grants b ≡ false
  unfolding has_grants
  grant_fails e = simp (e, and-false)

  pub by_grant_zeros : get_or b grants_offset 0 ≤ 32 → passes_from (is_grant_at b) 0 (get_or b grants_offset 0) ≡ true →
      has_grants b ≡ zeros_at (grant_start (get_or b grants_offset 0)) (directories_offset - grant_start (get_or b grants_offset 0)) b
  unfolding has_grants
  by_grant_zeros h e = rw (le-leb (get_or b grants_offset 0) 32 h, e)

  -- the parts of a header
  pub slots_fail : has_slots b ≡ false → header_test b ≡ false
  unfolding header_test
  slots_fail e = rw e

  pub sessions_fail : has_sessions b ≡ false → header_test b ≡ false
  unfolding header_test
  sessions_fail e = simp (e, and-false)

  pub pairs_fail : has_pairs b ≡ false → header_test b ≡ false
  unfolding header_test
  pairs_fail e = simp (e, and-false)

  pub grants_fail : has_grants b ≡ false → header_test b ≡ false
  unfolding header_test
  grants_fail e = simp (e, and-false)

  pub directories_fail : has_directories b ≡ false → header_test b ≡ false
  unfolding header_test
  directories_fail e = simp (e, and-false)

  pub by_spare : has_slots b ≡ true → has_sessions b ≡ true → has_pairs b ≡ true → has_grants b ≡ true → has_directories b ≡ true → header_test b ≡ zeros_at spare_offset spare_width b
  unfolding header_test
  by_spare s z p g d = rw (s, z, p, g, d)

  -- and those of a store
  pub another_length : (length b ≡ 65536 → ⊥) → is_some (decode b) ≡ false
  unfolding store_width
  another_length e = decode_in_parts b ∙ rw (ne_eqb (length b) 65536 e)

  pub header_fails : is_header (take header_width b) ≡ false → is_some (decode b) ≡ false
  header_fails e = decode_in_parts b ∙ simp (e, and-false)

  pub by_tree : length b ≡ 65536 → is_header (take header_width b) ≡ true → is_some (decode b) ≡ is_some (decode_tree (drop header_width b))
  unfolding store_width
  by_tree l e = decode_in_parts b ∙ rw (eq-eqb (length b) 65536 l, e)
