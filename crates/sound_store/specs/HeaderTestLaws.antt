-- A header's bytes pass part by part just if they are those of a setup in range, of sessions and of working directories.
--
-- In order: the bytes of one value; tests in another order; the parts, and the whole header.
use Rattle.std.specs.Prelude.{◌≡◌, true, false, ◌&&◌, ◌||◌, cond, eqb, leb, ltb, drop, replicate}
use Rattle.std.proofs.Math.Path.{refl, sym, ap}
use Rattle.std.proofs.Common.{◌∙◌, ap₂, add-zero, length-drop, take_all, take-take}
use mathlib.Core.List.{List, [], ◌∷◌, ◌++◌}
use Rattle.std.proofs.Math.Option.{none}
use Rattle.std.proofs.Math.Bool.{Bool, not, and-false, and-true, not-not}
use Prim.Native.Nat.{ℕ, zero, suc, ◌+◌, ◌-◌, ◌*◌, ◌/◌, ◌%◌, ◌≤◌, ◌<◌}
use native.Mathlib.Omega.{arith}
use Rattle.std.proofs.Math.ListN.{length, get_or, take, get_or-eq_default}
use borrow.Author.Tests.{eqb-true, eqb-false, ne_eqb, eq-eqb, leb-true, leb-false, le-leb, lt-ltb}
use Rattle.buffers.specs.Cases.{case, eqb_flip}
use Rattle.buffers.specs.Text.{same_text, every}
use Rattle.buffers.specs.TextLaws.{same_text_refl}
use Rattle.buffers.specs.Fields.{two_bytes, number_at, padded, unpadded, text_at, all_zero, zeros_at, all_bytes, all_from, table_bytes, table_from}
use Rattle.buffers.specs.FieldsLaws.{length_two_bytes, length_padded, byte_there}
use Rattle.buffers.specs.TableLaws.{length_all_from, all_from_at, table_count}
use Rattle.accounts.proofs.AccessLaws.{is_root_is}
use Rattle.accounts.proofs.DominanceLaws.{falls_is}
use Rattle.accounts.specs.PairBytes.{pair_bytes, pair_of}
use Rattle.accounts.proofs.PairBytesLaws.{pair_bytes_are, pair_of_two, length_pair}
use Rattle.syntax.specs.Path.{is_name}
use Rattle.syntax.specs.Form.{is_some}
use Rattle.syntax.specs.Field.{bounded, bounded_by}
use Rattle.setup.specs.Setup.{Setup, accounts, most_pairs, most_grants, person, is_person, is_slot, is_pair, is_grant, is_setup}
use Rattle.soundness.specs.RowTestLaws.{length_text_at, same_filled, same_zeros_at}
use Rattle.store.specs.StoreBytes.{slot_bytes, slot_of, session_byte, session_of, grant_bytes, grant_of, directory_bytes, directory_from, front_bytes, header_bytes, setup_of, sessions_of, directories_of, registry_of, is_header}
use Rattle.store.specs.HeaderLayout.{pair_start, grant_start, directory_start, grants_offset, directories_offset, spare_offset, spare_width, sessions_offset, pairs_offset, WideHeader, pair_width, grant_width, directory_width, slot_width}
use Rattle.sound_store.specs.HeaderTests.{passes_from, slot_start, is_slot_at, has_slots, is_session_at, has_sessions, is_pair_at, has_pairs, named_at, is_password_at, is_grant_at, has_grants, is_directory_at, has_directories, header_test}
use Rattle.sound_store.specs.PassesLaws.{passes_both, passes_same, stretch, opened, all_pass, all_same, table_values, table_same}
use Rattle.sound_store.specs.DirectoryTestLaws.{directory_long, directory_read}

-- ---- the bytes of one value

-- a slot is in range and written as it is read
slot_read : (x y z : ℕ) → y < 256 → z < 256 → let s = x ∷ (y ∷ (z ∷ [])) in
    (is_slot (slot_of s) && same_text (slot_bytes (slot_of s)) s) ≡ cond (eqb x 0) (all_zero (y ∷ (z ∷ []))) (leb x 15 && eqb (y % 2) 0)
unfolding slot_of slot_bytes is_slot is_person same_text all_zero every number_at two_bytes
slot_read x y z h k =
    let n = y + 256 * z in
    let low : n % 256 ≡ y = omega arith in
    let high : n / 256 ≡ z = omega arith in
    let even : n % 2 ≡ y % 2 = omega arith in
    case (eqb x 0)
    (λ e. rw e (rw (eq-eqb 0 x (sym (eqb-true x 0 e))) (ap₂ (λ (s t : Bool). s && (t && true)) (eqb_flip 0 y) (eqb_flip 0 z))))
    (λ e.
    let low_bound : 1 ≤ x = omega (arith, eqb-false x 0 e) in
    rw e (rw (le-leb 1 x low_bound, lt-ltb n 65536 (omega arith), even, low, high, eq-eqb x x refl, eq-eqb y y refl, eq-eqb z z refl) (and-true _)))

-- a session's byte is written as it is read
bounded_read : (n : ℕ) (small : Bool) (e : ltb n 8 ≡ small) → eqb (session_byte (bounded_by n small e)) (suc n) ≡ small
unfolding bounded_by session_byte
bounded_read n true e = eq-eqb (suc n) (suc n) refl
bounded_read n false e = ne_eqb 0 (suc n) (λ z. omega arith)

session_read : (s : ℕ) → same_text (session_byte (session_of s) ∷ []) (s ∷ []) ≡ leb s 8
unfolding same_text session_of bounded
session_read zero = unfold session_byte in refl
session_read (suc n) = and-true _ ∙ bounded_read n (ltb n 8) refl

-- a pair's bytes are
pair_read : (s j : ℕ) → let x = s ∷ (j ∷ []) in (is_pair (pair_of x) && same_text (pair_bytes (pair_of x)) x) ≡ (ltb s j && ltb j 8)
unfolding is_pair
pair_read s j = rw (pair_of_two s j, pair_bytes_are, falls_is, same_text_refl (s ∷ (j ∷ []))) (and-true _)

-- a grant's are, where its password's text is known
named_role_password : (n r p f : Bool) → ((n && (r && p)) && f) ≡ (n && (r && (p && f)))
named_role_password true true p f = refl
named_role_password true false p f = refl
named_role_password false r p f = refl

grant_read : (u : Setup) (v r : ℕ) (y t : List ℕ) → text_at 2 8 (v ∷ (r ∷ y)) ≡ t → let x = v ∷ (r ∷ y) in
    (is_grant u (grant_of x) && same_text (grant_bytes (grant_of x)) x)
    ≡ ((eqb v 0 || is_some (person u (record { 0 = v }))) && (ltb r 8 && (is_name t && same_text (padded 8 t) y)))
unfolding is_grant grant_of grant_bytes same_text
grant_read u v r y t e = rw (is_root_is, e, eq-eqb v v refl, eq-eqb r r refl) (named_role_password (eqb v 0 || is_some (person u (record { 0 = v }))) (ltb r 8) (is_name t) (same_text (padded 8 t) y))

-- each takes its width, whatever is read
slot_long : (x : List ℕ) → length x ≡ 3 → length (slot_bytes (slot_of x)) ≡ 3
unfolding slot_of slot_bytes
slot_long x h = case (eqb (get_or x 0 0) 0) (λ e. rw e) (λ e. rw e (ap suc (length_two_bytes (number_at 1 x))))

session_long : (x : List ℕ) → length x ≡ 1 → length (session_byte (session_of (get_or x 0 0)) ∷ []) ≡ 1
session_long x h = refl

pair_long : (x : List ℕ) → length x ≡ 2 → length (pair_bytes (pair_of x)) ≡ 2
pair_long x h = length_pair (pair_of x)

grant_long : (x : List ℕ) → length x ≡ 10 → length (grant_bytes (grant_of x)) ≡ 10
unfolding grant_bytes grant_of
grant_long x h = ap (λ (n : ℕ). suc (suc n)) (length_padded 8 (text_at 2 8 x) (length_text_at 2 8 x (omega arith)))

-- bytes at a place
one_at : (b : List ℕ) (i : ℕ) → i < length b → take 1 (drop i b) ≡ get_or b i 0 ∷ []
one_at b i h = ap (take 1) (opened b i h)

two_at : (b : List ℕ) (i : ℕ) → i + 1 < length b → take 2 (drop i b) ≡ get_or b i 0 ∷ (get_or b (i + 1) 0 ∷ [])
two_at b i h = ap (take 2) (opened b i (omega arith)) ∙ ap (λ (l : List ℕ). get_or b i 0 ∷ l) (one_at b (i + 1) h)

three_at : (b : List ℕ) (i : ℕ) → i + 2 < length b → take 3 (drop i b) ≡ get_or b i 0 ∷ (get_or b (i + 1) 0 ∷ (get_or b (i + 1 + 1) 0 ∷ []))
three_at b i h = ap (take 3) (opened b i (omega arith)) ∙ ap (λ (l : List ℕ). get_or b i 0 ∷ l) (two_at b (i + 1) (omega arith))

ten_at : (b : List ℕ) (i : ℕ) → i + 1 < length b → take 10 (drop i b) ≡ get_or b i 0 ∷ (get_or b (i + 1) 0 ∷ take 8 (drop (i + 2) b))
ten_at b i h =
    let q : i + 1 + 1 ≡ i + 2 = omega arith in
    ap (take 10) (opened b i (omega arith))
    ∙ ap (λ (l : List ℕ). get_or b i 0 ∷ take 9 l) (opened b (i + 1) h)
    ∙ ap (λ (j : ℕ). get_or b i 0 ∷ (get_or b (i + 1) 0 ∷ take 8 (drop j b))) q

-- a slot is some person's by its first byte
some_slot : (x : List ℕ) → is_some (slot_of x) ≡ not (eqb (get_or x 0 0) 0)
unfolding slot_of is_some
some_slot x = case (eqb (get_or x 0 0) 0) (λ e. rw e) (λ e. rw e)

-- zeros up to the end
zeros_last : (n i : ℕ) (b : List ℕ) → i + n ≡ length b → same_text (replicate n 0) (drop i b) ≡ zeros_at i n b
zeros_last n i b h = ap (same_text (replicate n 0)) (sym (take_all n (drop i b) (omega (arith, length-drop i b)))) ∙ same_zeros_at i n b (omega arith)

-- ---- tests in another order

parts_shuffled : (r ps ts tz ln pp tp zp lm pg tg zg zu : Bool) →
    (((r && ps) && ((ln && pp) && (lm && pg))) && (ts && (tz && (tp && (zp && (tg && (zg && zu)))))))
    ≡ (((r && (ps && ts)) && tz) && ((ln && ((pp && tp) && zp)) && ((lm && ((pg && tg) && zg)) && zu)))
parts_shuffled false ps ts tz ln pp tp zp lm pg tg zg zu = refl
parts_shuffled true false ts tz ln pp tp zp lm pg tg zg zu = refl
parts_shuffled true true false tz ln pp tp zp lm pg tg zg zu = and-false ((ln && pp) && (lm && pg))
parts_shuffled true true true false ln pp tp zp lm pg tg zg zu = and-false ((ln && pp) && (lm && pg))
parts_shuffled true true true true false pp tp zp lm pg tg zg zu = refl
parts_shuffled true true true true true false tp zp lm pg tg zg zu = refl
parts_shuffled true true true true true true false zp lm pg tg zg zu = and-false (lm && pg)
parts_shuffled true true true true true true true false lm pg tg zg zu = and-false (lm && pg)
parts_shuffled true true true true true true true true false pg tg zg zu = refl
parts_shuffled true true true true true true true true true false tg zg zu = refl
parts_shuffled true true true true true true true true true true false zg zu = refl
parts_shuffled true true true true true true true true true true true false zu = refl
parts_shuffled true true true true true true true true true true true true zu = refl

-- ---- the parts

module _ (b : List ℕ) (wide : WideHeader b) (small : (k : ℕ) → get_or b k 0 < 256) where
  slot_is : (k : ℕ) → k < 16 → let s = stretch slot_width 0 b k in (is_slot (slot_of s) && same_text (slot_bytes (slot_of s)) s) ≡ is_slot_at b k
  unfolding is_slot_at zeros_at
  slot_is k h =
      let i = 3 * k in
      let q : 0 + i ≡ i = omega arith in
      let s = ap (λ (j : ℕ). take 3 (drop j b)) q ∙ three_at b i (omega arith) in
      rw (s, two_at b (i + 1) (omega arith)) (slot_read (get_or b i 0) (get_or b (i + 1) 0) (get_or b (i + 1 + 1) 0) (small (i + 1)) (small (i + 1 + 1)))

  session_is : (k : ℕ) → k < 16 → let s = stretch 1 sessions_offset b k in same_text (session_byte (session_of (get_or s 0 0)) ∷ []) s ≡ is_session_at b k
  unfolding is_session_at
  session_is k h =
      let i = sessions_offset + k in
      let q : sessions_offset + 1 * k ≡ i = omega arith in
      let s = ap (λ (j : ℕ). take 1 (drop j b)) q ∙ one_at b i (omega arith) in
      rw s (session_read (get_or b i 0))

  pair_is : (k : ℕ) → k < 28 → let s = stretch pair_width (pairs_offset + 1) b k in (is_pair (pair_of s) && same_text (pair_bytes (pair_of s)) s) ≡ is_pair_at b k
  unfolding is_pair_at
  pair_is k h = let i = pair_start k in rw (two_at b i (omega arith)) (pair_read (get_or b i 0) (get_or b (i + 1) 0))

  -- a slot's person by its first byte
  named_is : (v : ℕ) → is_some (person (setup_of b) (record { 0 = v })) ≡ (leb v 15 && not (eqb (get_or b (slot_start v) 0) 0))
  unfolding person setup_of accounts
  named_is v = case (leb v 15)
      (λ t.
      let at : get_or (all_from slot_width slot_of 16 b) v none ≡ slot_of (take slot_width (drop (slot_width * v) b)) = all_from_at slot_width slot_of 16 v b none (omega (arith, leb-true v 15 t)) in
      let first : get_or (take slot_width (drop (slot_width * v) b)) 0 0 ≡ get_or b (3 * v) 0 =
      byte_there b (3 * v) 3 0 (3 * v) (omega arith) (add-zero (3 * v)) in
      rw (at, t) (some_slot (take slot_width (drop (slot_width * v) b)) ∙ rw first))
      (λ t. rw (get_or-eq_default (all_from slot_width slot_of 16 b) none {n = v} (omega (arith, length_all_from slot_width slot_of 16 b, leb-false v 15 t)), t) (unfold is_some in refl))

  grant_is : (k : ℕ) → k < 32 → let s = stretch grant_width (grants_offset + 1) b k in (is_grant (setup_of b) (grant_of s) && same_text (grant_bytes (grant_of s)) s) ≡ is_grant_at b k
  unfolding is_grant_at is_password_at named_at
  grant_is k h =
      let i = grant_start k in
      let y = take 8 (drop (i + 2) b) in
      let t : text_at 2 8 (get_or b i 0 ∷ (get_or b (i + 1) 0 ∷ y)) ≡ text_at (i + 2) 8 b = unfold text_at in ap unpadded (take-take 8 8 (drop (i + 2) b) (omega arith)) in
      rw (ten_at b i (omega arith))
      (grant_read (setup_of b) (get_or b i 0) (get_or b (i + 1) 0) y (text_at (i + 2) 8 b) t
      ∙ rw (named_is (get_or b i 0), same_filled (i + 2) 8 b (omega arith)))

  directory_is : (k : ℕ) → k < 16 → let s = stretch directory_width directories_offset b k in same_text (directory_bytes (directory_from s)) s ≡ is_directory_at b k
  unfolding is_directory_at
  directory_is k h = directory_read b (directory_start k) (omega arith)

  -- ---- the parts, tested and written as they are read

  abbrev slots_same : Bool
  slots_same = passes_from (λ k. same_text (slot_bytes (slot_of (stretch slot_width 0 b k))) (stretch slot_width 0 b k)) 0 16

  abbrev sessions_same : Bool
  sessions_same = passes_from (λ k. same_text (session_byte (session_of (get_or (stretch 1 sessions_offset b k) 0 0)) ∷ []) (stretch 1 sessions_offset b k)) 0 16

  abbrev pairs_same : Bool
  pairs_same = passes_from (λ k. same_text (pair_bytes (pair_of (stretch pair_width (pairs_offset + 1) b k))) (stretch pair_width (pairs_offset + 1) b k)) 0 (get_or b pairs_offset 0)

  abbrev grants_same : Bool
  grants_same = passes_from (λ k. same_text (grant_bytes (grant_of (stretch grant_width (grants_offset + 1) b k))) (stretch grant_width (grants_offset + 1) b k)) 0 (get_or b grants_offset 0)

  abbrev directories_same : Bool
  directories_same = passes_from (λ k. same_text (directory_bytes (directory_from (stretch directory_width directories_offset b k))) (stretch directory_width directories_offset b k)) 0 16

  abbrev u : Setup
  u = setup_of b

  -- account 0 is no person's
  account_0_is : not (is_some (get_or u.persons 0 none)) ≡ eqb (get_or b 0 0) 0
  unfolding person
  account_0_is = ap not (named_is 0) ∙ not-not (eqb (get_or b 0 0) 0)

  slots_are : (every is_slot u.persons && slots_same) ≡ passes_from (is_slot_at b) 0 16
  unfolding setup_of accounts
  slots_are =
      let P : ℕ → Bool = λ k. is_slot (slot_of (stretch slot_width 0 b k)) in
      let T : ℕ → Bool = λ k. same_text (slot_bytes (slot_of (stretch slot_width 0 b k))) (stretch slot_width 0 b k) in
      ap (λ (t : Bool). t && slots_same) (all_pass slot_width 0 b slot_of is_slot 16)
      ∙ passes_both P T 0 16
      ∙ passes_same (λ k. P k && T k) (is_slot_at b) 0 16 (λ k h. slot_is k (omega arith))

  sessions_are : sessions_same ≡ has_sessions b
  unfolding has_sessions
  sessions_are =
      passes_same (λ k. same_text (session_byte (session_of (get_or (stretch 1 sessions_offset b k) 0 0)) ∷ []) (stretch 1 sessions_offset b k)) (is_session_at b) 0 16 (λ k h. session_is k (omega arith))

  pairs_are : get_or b pairs_offset 0 ≤ 28 → (every is_pair u.pairs && pairs_same) ≡ passes_from (is_pair_at b) 0 (get_or b pairs_offset 0)
  unfolding setup_of
  pairs_are few =
      let n = get_or b pairs_offset 0 in
      let P : ℕ → Bool = λ k. is_pair (pair_of (stretch pair_width (pairs_offset + 1) b k)) in
      let T : ℕ → Bool = λ k. same_text (pair_bytes (pair_of (stretch pair_width (pairs_offset + 1) b k))) (stretch pair_width (pairs_offset + 1) b k) in
      ap (λ (t : Bool). t && pairs_same) (ap (every is_pair) (table_values pair_width 28 pairs_offset b pair_of (omega arith)) ∙ all_pass pair_width (pairs_offset + 1) b pair_of is_pair n)
      ∙ passes_both P T 0 n
      ∙ passes_same (λ k. P k && T k) (is_pair_at b) 0 n (λ k h. pair_is k (omega arith))

  grants_are : get_or b grants_offset 0 ≤ 32 → (every (is_grant u) u.grants && grants_same) ≡ passes_from (is_grant_at b) 0 (get_or b grants_offset 0)
  grants_are few =
      let n = get_or b grants_offset 0 in
      let P : ℕ → Bool = λ k. is_grant u (grant_of (stretch grant_width (grants_offset + 1) b k)) in
      let T : ℕ → Bool = λ k. same_text (grant_bytes (grant_of (stretch grant_width (grants_offset + 1) b k))) (stretch grant_width (grants_offset + 1) b k) in
      let g : u.grants ≡ all_from grant_width grant_of n (drop (grants_offset + 1) b) = unfold setup_of in table_values grant_width 32 grants_offset b grant_of (omega arith) in
      ap (λ (t : Bool). t && grants_same) (ap (every (is_grant u)) g ∙ all_pass grant_width (grants_offset + 1) b grant_of (is_grant u) n)
      ∙ passes_both P T 0 n
      ∙ passes_same (λ k. P k && T k) (is_grant_at b) 0 n (λ k h. grant_is k (omega arith))

  directories_are : directories_same ≡ has_directories b
  unfolding has_directories
  directories_are =
      passes_same (λ k. same_text (directory_bytes (directory_from (stretch directory_width directories_offset b k))) (stretch directory_width directories_offset b k)) (is_directory_at b) 0 16 (λ k h. directory_is k (omega arith))

  -- how many of each are read
  pair_number : length u.pairs ≡ get_or b pairs_offset 0
  unfolding setup_of
  pair_number = sym (table_count 2 pair_of b pairs_offset)

  grant_number : length u.grants ≡ get_or b grants_offset 0
  unfolding setup_of
  grant_number = sym (table_count 10 grant_of b grants_offset)

  -- the setup in range, part by part
  setup_is : is_setup u ≡ ((eqb (get_or b 0 0) 0 && every is_slot u.persons)
      && ((leb (get_or b pairs_offset 0) 28 && every is_pair u.pairs) && (leb (get_or b grants_offset 0) 32 && every (is_grant u) u.grants)))
  unfolding is_setup accounts most_pairs most_grants
  setup_is =
      let sixteen : length u.persons ≡ 16 = unfold setup_of in length_all_from slot_width slot_of 16 b in
      rw (eq-eqb (length u.persons) 16 sixteen, account_0_is, pair_number, grant_number)

  -- the bytes of what is read, with a name for the zeros at their end
  abbrev header_before : List ℕ → List ℕ
  header_before R = all_bytes slot_bytes (all_from slot_width slot_of 16 b) ++ (all_bytes (λ z. session_byte z ∷ []) (all_from 1 (λ s. session_of (get_or s 0 0)) 16 (drop sessions_offset b))
      ++ (table_bytes 2 28 pair_bytes (table_from 2 pair_of (drop pairs_offset b)) ++ (table_bytes 10 32 grant_bytes (table_from 10 grant_of (drop grants_offset b))
      ++ (all_bytes directory_bytes (all_from directory_width directory_from 16 (drop directories_offset b)) ++ R))))

  header_with : (R : List ℕ) → R ≡ replicate spare_width 0 → header_bytes u (registry_of b) ≡ header_before R
  unfolding header_bytes front_bytes setup_of registry_of sessions_of directories_of accounts most_pairs most_grants
  header_with R e = ap header_before (sym e)

  pairs_zero : Bool
  pairs_zero = zeros_at (pair_start (get_or b pairs_offset 0)) (grants_offset - pair_start (get_or b pairs_offset 0)) b

  grants_zero : Bool
  grants_zero = zeros_at (grant_start (get_or b grants_offset 0)) (directories_offset - grant_start (get_or b grants_offset 0)) b

  -- they are the header's just if each part's are, with zeros behind the pairs and the grants
  same_header : (R : List ℕ) → R ≡ replicate spare_width 0 → get_or b pairs_offset 0 ≤ 28 → get_or b grants_offset 0 ≤ 32 →
      same_text (header_bytes u (registry_of b)) b
      ≡ (slots_same && (sessions_same && (pairs_same && (pairs_zero && (grants_same && (grants_zero && (directories_same && zeros_at spare_offset spare_width b)))))))
  unfolding pairs_zero grants_zero
  same_header R e few_pairs few_grants =
      let n = get_or b pairs_offset 0 in
      let m = get_or b grants_offset 0 in
      let D = all_bytes directory_bytes (all_from directory_width directory_from 16 (drop directories_offset b)) ++ R in
      let G = table_bytes 10 32 grant_bytes (table_from 10 grant_of (drop grants_offset b)) ++ D in
      let P = table_bytes 2 28 pair_bytes (table_from 2 pair_of (drop pairs_offset b)) ++ G in
      let Z = all_bytes (λ z. session_byte z ∷ []) (all_from 1 (λ s. session_of (get_or s 0 0)) 16 (drop sessions_offset b)) ++ P in
      let last = ap (λ (l : List ℕ). same_text l (drop spare_offset b)) e ∙ zeros_last spare_width spare_offset b (omega arith) in
      let directories = all_same directory_width directories_offset b directory_from directory_bytes directory_long R 16 spare_offset refl (omega arith) in
      let grants = table_same 10 32 grants_offset b grant_of (omega arith) grant_bytes grant_long D (directories_offset - grant_start m) directories_offset (omega arith) (omega arith) (omega arith) in
      let pairs = table_same 2 28 pairs_offset b pair_of (omega arith) pair_bytes pair_long G (grants_offset - pair_start n) grants_offset (omega arith) (omega arith) (omega arith) in
      let sessions = all_same 1 sessions_offset b (λ s. session_of (get_or s 0 0)) (λ z. session_byte z ∷ []) session_long P 16 pairs_offset refl (omega arith) in
      let slots = all_same slot_width 0 b slot_of slot_bytes slot_long Z 16 sessions_offset refl (omega arith) in
      ap (λ (l : List ℕ). same_text l b) (header_with R e)
      ∙ slots
      ∙ ap (λ (t : Bool). slots_same && t) (sessions
      ∙ ap (λ (t : Bool). sessions_same && t) (pairs
      ∙ ap (λ (t : Bool). pairs_same && (pairs_zero && t)) (grants
      ∙ ap (λ (t : Bool). grants_same && (grants_zero && t)) (directories
      ∙ ap (λ (t : Bool). directories_same && t) last))))

  -- the parts together are the header
  pub header_test_is : header_test b ≡ is_header b
  unfolding header_test is_header has_slots has_pairs has_grants pairs_zero grants_zero
  header_test_is =
      let n = get_or b pairs_offset 0 in
      let m = get_or b grants_offset 0 in
      let same = same_text (header_bytes u (registry_of b)) b in
      let setup = ap (λ (t : Bool). t && same) setup_is in
      case (leb n 28)
      (λ p. case (leb m 32)
      (λ g. sym (setup
      ∙ ap (λ (t : Bool). ((eqb (get_or b 0 0) 0 && every is_slot u.persons) && ((leb n 28 && every is_pair u.pairs) && (leb m 32 && every (is_grant u) u.grants))) && t) (same_header (replicate spare_width 0) refl (leb-true n 28 p) (leb-true m 32 g))
      ∙ parts_shuffled (eqb (get_or b 0 0) 0) (every is_slot u.persons) slots_same sessions_same (leb n 28) (every is_pair u.pairs) pairs_same pairs_zero (leb m 32) (every (is_grant u) u.grants) grants_same grants_zero (directories_same && zeros_at spare_offset spare_width b)
      ∙ rw (slots_are, sessions_are, pairs_are (leb-true n 28 p), grants_are (leb-true m 32 g), directories_are)))
      (λ g. simp (g, and-false) (sym (setup ∙ simp (g, and-false)))))
      (λ p. simp (p, and-false) (sym (setup ∙ simp (p, and-false))))
