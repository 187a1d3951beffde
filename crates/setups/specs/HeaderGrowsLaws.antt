-- What becomes of a header's bytes when an account's slot is written, or a value behind those of a table.
use Rattle.std.specs.Prelude.{◌≡◌, refl, true, ℕ, suc, ◌+◌, ◌-◌, ◌*◌, ◌≤◌, ◌<◌, set}
use Rattle.std.proofs.Common.{sym, ◌∙◌, ap₂, add-one, suc-mul, add_comm}
use Rattle.std.proofs.Math.Path.{ap}
use mathlib.Core.List.{List, [], ◌∷◌, ◌++◌, append_assoc, append-nil}
use Rattle.std.proofs.Math.Option.{Option, none}
use native.Mathlib.Omega.{arith}
use Rattle.std.proofs.Math.ListN.{length, replicate, length-append}
use Rattle.std.proofs.lemmas.List.{length-replicate}
use Rattle.std.proofs.Math.Seq.{paste}
use Rattle.buffers.specs.Fields.{all_bytes, table_bytes}
use Rattle.buffers.specs.TableLaws.{zeros_join, all_bytes_append, length_all_bytes}
use Rattle.buffers.specs.PasteLaws.{paste_piece}
use Rattle.buffers.specs.FieldsLaws.{length_padded}
use Rattle.accounts.specs.declared.Pair.{Pair}
use Rattle.accounts.specs.PairBytes.{pair_bytes}
use Rattle.accounts.proofs.PairBytesLaws.{length_pair as pair_wide}
use Rattle.setup.specs.Setup.{Person, Grant, Setup, accounts, most_pairs, most_grants, with_pair, with_grant, is_slot, is_pair, is_grant, is_setup}
use Rattle.setup.proofs.SetupLaws.{apart}
use Rattle.store.specs.HeaderLayout.{directories_width, spare_width, pairs_offset, pair_width, grants_offset, grant_width, pair_start, grant_start}
use Rattle.store.specs.Initial.{no_sessions}
use Rattle.store.specs.StoreBytes.{slot_bytes, session_byte, grant_bytes, front_bytes}
use Rattle.store.specs.SetupHeader.{setup_header}
use Rattle.store.proofs.ValuesLaws.{value_replaced}
use Rattle.store.proofs.FrontLaws.{length_slot, length_grant, part_widths}

-- ---- tables

-- one value more
pub one_more : {A : Type 0} (f : A → List ℕ) (l : List A) (x : A) → all_bytes f (l ++ (x ∷ [])) ≡ all_bytes f l ++ f x
unfolding all_bytes
one_more f l x = all_bytes_append f l (x ∷ []) ∙ ap (λ (r : List ℕ). all_bytes f l ++ r) (append-nil (f x))

-- how the bytes before, in and behind a table may be grouped
room_left : (P B O Z Q : List ℕ) (n : ℕ) → P ++ ((n ∷ (B ++ (O ++ Z))) ++ Q) ≡ (P ++ (n ∷ B)) ++ (O ++ (Z ++ Q))
room_left P B O Z Q n =
    ap (λ (y : List ℕ). P ++ (n ∷ y)) (append_assoc B (O ++ Z) Q ∙ ap (λ (y : List ℕ). B ++ y) (append_assoc O Z Q)) ∙ sym (append_assoc P (n ∷ B) (O ++ (Z ++ Q)))

room_taken : (P B F Z Q : List ℕ) (m : ℕ) → P ++ ((m ∷ []) ++ (B ++ (F ++ (Z ++ Q)))) ≡ P ++ ((m ∷ ((B ++ F) ++ Z)) ++ Q)
room_taken P B F Z Q m = ap (λ (y : List ℕ). P ++ (m ∷ y)) (sym (append_assoc (B ++ F) Z Q ∙ append_assoc B F (Z ++ Q)))

less : (most n : ℕ) → n < most → most - n ≡ suc (most - suc n)
less most n h = omega arith

-- a value written behind the others, and then how many there are
pub table_grows : {A : Type 0} (w most : ℕ) (f : A → List ℕ) (l : List A) (x : A) (P Q : List ℕ) (at : ℕ) →
    length P ≡ at → length (all_bytes f l) ≡ w * length l → length (f x) ≡ w → length l < most →
    paste (paste (P ++ (table_bytes w most f l ++ Q)) (at + 1 + w * length l) (f x) w) at (suc (length l) ∷ []) 1 ≡ P ++ (table_bytes w most f (l ++ (x ∷ [])) ++ Q)
unfolding table_bytes
table_grows w most f l x P Q at p b k few =
    let n = length l in
    let B = all_bytes f l in
    let m = (most - suc n) * w in
    let Z : List ℕ = replicate m 0 in
    let O : List ℕ = replicate w 0 in
    let zeros : (most - n) * w ≡ w + m = ap (λ (j : ℕ). j * w) (less most n few) ∙ suc-mul (most - suc n) w ∙ add_comm ((most - suc n) * w) w in
    let counted : length (l ++ (x ∷ [])) ≡ suc n = length-append l (x ∷ []) ∙ add-one n in
    let split : replicate {A = ℕ} ((most - n) * w) 0 ≡ O ++ Z = ap (λ (j : ℕ). replicate {A = ℕ} j 0) zeros ∙ zeros_join w m in
    let whole = ap (λ (y : List ℕ). P ++ ((n ∷ (B ++ y)) ++ Q)) split ∙ room_left P B O Z Q n in
    let front : length (P ++ (n ∷ B)) ≡ at + 1 + w * n = length-append P (n ∷ B) ∙ omega (arith, p, b) in
    ap (λ (y : List ℕ). paste (paste y (at + 1 + w * n) (f x) w) at (suc n ∷ []) 1) whole
    ∙ ap (λ (y : List ℕ). paste y at (suc n ∷ []) 1) (paste_piece (P ++ (n ∷ B)) (Z ++ Q) O (f x) (at + 1 + w * n) w front (length-replicate w 0) k ∙ append_assoc P (n ∷ B) (f x ++ (Z ++ Q)))
    ∙ paste_piece P (B ++ (f x ++ (Z ++ Q))) (n ∷ []) (suc n ∷ []) at 1 p refl refl
    ∙ room_taken P B (f x) Z Q (suc n)
    ∙ ap₂ (λ (c : ℕ) (y : List ℕ). P ++ ((c ∷ (y ++ replicate ((most - c) * w) 0)) ++ Q)) (sym counted) (sym (one_more f l x))

-- ---- the header

grant_width_of : (g : Grant) → length g.password ≤ 8 → length (grant_bytes g) ≡ 10
unfolding grant_bytes
grant_width_of g short = ap (λ (n : ℕ). suc (suc n)) (length_padded 8 g.password short)

length_pair : (p : Pair) → is_pair p ≡ true → length (pair_bytes p) ≡ 2
length_pair p h = pair_wide p

-- the sessions before any login
no_roles : List ℕ
no_roles = all_bytes (λ z. session_byte z ∷ []) no_sessions

length_no_roles : length no_roles ≡ 16
unfolding no_roles all_bytes no_sessions accounts session_byte
length_no_roles = refl

module _ (u : Setup) (h : is_setup u ≡ true) where
  abbrev slots : List ℕ
  slots = all_bytes slot_bytes u.persons

  -- a slot is written over another
  pub slot_written : (v : ℕ) (o : Option Person) → v < 16 → is_slot o ≡ true →
      paste (setup_header u) (3 * v) (slot_bytes o) 3 ≡ setup_header (record { persons = set u.persons v o; pairs = u.pairs; grants = u.grants })
  unfolding setup_header front_bytes
  slot_written v o k e =
      let r = apart u h in
      value_replaced 3 is_slot slot_bytes length_slot u.persons v o none _ r.slots (length_slot o e) (omega (arith, r.count))

  long_front : length (slots ++ no_roles) ≡ pairs_offset
  long_front = length-append slots no_roles ∙ omega (arith, (part_widths u h).slots, length_no_roles)

  -- a pair behind the others
  pub pair_written : (p : Pair) → length u.pairs < 28 →
      paste (paste (setup_header u) (pair_start (length u.pairs)) (pair_bytes p) pair_width) pairs_offset (suc (length u.pairs) ∷ []) 1 ≡ setup_header (with_pair p u)
  unfolding setup_header front_bytes with_pair no_roles most_pairs
  pair_written p few =
      let G = table_bytes 10 most_grants grant_bytes u.grants ++ replicate (directories_width + spare_width) 0 in
      let wide : length (all_bytes pair_bytes u.pairs) ≡ 2 * length u.pairs =
      length_all_bytes 2 is_pair pair_bytes length_pair u.pairs (apart u h).all_pairs ∙ omega arith in
      ap (λ (y : List ℕ). paste (paste y (pair_start (length u.pairs)) (pair_bytes p) pair_width) pairs_offset (suc (length u.pairs) ∷ []) 1) (sym (append_assoc slots no_roles _))
      ∙ table_grows pair_width 28 pair_bytes u.pairs p (slots ++ no_roles) G pairs_offset long_front wide (pair_wide p) few
      ∙ append_assoc slots no_roles _

  -- a grant behind the others
  pub grant_written : (g : Grant) → length g.password ≤ 8 → length u.grants < 32 →
      paste (paste (setup_header u) (grant_start (length u.grants)) (grant_bytes g) grant_width) grants_offset (suc (length u.grants) ∷ []) 1 ≡ setup_header (with_grant g u)
  unfolding setup_header front_bytes with_grant no_roles most_grants
  grant_written g short few =
      let T = table_bytes 2 most_pairs pair_bytes u.pairs in
      let F = (slots ++ no_roles) ++ T in
      let n = length u.grants in
      let front : length F ≡ grants_offset = length-append (slots ++ no_roles) T ∙ omega (arith, long_front, (part_widths u h).pairs) in
      let wide : length (all_bytes grant_bytes u.grants) ≡ 10 * n =
      length_all_bytes 10 (is_grant u) grant_bytes (length_grant u) u.grants (apart u h).all_grants ∙ omega arith in
      let parts : (X : List ℕ) → F ++ X ≡ slots ++ (no_roles ++ (T ++ X)) = λ X. append_assoc (slots ++ no_roles) T X ∙ append_assoc slots no_roles (T ++ X) in
      ap (λ (y : List ℕ). paste (paste y (grant_start n) (grant_bytes g) grant_width) grants_offset (suc n ∷ []) 1) (sym (parts _))
      ∙ table_grows grant_width 32 grant_bytes u.grants g F (replicate (directories_width + spare_width) 0) grants_offset front wide (grant_width_of g short) few
      ∙ parts _
