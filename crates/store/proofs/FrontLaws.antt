-- The front of a header, which is there before any working directory: setup and sessions. It always takes as many bytes, both are
-- read back from it, whatever stands behind, and a session's byte stored in it makes that of the sessions with it.
use Rattle.std.specs.Prelude.{◌≡◌, List, [], ◌∷◌, ◌++◌, Bool, true, false, ◌&&◌, ◌||◌, ℕ, zero, suc, ◌+◌, ◌≤◌, ◌<◌, ◌%◌, eqb, leb, ltb, length, get_or, set, drop}
use Rattle.std.proofs.Math.Path.{refl}
use Rattle.std.proofs.Common.{sym, ◌∙◌, ap, append_assoc, append-nil, arith, zero-add, suc-add, length-append, get_or-append-add, ne_eqb, leb-true}
use Rattle.std.proofs.Math.Option.{Option, none, some}
use Rattle.std.proofs.Math.Bool.{Bool-set}
use Rattle.std.proofs.Math.ListN.{get_or-append}
use Rattle.std.proofs.Math.Seq.{paste, drop_at}
use Rattle.std.proofs.lemmas.List.{set-append_left}
use Rattle.buffers.specs.Cases.{and_both, contra}
use Rattle.buffers.specs.Text.{every, lacks}
use Rattle.buffers.specs.Fields.{two_bytes, number_at, padded, text_at, all_bytes, all_from, table_bytes, table_from}
use Rattle.buffers.specs.FieldsLaws.{length_two_bytes, number_at_bytes, length_padded, text_at_padded}
use Rattle.buffers.specs.TableLaws.{length_all_bytes, length_table, all_from_bytes, table_from_bytes}
use Rattle.accounts.specs.Access.{is_root}
use Rattle.accounts.specs.Dominance.{BoundedRole}
use Rattle.accounts.specs.PairBytes.{pair_bytes, pair_of}
use Rattle.accounts.proofs.PairBytesLaws.{length_pair, pair_back}
use Rattle.syntax.specs.Path.{is_name}
use Rattle.syntax.proofs.PathLaws.{name_fits}
use Rattle.syntax.specs.Field.{bounded, bounded_by}
use Rattle.syntax.specs.Form.{is_some}
use Rattle.setup.specs.Setup.{Person, Grant, Setup, accounts, most_pairs, most_grants, person, is_person, is_slot, is_pair, is_grant, is_setup}
use Rattle.setup.proofs.SetupLaws.{apart}
use Rattle.store.specs.HeaderLayout.{sessions_offset, pair_width, grant_width, grants_offset, grants_width, pairs_offset, pairs_width, directories_offset}
use Rattle.store.specs.State.{Sessions}
use Rattle.store.specs.StoreBytes.{slot_bytes, slot_of, session_byte, session_of, grant_bytes, grant_of, front_bytes, setup_of, sessions_of}
use Rattle.store.proofs.ValuesLaws.{paste_behind}

-- ---- one value

person_number : (p : Person) → is_person p ≡ true → eqb p.primary.0 0 ≡ false
unfolding is_person
person_number p h =
    let i = and_both (leb 1 p.primary.0 && leb p.primary.0 15) (ltb p.further.0 65536 && eqb (p.further.0 % 2) 0) h in
    let j = leb-true 1 p.primary.0 (and_both (leb 1 p.primary.0) (leb p.primary.0 15) i.0).0 in
    ne_eqb p.primary.0 0 (λ e. omega arith)

-- an account takes 3 bytes
pub length_slot : (o : Option Person) → is_slot o ≡ true → length (slot_bytes o) ≡ 3
unfolding slot_bytes
length_slot none h = refl
length_slot (some p) h = rw (length_two_bytes p.further.0)

slot_back : (o : Option Person) → is_slot o ≡ true → slot_of (slot_bytes o) ≡ o
unfolding slot_bytes slot_of is_slot
slot_back none h = refl
slot_back (some p) h =
    let n : number_at 1 (p.primary.0 ∷ two_bytes p.further.0) ≡ p.further.0 =
    rw append-nil at (number_at_bytes (p.primary.0 ∷ []) [] 1 p.further.0 refl) in
    rw (person_number p h) (λ i. some (record { primary = p.primary; further = record { 0 = n i } }))

bounded_back : (z : BoundedRole) (small : Bool) (e : ltb z.role.0 8 ≡ small) → bounded_by z.role.0 small e ≡ some z
unfolding bounded_by
bounded_back z true e = λ i. some (record { role = z.role; bound = Bool-set (ltb z.role.0 8) true e z.bound i })
bounded_back z false e = contra z.bound e

session_back : (z : Option BoundedRole) → session_of (session_byte z) ≡ z
unfolding session_byte session_of bounded
session_back none = refl
session_back (some z) = bounded_back z (ltb z.role.0 8) refl

-- a session's byte as a field, and the test that every session passes
one_session : Option BoundedRole → List ℕ
one_session z = session_byte z ∷ []

any_session : Option BoundedRole → Bool
any_session z = true

every_session : (z : Sessions) → every any_session z ≡ true
unfolding every any_session
every_session [] = refl
every_session (a ∷ z) = every_session z

length_session : (z : Option BoundedRole) → any_session z ≡ true → length (one_session z) ≡ 1
unfolding one_session
length_session z t = refl

-- a password fits its field, and has no zero
pub grant_password : (u : Setup) (g : Grant) → is_grant u g ≡ true → (length g.password ≤ 8) × (lacks 0 g.password ≡ true)
unfolding is_grant
grant_password u g h =
    let i = and_both (is_root g.uid || is_some (person u g.uid)) (ltb g.role.0 8 && is_name g.password) h in
    name_fits g.password (and_both (ltb g.role.0 8) (is_name g.password) i.1).1

-- a grant takes 10
pub length_grant : (u : Setup) (g : Grant) → is_grant u g ≡ true → length (grant_bytes g) ≡ 10
unfolding grant_bytes
length_grant u g h = rw (length_padded 8 g.password (grant_password u g h).0)

grant_back : (u : Setup) (g : Grant) → is_grant u g ≡ true → grant_of (grant_bytes g) ≡ g
unfolding grant_bytes grant_of
grant_back u g h =
    let f = grant_password u g h in
    let t : text_at 2 8 (g.uid.0 ∷ g.role.0 ∷ padded 8 g.password) ≡ g.password =
    rw append-nil at (text_at_padded (g.uid.0 ∷ g.role.0 ∷ []) [] 2 8 g.password refl f.0 f.1) in
    λ i. record { uid = g.uid; role = g.role; password = t i }

-- ---- the parts of the front

-- what follows the first parts of known lengths
past_two : (S Z Q : List ℕ) (k l n : ℕ) → length S ≡ k → length Z ≡ l → k + l ≡ n → drop n (S ++ (Z ++ Q)) ≡ Q
past_two S Z Q k l n s z e = rw (← append_assoc S Z Q) (drop_at (S ++ Z) Q n (length-append S Z ∙ omega arith))

past_three : (S Z P Q : List ℕ) (k l m n : ℕ) → length S ≡ k → length Z ≡ l → length P ≡ m → k + l + m ≡ n → drop n (S ++ (Z ++ (P ++ Q))) ≡ Q
past_three S Z P Q k l m n s z p e = rw (← append_assoc S Z (P ++ Q)) (past_two (S ++ Z) P Q (k + l) m n (length-append S Z ∙ omega arith) p e)

appended : (S Z P G R B : List ℕ) → (S ++ (Z ++ (P ++ (G ++ R)))) ++ B ≡ S ++ (Z ++ (P ++ (G ++ (R ++ B))))
appended S Z P G R B = rw (append_assoc S (Z ++ (P ++ (G ++ R))) B, append_assoc Z (P ++ (G ++ R)) B, append_assoc P (G ++ R) B, append_assoc G R B)

grouped : (S Z P G R : List ℕ) → S ++ (Z ++ (P ++ (G ++ R))) ≡ (S ++ (Z ++ (P ++ G))) ++ R
grouped S Z P G R = rw (append_assoc S (Z ++ (P ++ G)) R, append_assoc Z (P ++ G) R, append_assoc P G R)

length_four : (S Z P G : List ℕ) → length (S ++ (Z ++ (P ++ G))) ≡ length S + (length Z + (length P + length G))
length_four S Z P G = rw (length-append S (Z ++ (P ++ G)), length-append Z (P ++ G), length-append P G)

slots_part : Setup → List ℕ
slots_part u = all_bytes slot_bytes u.persons

sessions_part : Sessions → List ℕ
sessions_part z = all_bytes one_session z

pairs_part : Setup → List ℕ
pairs_part u = table_bytes 2 most_pairs pair_bytes u.pairs

grants_part : Setup → List ℕ
grants_part u = table_bytes 10 most_grants grant_bytes u.grants

front_parts : (u : Setup) (z : Sessions) (R : List ℕ) → front_bytes u z R ≡ slots_part u ++ (sessions_part z ++ (pairs_part u ++ (grants_part u ++ R)))
unfolding front_bytes slots_part sessions_part pairs_part grants_part one_session
front_parts u z R = refl

-- bytes behind what stands behind the front
pub front_before : (u : Setup) (z : Sessions) (R B : List ℕ) → front_bytes u z R ++ B ≡ front_bytes u z (R ++ B)
front_before u z R B =
    ap (λ (l : List ℕ). l ++ B) (front_parts u z R)
    ∙ appended (slots_part u) (sessions_part z) (pairs_part u) (grants_part u) R B
    ∙ sym (front_parts u z (R ++ B))

length_slots : (u : Setup) → is_setup u ≡ true → length (slots_part u) ≡ sessions_offset
unfolding slots_part
length_slots u h = let r = apart u h in length_all_bytes 3 is_slot slot_bytes length_slot u.persons r.slots ∙ omega (arith, r.count)

length_sessions : (z : Sessions) → length z ≡ 16 → length (sessions_part z) ≡ 16
unfolding sessions_part
length_sessions z e = length_all_bytes 1 any_session one_session length_session z (every_session z) ∙ omega arith

length_pairs : (u : Setup) → is_setup u ≡ true → length (pairs_part u) ≡ pairs_width
unfolding pairs_part most_pairs
length_pairs u h = let r = apart u h in length_table 2 is_pair pair_bytes (λ p h. length_pair p) 28 u.pairs r.all_pairs r.few_pairs

length_grants : (u : Setup) → is_setup u ≡ true → length (grants_part u) ≡ grants_width
unfolding grants_part most_grants
length_grants u h = let r = apart u h in length_table 10 (is_grant u) grant_bytes (length_grant u) 32 u.grants r.all_grants r.few_grants

-- the widths of these parts, of a setup in range
pub record PartWidths (u : Setup) : Type 0 where
  pub slots : length (all_bytes slot_bytes u.persons) ≡ sessions_offset
  pub pairs : length (table_bytes pair_width most_pairs pair_bytes u.pairs) ≡ pairs_width
  pub grants : length (table_bytes grant_width most_grants grant_bytes u.grants) ≡ grants_width

pub part_widths : (u : Setup) → is_setup u ≡ true → PartWidths u
unfolding slots_part pairs_part grants_part
part_widths u h = record { slots = length_slots u h; pairs = length_pairs u h; grants = length_grants u h }

persons_back : (u : Setup) (Q : List ℕ) → is_setup u ≡ true → all_from 3 slot_of accounts (slots_part u ++ Q) ≡ u.persons
unfolding slots_part accounts
persons_back u Q h =
    let r = apart u h in
    ap (λ k. all_from 3 slot_of k (slots_part u ++ Q)) (sym r.count)
    ∙ all_from_bytes 3 is_slot slot_bytes length_slot slot_of slot_back u.persons Q r.slots

pairs_back : (u : Setup) (Q : List ℕ) → is_setup u ≡ true → table_from 2 pair_of (pairs_part u ++ Q) ≡ u.pairs
unfolding pairs_part
pairs_back u Q h = table_from_bytes 2 is_pair pair_bytes (λ p h. length_pair p) pair_of (λ p h. pair_back p) most_pairs u.pairs Q (apart u h).all_pairs

grants_back : (u : Setup) (Q : List ℕ) → is_setup u ≡ true → table_from 10 grant_of (grants_part u ++ Q) ≡ u.grants
unfolding grants_part
grants_back u Q h =
    table_from_bytes 10 (is_grant u) grant_bytes (length_grant u) grant_of (grant_back u) most_grants u.grants Q (apart u h).all_grants

-- ---- a front and what stands behind it

module _ (u : Setup) (z : Sessions) (h : is_setup u ≡ true) (e : length z ≡ 16) where
  front : List ℕ
  front = slots_part u ++ (sessions_part z ++ (pairs_part u ++ grants_part u))

  length_front_alone : length front ≡ directories_offset
  unfolding front
  length_front_alone =
      length_four (slots_part u) (sessions_part z) (pairs_part u) (grants_part u)
      ∙ omega (arith, length_slots u h, length_sessions z e, length_pairs u h, length_grants u h)

  front_and : (R : List ℕ) → front_bytes u z R ≡ front ++ R
  unfolding front
  front_and R = front_parts u z R ∙ grouped (slots_part u) (sessions_part z) (pairs_part u) (grants_part u) R

  -- the front always takes as many bytes
  pub length_front : (R : List ℕ) → length (front_bytes u z R) ≡ directories_offset + length R
  length_front R = ap length (front_and R) ∙ length-append front R ∙ omega (arith, length_front_alone)

  -- so what stands behind it begins there
  pub behind_front : (R : List ℕ) → drop directories_offset (front_bytes u z R) ≡ R
  behind_front R = ap (drop directories_offset) (front_and R) ∙ drop_at front R directories_offset length_front_alone

  -- and what is written from there on is written behind it
  pub paste_behind_front : (R x : List ℕ) (i n : ℕ) → paste (front_bytes u z R) (directories_offset + i) x n ≡ front_bytes u z (paste R i x n)
  paste_behind_front R x i n =
      ap (λ (l : List ℕ). paste l (directories_offset + i) x n) (front_and R)
      ∙ paste_behind front R x directories_offset i n length_front_alone
      ∙ sym (front_and (paste R i x n))

  -- the setup is read back
  pub setup_of_front : (R : List ℕ) → setup_of (front_bytes u z R) ≡ u
  unfolding setup_of
  setup_of_front R =
      let S = slots_part u in
      let Z = sessions_part z in
      let P = pairs_part u in
      let G = grants_part u ++ R in
      let s = length_slots u h in
      let w = length_sessions z e in
      rw (
        front_parts u z R,
        past_two S Z (P ++ G) sessions_offset 16 pairs_offset s w refl,
        past_three S Z P G sessions_offset 16 pairs_width grants_offset s w (length_pairs u h) refl,
        persons_back u (Z ++ (P ++ G)) h,
        pairs_back u G h,
        grants_back u R h,
      )

  -- and so are the sessions
  pub sessions_of_front : (R : List ℕ) → sessions_of (front_bytes u z R) ≡ z
  unfolding sessions_of sessions_part one_session accounts
  sessions_of_front R =
      let Q = pairs_part u ++ (grants_part u ++ R) in
      rw (front_parts u z R, drop_at (slots_part u) (sessions_part z ++ Q) sessions_offset (length_slots u h), ← e)
      (all_from_bytes 1 any_session one_session length_session (λ s. session_of (get_or s 0 0)) (λ a t. session_back a) z Q (every_session z))

-- ---- one session

-- a byte stored behind the first part
set_append_add : (S Q : List ℕ) (i v : ℕ) → set (S ++ Q) (length S + i) v ≡ S ++ set Q i v
set_append_add [] Q i v = rw (zero-add i)
set_append_add (s ∷ S) Q i v = rw (suc-add (length S) i) (ap (λ (l : List ℕ). s ∷ l) (set_append_add S Q i v))

-- the sessions' bytes one by one
session_in_part : (z : Sessions) (i : ℕ) → get_or (sessions_part z) i 0 ≡ session_byte (get_or z i none)
unfolding sessions_part one_session all_bytes session_byte
session_in_part [] i = refl
session_in_part (a ∷ z) zero = refl
session_in_part (a ∷ z) (suc i) = session_in_part z i

set_in_part : (z : Sessions) (i : ℕ) (o : Option BoundedRole) → set (sessions_part z) i (session_byte o) ≡ sessions_part (set z i o)
unfolding sessions_part one_session all_bytes
set_in_part [] i o = refl
set_in_part (a ∷ z) zero o = refl
set_in_part (a ∷ z) (suc i) o = ap (λ (l : List ℕ). session_byte a ∷ l) (set_in_part z i o)

module _ (u : Setup) (z : Sessions) (h : is_setup u ≡ true) (e : length z ≡ 16) (R : List ℕ) (i : ℕ) (l : i < 16) where
  -- the byte of an account's session
  pub session_in_front : get_or (front_bytes u z R) (sessions_offset + i) 0 ≡ session_byte (get_or z i none)
  session_in_front =
      let S = slots_part u in
      let Z = sessions_part z in
      let Q = pairs_part u ++ (grants_part u ++ R) in
      let k : sessions_offset + i ≡ length S + i = omega (arith, length_slots u h) in
      rw (front_parts u z R, k, get_or-append-add S (Z ++ Q) i 0, get_or-append Z Q 0 i (omega (arith, length_sessions z e))) (session_in_part z i)

  -- stored there, a session's byte makes the front of the sessions with it
  pub front_with_session : (o : Option BoundedRole) → set (front_bytes u z R) (sessions_offset + i) (session_byte o) ≡ front_bytes u (set z i o) R
  front_with_session o =
      let S = slots_part u in
      let Z = sessions_part z in
      let Q = pairs_part u ++ (grants_part u ++ R) in
      let k : sessions_offset + i ≡ length S + i = omega (arith, length_slots u h) in
      rw (
        front_parts u z R,
        k,
        set_append_add S (Z ++ Q) i (session_byte o),
        set-append_left Z Q i (session_byte o) (omega (arith, length_sessions z e)),
        set_in_part z i o,
        front_parts u (set z i o) R,
      )
