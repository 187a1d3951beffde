-- An accepted setup is in range: every line that fits keeps what has been read in range, from a setup of nothing on.
use Rattle.std.specs.Prelude.{◌≡◌, refl, List, [], ◌∷◌, Bool, true, false, ◌&&◌, ◌||◌, not, ℕ, zero, suc, ◌%◌, ◌^◌, ◌≤◌, ◌<◌, eqb, leb, ltb, length, get_or, set}
use Rattle.std.proofs.Common.{sym, ap, ◌∙◌, arith, pow-suc, eqb-true, eq-eqb, ltb-true, lt-ltb, leb-true, le-leb, length-set, length-append, get_or-set_same, get_or-set_other}
use Rattle.std.proofs.Math.Option.{Option, none, some}
use Rattle.std.proofs.lemmas.Bool.{eqb-false, not-true}
use Rattle.std.specs.Int.Bits.{bit_or, or_step}
use Rattle.std.proofs.lemmas.Nat.{or_lt}
use Rattle.std.proofs.Math.Pow.{pow-lt}
use Rattle.buffers.specs.Cases.{case, and_both, contra}
use Rattle.buffers.specs.Text.{Text, same_text, every}
use Rattle.buffers.specs.TextLaws.{every_implies, every_append, every_get_or, every_set}
use Rattle.accounts.specs.declared.Uid.{Uid}
use Rattle.accounts.specs.declared.Gid.{Gid}
use Rattle.accounts.specs.declared.Role.{Role}
use Rattle.accounts.specs.declared.Pair.{Pair}
use Rattle.accounts.specs.Groups.{no_groups}
use Rattle.accounts.proofs.GroupsLaws.{no_groups_is, with_group_is}
use Rattle.accounts.specs.Access.{is_root}
use Rattle.accounts.specs.Dominance.{falls, all_fall}
use Rattle.accounts.proofs.DominanceLaws.{all_fall_every}
use Rattle.syntax.specs.Pieces.{bytes, comma, newline, pieces}
use Rattle.syntax.specs.Form.{◌>>=◌, ◌>>◌, check, is_some}
use Rattle.syntax.proofs.FormLaws.{no_answer, both_read, checked, answered, both, AnswersPass, two_gives, three_gives, FormsGive, no_form, ◌also◌, by_form_gives}
use Rattle.syntax.specs.Path.{is_name}
use Rattle.syntax.proofs.FieldLaws.{number_gives, within_bound, password_gives}
use Rattle.lines.specs.SetupLines.{longest_line, LineOfSetup, p_line, g_line, r_line, l_line, person_uid, person_or_root, person_gid, plain_role, setup_form, setup_forms, setup_line_of, setup_line}
use Rattle.setup.specs.Setup.{Person, Grant, Setup, accounts, most_pairs, most_grants, person, Reading, with_person, with_pair, with_grant, joining, accept, no_setup, SetupAnswer, accepted, wrong_line, stops, continue, read_lines, setup, is_person, is_slot, is_pair, is_grant, is_setup}

-- a number of a person or a person's group
unfoldable pub one_to_15 : ℕ → Bool
one_to_15 n = leb 1 n && leb n 15

-- what a line read by its form has
in_range : LineOfSetup → Bool
in_range (p_line u g) = one_to_15 u.0 && one_to_15 g.0
in_range (g_line u g) = one_to_15 u.0 && one_to_15 g.0
in_range (r_line senior junior) = ltb junior.0 8
in_range (l_line u r w) = ltb u.0 16 && (ltb r.0 8 && is_name w)

person_uid_gives : AnswersPass person_uid (λ u. one_to_15 u.0)
unfolding person_uid one_to_15
person_uid_gives = number_gives (λ u. one_to_15 u.0) 1 15 (λ n. record { 0 = n }) (λ n h. h)

person_gid_gives : AnswersPass person_gid (λ g. one_to_15 g.0)
unfolding person_gid one_to_15
person_gid_gives = number_gives (λ g. one_to_15 g.0) 1 15 (λ n. record { 0 = n }) (λ n h. h)

person_or_root_gives : AnswersPass person_or_root (λ u. ltb u.0 16)
unfolding person_or_root
person_or_root_gives = number_gives (λ u. ltb u.0 16) 0 15 (λ n. record { 0 = n }) (within_bound 0 15)

plain_role_gives : AnswersPass plain_role (λ r. ltb r.0 8)
unfolding plain_role
plain_role_gives = number_gives (λ r. ltb r.0 8) 0 7 (λ n. record { 0 = n }) (within_bound 0 7)

forms_give : FormsGive in_range setup_forms
unfolding setup_forms setup_form in_range
forms_give =
    two_gives in_range person_uid_gives person_gid_gives (λ u g. both) also
    two_gives in_range person_uid_gives person_gid_gives (λ u g. both) also
    two_gives in_range plain_role_gives plain_role_gives (λ s j h k. k) also
    three_gives in_range person_or_root_gives plain_role_gives password_gives (λ u r w h k l. both h (both k l)) also
    no_form

line_of_gives : AnswersPass setup_line_of in_range
unfolding setup_line_of
line_of_gives [] l e = no_answer e
line_of_gives (w ∷ arguments) l e = by_form_gives in_range forms_give w arguments l e

line_gives : AnswersPass setup_line in_range
unfolding setup_line
line_gives t l e = line_of_gives (pieces comma t) l (checked (leb (length t) longest_line) (setup_line_of (pieces comma t)) l e).1

-- the numbers of a line's account and group
one_to_15_range : (n : ℕ) → one_to_15 n ≡ true → (0 < n) × (n < 16)
unfolding one_to_15
one_to_15_range n h = let i : _ = and_both (leb 1 n) (leb n 15) h in (omega (arith, leb-true 1 n i.0), omega (arith, leb-true n 15 i.1))

both_range : (u : Uid) (g : Gid) → (one_to_15 u.0 && one_to_15 g.0) ≡ true → (u.0 < 16) × ((0 < g.0) × (g.0 < 16))
both_range u g h =
    let i : _ = and_both (one_to_15 u.0) (one_to_15 g.0) h in
    ((one_to_15_range u.0 i.0).1, one_to_15_range g.0 i.1)

pub p_range : (t : Text) (u : Uid) (g : Gid) → setup_line t ≡ some (p_line u g) → (u.0 < 16) × ((0 < g.0) × (g.0 < 16))
unfolding in_range
p_range t u g e = both_range u g (line_gives t (p_line u g) e)

pub g_range : (t : Text) (u : Uid) (g : Gid) → setup_line t ≡ some (g_line u g) → (u.0 < 16) × ((0 < g.0) × (g.0 < 16))
unfolding in_range
g_range t u g e = both_range u g (line_gives t (g_line u g) e)

pub l_range : (t : Text) (u : Uid) (r : Role) (w : Text) → setup_line t ≡ some (l_line u r w) → u.0 < 16
unfolding in_range
l_range t u r w e = ltb-true u.0 16 (and_both (ltb u.0 16) _ (line_gives t (l_line u r w) e)).0

-- the parts of a setup in range
pub record SetupRanges (s : Setup) : Type 0 where
  pub count : length s.persons ≡ 16
  pub zeroth : is_some (get_or s.persons 0 none) ≡ false
  pub slots : every is_slot s.persons ≡ true
  pub few_pairs : length s.pairs ≤ 28
  pub all_pairs : every is_pair s.pairs ≡ true
  pub few_grants : length s.grants ≤ 32
  pub all_grants : every (is_grant s) s.grants ≡ true

-- a setup in range has them
pub apart : (s : Setup) → is_setup s ≡ true → SetupRanges s
unfolding is_setup accounts most_pairs most_grants
apart s h =
    let a : _ = and_both (eqb (length s.persons) 16 && (not (is_some (get_or s.persons 0 none)) && every is_slot s.persons)) _ h in
    let b : _ = and_both (eqb (length s.persons) 16) _ a.0 in
    let c : _ = and_both (not (is_some (get_or s.persons 0 none))) (every is_slot s.persons) b.1 in
    let d : _ = and_both (leb (length s.pairs) 28 && every is_pair s.pairs) _ a.1 in
    let e : _ = and_both (leb (length s.pairs) 28) (every is_pair s.pairs) d.0 in
    let f : _ = and_both (leb (length s.grants) 32) (every (is_grant s) s.grants) d.1 in
    record {
      count = eqb-true (length s.persons) 16 b.0;
      zeroth = not-true (is_some (get_or s.persons 0 none)) c.0;
      slots = c.1;
      few_pairs = leb-true (length s.pairs) 28 e.0;
      all_pairs = e.1;
      few_grants = leb-true (length s.grants) 32 f.0;
      all_grants = f.1;
    }

-- and with them it is in range
pub together : (s : Setup) → SetupRanges s → is_setup s ≡ true
unfolding is_setup accounts most_pairs most_grants
together s r = both (both (eq-eqb (length s.persons) 16 r.count) (both (ap not r.zeroth) r.slots))
    (both (both (le-leb (length s.pairs) 28 r.few_pairs) r.all_pairs) (both (le-leb (length s.grants) 32 r.few_grants) r.all_grants))

or_implies : (a b c : Bool) → (b ≡ true → c ≡ true) → (a || b) ≡ true → (a || c) ≡ true
or_implies true b c w h = refl
or_implies false b c w h = w h

-- who is a person stays one when a person is stored
somebody_stays : (l : List (Option Person)) (u v : ℕ) (p : Person) → u < length l → is_some (get_or l v none) ≡ true →
    is_some (get_or (set l u (some p)) v none) ≡ true
unfolding is_some
somebody_stays l u v p b k = case (eqb v u)
    (λ t. rw (eqb-true v u t, get_or-set_same l u (some p) none b))
    (λ t. rw (get_or-set_other l u v (some p) none (eqb-false v u t)) k)

-- and a grant stays one
still_granted : (u : Uid) (p : Person) (s : Setup) → u.0 < length s.persons → (g : Grant) → is_grant s g ≡ true →
    is_grant (with_person u p s) g ≡ true
unfolding is_grant with_person person
still_granted u p s l g h =
    let i : _ = and_both (is_root g.uid || is_some (get_or s.persons g.uid.0 none)) _ h in
    both (or_implies (is_root g.uid) _ _ (somebody_stays s.persons u.0 g.uid.0 p l) i.0) i.1

person_ranges : (u : Uid) (p : Person) (s : Setup) → one_to_15 u.0 ≡ true → is_person p ≡ true → SetupRanges s → SetupRanges (with_person u p s)
unfolding with_person is_slot one_to_15
person_ranges u p s h k r =
    let i : _ = and_both (leb 1 u.0) (leb u.0 15) h in
    let low : 1 ≤ u.0 = leb-true 1 u.0 i.0 in
    let high : u.0 < length s.persons = rw r.count (omega (arith, leb-true u.0 15 i.1)) in
    record {
      count = length-set s.persons u.0 (some p) ∙ r.count;
      zeroth = rw (get_or-set_other s.persons u.0 0 (some p) none (λ e. omega arith)) r.zeroth;
      slots = every_set is_slot s.persons u.0 (some p) r.slots k;
      few_pairs = r.few_pairs;
      all_pairs = r.all_pairs;
      few_grants = r.few_grants;
      all_grants = every_implies (is_grant s) (is_grant (with_person u p s)) (still_granted u p s high) s.grants r.all_grants;
    }

pair_ranges : (p : Pair) (s : Setup) → is_pair p ≡ true → length s.pairs < 28 → SetupRanges s → SetupRanges (with_pair p s)
unfolding with_pair every is_grant person
pair_ranges p s h l r =
    record {
      count = r.count;
      zeroth = r.zeroth;
      slots = r.slots;
      few_pairs = rw (length-append s.pairs (p ∷ [])) (omega arith);
      all_pairs = rw (every_append is_pair s.pairs (p ∷ []), r.all_pairs, h);
      few_grants = r.few_grants;
      all_grants = r.all_grants;
    }

grant_ranges : (g : Grant) (s : Setup) → is_grant s g ≡ true → length s.grants < 32 → SetupRanges s → SetupRanges (with_grant g s)
unfolding with_grant every is_grant person
grant_ranges g s h l r =
    record {
      count = r.count;
      zeroth = r.zeroth;
      slots = r.slots;
      few_pairs = r.few_pairs;
      all_pairs = r.all_pairs;
      few_grants = rw (length-append s.grants (g ∷ [])) (omega arith);
      all_grants = rw (every_append (is_grant (with_grant g s)) s.grants (g ∷ [])) (both r.all_grants (both h refl));
    }

-- a person with the primary group alone, and with one group more
pub new_person : (g : Gid) → one_to_15 g.0 ≡ true → is_person (record { primary = g; further = no_groups }) ≡ true
unfolding is_person one_to_15
new_person g h = rw (no_groups_is, h)

power_even : (n : ℕ) → 1 ≤ n → 2 ^ n % 2 ≡ 0
power_even zero h = omega arith
power_even (suc n) h = omega (arith, pow-suc 2 n)

pub joining_person : (g : Gid) (p : Person) → one_to_15 g.0 ≡ true → is_person p ≡ true → is_person (joining g p) ≡ true
unfolding is_person joining one_to_15
joining_person g p h k =
    let bits : ℕ = p.further.0 in
    let i : _ = and_both (leb 1 p.primary.0 && leb p.primary.0 15) _ k in
    let j : _ = and_both (ltb bits 65536) (eqb (bits % 2) 0) i.1 in
    let l : _ = and_both (leb 1 g.0) (leb g.0 15) h in
    let small : 2 ^ g.0 < 65536 = pow-lt {j = 16} (omega (arith, leb-true g.0 15 l.1)) in
    let even : 2 ^ g.0 % 2 ≡ 0 = power_even g.0 (leb-true 1 g.0 l.0) in
    rw (with_group_is g p.further)
    (both i.0
    (both (lt-ltb (bit_or bits (2 ^ g.0)) 65536 (or_lt 16 bits (2 ^ g.0) (ltb-true bits 65536 j.0) small))
    (eq-eqb (bit_or bits (2 ^ g.0) % 2) 0 (omega (arith, or_step bits (2 ^ g.0), eqb-true (bits % 2) 0 j.1, even)))))

person_found : (s : Setup) (u : Uid) (p : Person) → every is_slot s.persons ≡ true → person s u ≡ some p → is_person p ≡ true
unfolding person is_slot
person_found s u p h e = rw e at (every_get_or is_slot s.persons u.0 none h refl)

-- a line that fits keeps what has been read in range
accept_keeps : (l : LineOfSetup) (d d' : Reading) → in_range l ≡ true → accept l d ≡ some d' → SetupRanges d.so_far → SetupRanges d'.so_far
unfolding accept in_range is_pair is_grant most_pairs most_grants
accept_keeps (p_line u g) d d' h e r =
    let i : _ = and_both (one_to_15 u.0) (one_to_15 g.0) h in
    let p : Person = record { primary = g; further = no_groups } in
    let new : Reading = record { kind = 0; so_far = with_person u p d.so_far } in
    let a : _ = checked (leb d.kind 0) (check (not (is_some (person d.so_far u))) >> some new) d' e in
    let b : _ = checked (not (is_some (person d.so_far u))) (some new) d' a.1 in
    rw (answered b.1) (person_ranges u p d.so_far i.0 (new_person g i.1) r)
accept_keeps (g_line u g) d d' h e r =
    let i : _ = and_both (one_to_15 u.0) (one_to_15 g.0) h in
    let new : Person → Option Reading = λ p. some (record { kind = 1; so_far = with_person u (joining g p) d.so_far }) in
    let a : _ = checked (leb d.kind 1) (person d.so_far u >>= new) d' e in
    let b : _ = both_read (person d.so_far u) new d' a.1 in
    let was : is_person b.0 ≡ true = person_found d.so_far u b.0 r.slots b.1 in
    rw (answered b.2) (person_ranges u (joining g b.0) d.so_far i.0 (joining_person g b.0 i.1 was) r)
accept_keeps (r_line senior junior) d d' h e r =
    let p : Pair = record { senior = senior; junior = junior } in
    let new : Option Reading = some (record { kind = 2; so_far = with_pair p d.so_far }) in
    let few : Bool = ltb (length d.so_far.pairs) most_pairs in
    let a : _ = checked (leb d.kind 2) (check (falls p) >> (check few >> new)) d' e in
    let b : _ = checked (falls p) (check few >> new) d' a.1 in
    let c : _ = checked few new d' b.1 in
    rw (answered c.1) (pair_ranges p d.so_far (both b.0 h) (ltb-true (length d.so_far.pairs) most_pairs c.0) r)
accept_keeps (l_line u role w) d d' h e r =
    let g : Grant = record { uid = u; role = role; password = w } in
    let new : Option Reading = some (record { kind = 3; so_far = with_grant g d.so_far }) in
    let known : Bool = is_root u || is_some (person d.so_far u) in
    let few : Bool = ltb (length d.so_far.grants) most_grants in
    let a : _ = checked (leb d.kind 3) (check known >> (check few >> new)) d' e in
    let b : _ = checked known (check few >> new) d' a.1 in
    let c : _ = checked few new d' b.1 in
    let i : _ = and_both (ltb u.0 16) _ h in
    rw (answered c.1) (grant_ranges g d.so_far (both b.0 i.1) (ltb-true (length d.so_far.grants) most_grants c.0) r)

-- what a line leads on to
continued : (m : Option Reading) (n : ℕ) (rest : Reading → SetupAnswer) (s : Setup) → continue m n rest ≡ accepted s →
    (d : Reading) × (m ≡ some d) × (rest d ≡ accepted s)
unfolding continue
continued none n rest s e = contra {b = true} refl (cc)
continued (some d) n rest s e = (d, refl, e)

accepted_one : {s s' : Setup} → accepted s ≡ accepted s' → s' ≡ s
accepted_one e = cc

read_keeps : (ts : List Text) (n : ℕ) (d : Reading) (s : Setup) → SetupRanges d.so_far → read_lines ts n d ≡ accepted s → SetupRanges s
unfolding read_lines
read_keeps [] n d s r e = contra {b = true} refl (cc)
read_keeps (t ∷ []) n d s r e = contra {b = true} refl (cc)
read_keeps (t ∷ (u ∷ us)) n d s r e = case (same_text t (bytes "end"))
    (λ i. case (stops (u ∷ us))
    (λ j. rw (accepted_one (rw j at (rw i at e))) r)
    (λ j. let z : wrong_line (suc n) ≡ accepted s = rw j at (rw i at e) in contra {b = true} refl (cc)))
    (λ i.
    let a : _ = continued (setup_line t >>= λ l. accept l d) n (read_lines (u ∷ us) (suc n)) s (rw i at e) in
    let b : _ = both_read (setup_line t) (λ l. accept l d) a.0 a.1 in
    read_keeps (u ∷ us) (suc n) a.0 s (accept_keeps b.0 d a.0 (line_gives t b.0 b.1) b.2 r) a.2)

-- before the first line nothing is out of range
pub nothing : is_setup no_setup ≡ true
unfolding is_setup no_setup accounts most_pairs most_grants is_slot is_some every
nothing = refl

-- pairs in range fall
falling_pairs : (ps : List Pair) → every is_pair ps ≡ true → all_fall ps ≡ true
unfolding every is_pair
falling_pairs [] h = all_fall_every []
falling_pairs (p ∷ ps) h =
    let a = and_both (is_pair p) (every is_pair ps) h in
    all_fall_every (p ∷ ps)
    ∙ rw (and_both (falls p) (ltb p.junior.0 8) a.0).0 (sym (all_fall_every ps) ∙ falling_pairs ps a.1)

-- and so do those of a setup in range
pub pairs_fall : (u : Setup) → is_setup u ≡ true → all_fall u.pairs ≡ true
pairs_fall u h = falling_pairs u.pairs (apart u h).all_pairs

-- an accepted setup is in range
pub accepted_is_setup : (t : Text) (s : Setup) → setup t ≡ accepted s → is_setup s ≡ true
unfolding setup
accepted_is_setup t s e = together s (read_keeps (pieces newline t) 1 (record { kind = 0; so_far = no_setup }) s (apart no_setup nothing) e)

-- a line that leads on keeps what has been read in range
pub line_keeps : (t : Text) (d d' : Reading) → (setup_line t >>= λ l. accept l d) ≡ some d' → is_setup d.so_far ≡ true → is_setup d'.so_far ≡ true
line_keeps t d d' e h =
    let b = both_read (setup_line t) (λ l. accept l d) d' e in
    together d'.so_far (accept_keeps b.0 d d' (line_gives t b.0 b.1) b.2 (apart d.so_far h))

-- and the password of a grant's line is a name
pub l_name : (t : Text) (u : Uid) (r : Role) (w : Text) → setup_line t ≡ some (l_line u r w) → is_name w ≡ true
unfolding in_range
l_name t u r w e = (and_both (ltb r.0 8) (is_name w) (and_both (ltb u.0 16) _ (line_gives t (l_line u r w) e)).1).1

-- the kinds are 0 to 3
accept_kind : (l : LineOfSetup) (d d' : Reading) → accept l d ≡ some d' → d'.kind ≤ 3
unfolding accept
accept_kind (p_line u g) d d' e =
    let new : Reading = record { kind = 0; so_far = with_person u (record { primary = g; further = no_groups }) d.so_far } in
    let a : _ = checked (leb d.kind 0) (check (not (is_some (person d.so_far u))) >> some new) d' e in
    let b : _ = checked (not (is_some (person d.so_far u))) (some new) d' a.1 in
    rw (answered b.1) (omega arith)
accept_kind (g_line u g) d d' e =
    let new : Person → Option Reading = λ p. some (record { kind = 1; so_far = with_person u (joining g p) d.so_far }) in
    let a : _ = checked (leb d.kind 1) (person d.so_far u >>= new) d' e in
    let b : _ = both_read (person d.so_far u) new d' a.1 in
    rw (answered b.2) (omega arith)
accept_kind (r_line senior junior) d d' e =
    let p : Pair = record { senior = senior; junior = junior } in
    let new : Option Reading = some (record { kind = 2; so_far = with_pair p d.so_far }) in
    let few : Bool = ltb (length d.so_far.pairs) most_pairs in
    let a : _ = checked (leb d.kind 2) (check (falls p) >> (check few >> new)) d' e in
    let b : _ = checked (falls p) (check few >> new) d' a.1 in
    let c : _ = checked few new d' b.1 in
    rw (answered c.1) (omega arith)
accept_kind (l_line u role w) d d' e =
    let new : Option Reading = some (record { kind = 3; so_far = with_grant (record { uid = u; role = role; password = w }) d.so_far }) in
    let known : Bool = is_root u || is_some (person d.so_far u) in
    let few : Bool = ltb (length d.so_far.grants) most_grants in
    let a : _ = checked (leb d.kind 3) (check known >> (check few >> new)) d' e in
    let b : _ = checked known (check few >> new) d' a.1 in
    let c : _ = checked few new d' b.1 in
    rw (answered c.1) (omega arith)

pub line_kind : (t : Text) (d d' : Reading) → (setup_line t >>= λ l. accept l d) ≡ some d' → d'.kind ≤ 3
line_kind t d d' e = let b = both_read (setup_line t) (λ l. accept l d) d' e in accept_kind b.0 d d' b.2
