-- What each line of a setup comes to, by the bytes of the header so far.
use Rattle.std.specs.Prelude.{◌≡◌, Bool, true, false, ◌||◌, ℕ, suc, ◌+◌, ◌-◌, ◌*◌, ◌≤◌, ◌<◌, leb, length, get_or, take, drop, set, Option as Found, Some, None}
use Rattle.std.proofs.Math.Path.{refl, ap}
use Rattle.std.proofs.Common.{sym, ◌∙◌, ap₂, arith, add-one, take_all}
use mathlib.Core.List.{List, [], ◌∷◌}
use Rattle.std.proofs.Math.Option.{Option, none, some, map}
use Rattle.std.proofs.Math.Seq.{paste}
use borrow.Author.Tests.{eq-eqb, ne_eqb, lt-ltb, le-ltb, le-leb, lt-leb}
use Rattle.buffers.specs.Cases.{case, contra}
use Rattle.buffers.specs.Text.{Text, same_text}
use Rattle.buffers.specs.TextLaws.{every_get_or}
use Rattle.buffers.specs.PasteLaws.{set_paste}
use Rattle.buffers.specs.Fields.{number_at}
use Rattle.buffers.specs.FieldsLaws.{byte_there, number_there}
use Rattle.buffers.specs.TableLaws.{all_from_at, table_count}
use Rattle.accounts.specs.declared.Uid.{Uid}
use Rattle.accounts.specs.declared.Gid.{Gid}
use Rattle.accounts.specs.declared.Role.{Role}
use Rattle.accounts.specs.declared.Pair.{Pair}
use Rattle.accounts.specs.declared.Groups.{Groups}
use Rattle.accounts.specs.Groups.{no_groups, with_group}
use Rattle.accounts.specs.Access.{is_root}
use Rattle.accounts.specs.Dominance.{falls}
use Rattle.accounts.proofs.DominanceLaws.{falls_is}
use Rattle.accounts.specs.PairBytes.{pair_bytes, pair_of}
use Rattle.syntax.specs.declared.Span.{Span}
use Rattle.syntax.specs.Pieces.{bytes}
use Rattle.syntax.specs.Parts.{Inside, part, span_text}
use Rattle.syntax.proofs.PathLaws.{name_fits}
use Rattle.syntax.specs.Form.{◌>>=◌, ◌>>◌, check, is_some}
use Rattle.syntax.proofs.FormLaws.{both}
use Rattle.lines.specs.declared.SetupLine.{SetupLine}
use Rattle.lines.specs.declared.SetupLine.TheVariants as line
use Rattle.lines.specs.Line.{line_told}
use Rattle.lines.specs.LineLaws.{told_none, told_line, grant_told}
use Rattle.lines.specs.SetupLines.{LineOfSetup, p_line, g_line, r_line, l_line, setup_line}
use Rattle.setup.specs.Setup.{Person, Grant, Setup, Reading, accounts, most_pairs, most_grants, person, with_person, with_pair, with_grant, joining, accept, is_slot, is_person, is_setup}
use Rattle.setup.proofs.SetupLaws.{one_to_15, new_person as newly_named, joining_person, apart, l_name}
use Rattle.setup.specs.SetupStep.{LineAnswer, leads_on, ends_it, is_wrong, fitting, setup_step}
use Rattle.store.specs.declared.Person.{Person as Slot}
use Rattle.store.specs.HeaderLayout.{WideHeader, slot_width, pairs_offset, pair_width, grants_offset, grant_width, pair_start, grant_start}
use Rattle.store.specs.InitialRows.{slot_value}
use Rattle.store.specs.StoreBytes.{slot_bytes, slot_of, grant_bytes, grant_of, setup_of}
use Rattle.store.specs.SetupHeader.{setup_header}
use Rattle.store.proofs.SetupHeaderLaws.{setup_header_wide, header_holds}
use Rattle.setups.specs.declared.LineRead.TheVariants.{More, End}
use Rattle.setups.specs.LineRead.{Begun, LineDone, read_as, after_line}
use Rattle.setups.specs.HeaderGrowsLaws.{slot_written, pair_written, grant_written}

-- ---- what a line comes to, by what has been read

module _ (k : ℕ) (s : Setup) where
  abbrev so : Reading
  so = record { kind = k; so_far = s }

  -- a person
  pub late_person : (u : Uid) (g : Gid) → 0 < k → accept (p_line u g) so ≡ none
  unfolding accept check ◌>>◌
  late_person u g h = rw (lt-leb k 0 h)

  pub known_person : (u : Uid) (g : Gid) (p : Person) → person s u ≡ some p → accept (p_line u g) so ≡ none
  unfolding accept check ◌>>◌ is_some
  known_person u g p e = case (leb k 0) (λ l. rw (l, e)) (λ l. rw l)

  pub new_person : (u : Uid) (g : Gid) → k ≤ 0 → person s u ≡ none → accept (p_line u g) so ≡ some (record { kind = 0; so_far = with_person u (record { primary = g; further = no_groups }) s })
  unfolding accept check ◌>>◌ is_some
  new_person u g h e = rw (le-leb k 0 h, e)

  -- a further group
  pub late_group : (u : Uid) (g : Gid) → 1 < k → accept (g_line u g) so ≡ none
  unfolding accept check ◌>>◌
  late_group u g h = rw (lt-leb k 1 h)

  pub nobodys_group : (u : Uid) (g : Gid) → person s u ≡ none → accept (g_line u g) so ≡ none
  unfolding accept check ◌>>◌ ◌>>=◌
  nobodys_group u g e = case (leb k 1) (λ l. rw (l, e)) (λ l. rw l)

  pub persons_group : (u : Uid) (g : Gid) (p : Person) → k ≤ 1 → person s u ≡ some p → accept (g_line u g) so ≡ some (record { kind = 1; so_far = with_person u (joining g p) s })
  unfolding accept check ◌>>◌ ◌>>=◌
  persons_group u g p h e = rw (le-leb k 1 h, e)

  -- a pair
  pub late_pair : (a b : Role) → 2 < k → accept (r_line a b) so ≡ none
  unfolding accept check ◌>>◌
  late_pair a b h = rw (lt-leb k 2 h)

  pub no_fall : (a b : Role) → b.0 ≤ a.0 → accept (r_line a b) so ≡ none
  unfolding accept check ◌>>◌
  no_fall a b h = case (leb k 2) (λ l. rw (l, falls_is (record { senior = a; junior = b }), le-ltb a.0 b.0 h)) (λ l. rw l)

  pub pairs_full : (a b : Role) → 28 ≤ length s.pairs → accept (r_line a b) so ≡ none
  unfolding accept check ◌>>◌ most_pairs
  pairs_full a b h = case (leb k 2)
      (λ l. case (falls (record { senior = a; junior = b })) (λ f. rw (l, f, le-ltb (length s.pairs) 28 h)) (λ f. rw (l, f)))
      (λ l. rw l)

  pub new_pair : (a b : Role) → k ≤ 2 → a.0 < b.0 → length s.pairs < 28 →
      accept (r_line a b) so ≡ some (record { kind = 2; so_far = with_pair (record { senior = a; junior = b }) s })
  unfolding accept check ◌>>◌ most_pairs
  new_pair a b h f l = rw (le-leb k 2 h, falls_is (record { senior = a; junior = b }), lt-ltb a.0 b.0 f, lt-ltb (length s.pairs) 28 l)

  -- a grant, by whether its account is root's or a person's
  abbrev known : Uid → Bool
  known u = is_root u || is_some (person s u)

  pub nobodys_grant : (u : Uid) (r : Role) (w : List ℕ) → known u ≡ false → accept (l_line u r w) so ≡ none
  unfolding accept check ◌>>◌
  nobodys_grant u r w e = case (leb k 3) (λ l. rw (l, e)) (λ l. rw l)

  pub grants_full : (u : Uid) (r : Role) (w : List ℕ) → 32 ≤ length s.grants → accept (l_line u r w) so ≡ none
  unfolding accept check ◌>>◌ most_grants
  grants_full u r w h = case (leb k 3)
      (λ l. case (known u) (λ f. rw (l, f, le-ltb (length s.grants) 32 h)) (λ f. rw (l, f)))
      (λ l. rw l)

  pub new_grant : (u : Uid) (r : Role) (w : List ℕ) → k ≤ 3 → known u ≡ true → length s.grants < 32 →
      accept (l_line u r w) so ≡ some (record { kind = 3; so_far = with_grant (record { uid = u; role = r; password = w }) s })
  unfolding accept check ◌>>◌ most_grants
  new_grant u r w h e l = rw (le-leb k 3 h, e, lt-ltb (length s.grants) 32 l)

-- ---- in the header

module _ (b : List ℕ) (w : Begun b) where
  -- it has its width
  pub begun_wide : WideHeader b
  begun_wide = ap length (sym w.whole) ∙ setup_header_wide (setup_of b) w.in_range

  slot_read : (v : Uid) → v.0 < 16 → person (setup_of b) v ≡ slot_of (take slot_width (drop (slot_width * v.0) b))
  unfolding person setup_of accounts
  slot_read v l = all_from_at slot_width slot_of 16 v.0 b none l

  first_of_slot : (v : Uid) → get_or (take slot_width (drop (slot_width * v.0) b)) 0 0 ≡ get_or b (slot_width * v.0) 0
  first_of_slot v = byte_there b (3 * v.0) 3 0 (3 * v.0) (omega arith) (omega arith)

  -- 0 is no person's
  pub slot_empty : (v : Uid) → v.0 < 16 → get_or b (slot_width * v.0) 0 ≡ 0 → person (setup_of b) v ≡ none
  unfolding slot_of
  slot_empty v l e = slot_read v l ∙ rw (eq-eqb (get_or (take slot_width (drop (slot_width * v.0) b)) 0 0) 0 (first_of_slot v ∙ e))

  -- any other is a person's
  pub slot_filled : (v : Uid) → v.0 < 16 → (get_or b (slot_width * v.0) 0 ≡ 0 → ⊥)
      → person (setup_of b) v ≡ some (record { primary = record { 0 = get_or b (slot_width * v.0) 0 }; further = record { 0 = number_at (3 * v.0 + 1) b } })
  unfolding slot_of
  slot_filled v l e =
      let f = first_of_slot v in
      let g = number_there b (3 * v.0) 3 1 (3 * v.0 + 1) (omega arith) (omega arith) in
      slot_read v l
      ∙ rw (ne_eqb (get_or (take slot_width (drop (slot_width * v.0) b)) 0 0) 0 (λ q. e (sym f ∙ q)))
      (λ j. some (record { primary = record { 0 = f j }; further = record { 0 = g j } }))

  -- how many pairs and grants there are
  pub pairs_counted : get_or b pairs_offset 0 ≡ length (setup_of b).pairs
  unfolding setup_of
  pairs_counted = table_count pair_width pair_of b pairs_offset

  pub grants_counted : get_or b grants_offset 0 ≡ length (setup_of b).grants
  unfolding setup_of
  grants_counted = table_count grant_width grant_of b grants_offset

  -- a wrong line leaves it
  pub wrong_done : {m : Option Reading} → m ≡ none → read_as None b ≡ after_line b (fitting m)
  unfolding after_line fitting
  wrong_done e = rw e

  -- a line that leads on
  fits_done : {m : Option Reading} (k : ℕ) (u : Setup) (b' : List ℕ) → m ≡ some (record { kind = k; so_far = u }) → b' ≡ setup_header u →
      read_as (Some (More k)) b' ≡ after_line b (fitting m)
  unfolding after_line fitting
  fits_done k u b' e h = rw e (λ i. record { answer = Some (More k); header = h i })

  pub slot_done : {m : Option Reading} (k : ℕ) (v : Uid) (p : Person) (b' : List ℕ) → v.0 < 16 → is_person p ≡ true →
      m ≡ some (record { kind = k; so_far = with_person v p (setup_of b) }) → b' ≡ paste b (3 * v.0) (slot_bytes (some p)) 3 → read_as (Some (More k)) b' ≡ after_line b (fitting m)
  unfolding with_person is_slot
  slot_done k v p b' l i e h =
      fits_done k (with_person v p (setup_of b)) b' e
      (h ∙ ap (λ (y : List ℕ). paste y (3 * v.0) (slot_bytes (some p)) 3) (sym w.whole) ∙ slot_written (setup_of b) w.in_range v.0 (some p) l i)

  pub pair_done : {m : Option Reading} (p : Pair) (c b' : List ℕ) → get_or b pairs_offset 0 < 28 →
      m ≡ some (record { kind = 2; so_far = with_pair p (setup_of b) }) → length c ≡ length b → c ≡ paste b (pair_start (get_or b pairs_offset 0)) (pair_bytes p) pair_width → b' ≡ set c pairs_offset (get_or b pairs_offset 0 + 1) →
      read_as (Some (More 2)) b' ≡ after_line b (fitting m)
  pair_done p c b' few e long one two =
      let n = get_or b pairs_offset 0 in
      fits_done 2 (with_pair p (setup_of b)) b' e
      (two
      ∙ set_paste c pairs_offset (n + 1) (omega (arith, long, begun_wide))
      ∙ ap₂ (λ (x : List ℕ) (j : ℕ). paste x pairs_offset (j ∷ []) 1) one (add-one n)
      ∙ ap₂ (λ (x : List ℕ) (j : ℕ). paste (paste x (pair_start j) (pair_bytes p) pair_width) pairs_offset (suc j ∷ []) 1) (sym w.whole) pairs_counted
      ∙ pair_written (setup_of b) w.in_range p (omega (arith, few, pairs_counted)))

  pub grant_done : {m : Option Reading} (g : Grant) (c b' : List ℕ) → length g.password ≤ 8 → get_or b grants_offset 0 < 32 →
      m ≡ some (record { kind = 3; so_far = with_grant g (setup_of b) }) → length c ≡ length b → c ≡ paste b (grant_start (get_or b grants_offset 0)) (grant_bytes g) grant_width → b' ≡ set c grants_offset (get_or b grants_offset 0 + 1) →
      read_as (Some (More 3)) b' ≡ after_line b (fitting m)
  grant_done g c b' short few e long one two =
      let n = get_or b grants_offset 0 in
      fits_done 3 (with_grant g (setup_of b)) b' e
      (two
      ∙ set_paste c grants_offset (n + 1) (omega (arith, long, begun_wide))
      ∙ ap₂ (λ (x : List ℕ) (j : ℕ). paste x grants_offset (j ∷ []) 1) one (add-one n)
      ∙ ap₂ (λ (x : List ℕ) (j : ℕ). paste (paste x (grant_start j) (grant_bytes g) grant_width) grants_offset (suc j ∷ []) 1) (sym w.whole) grants_counted
      ∙ grant_written (setup_of b) w.in_range g short (omega (arith, few, grants_counted)))

-- ---- slots as they are written

pub slot_of_person : (p : Slot) → (p.primary.0 ≡ 0 → ⊥) → slot_value p ≡ some (record { primary = p.primary; further = p.further })
unfolding slot_value
slot_of_person p e = rw (ne_eqb p.primary.0 0 e)

in_one_to_15 : (n : ℕ) → 0 < n → n < 16 → one_to_15 n ≡ true
unfolding one_to_15
in_one_to_15 n h l = both (le-leb 1 n h) (le-leb n 15 (omega arith))

pub first_groups : (g : Gid) → 0 < g.0 → g.0 < 16 → is_person (record { primary = g; further = no_groups }) ≡ true
first_groups g h l = newly_named g (in_one_to_15 g.0 h l)

pub one_group_more : (s : Setup) (u : Uid) (g : Gid) (p : Person) → is_setup s ≡ true → person s u ≡ some p → 0 < g.0 → g.0 < 16 → is_person (joining g p) ≡ true
unfolding person is_slot
one_group_more s u g p i e h l =
    joining_person g p (in_one_to_15 g.0 h l) (rw e at (every_get_or is_slot s.persons u.0 none (apart s i).slots refl))

pub joined_slot : (p : Person) (g : Gid) (f : Groups) → (p.primary.0 ≡ 0 → ⊥) → f ≡ with_group g p.further → slot_value (record { primary = p.primary; further = f }) ≡ some (joining g p)
unfolding joining
joined_slot p g f z e = slot_of_person (record { primary = p.primary; further = f }) z ∙ (λ i. some (record { primary = p.primary; further = e i }))

-- ---- the line that was read

read_whole : (t : Text) → part t 0 (length t) ≡ t
unfolding part
read_whole t = take_all (length t - 0) t (omega arith)

-- a word is compared at its span as by itself
pub word_whole : (t word : Text) → same_text (span_text t (record { start = 0; end = length t })) word ≡ same_text t word
unfolding span_text
word_whole t word = ap (λ (x : Text). same_text x word) (read_whole t)

module _ (t : Text) (n : ℕ) (r : Found SetupLine) (all : n ≡ length t) (told : line_told t r ≡ map some (setup_line (part t 0 n))) where
  whole_told : line_told t r ≡ map some (setup_line t)
  whole_told = told ∙ ap (λ (x : Text). map some (setup_line x)) (ap (part t 0) all ∙ read_whole t)

  pub told_person : {u : Uid} {g : Gid} → r ≡ Some (line.Person u g) → setup_line t ≡ some (p_line u g)
  unfolding line_told
  told_person e = told_line t r _ _ (rw e) whole_told

  pub told_group : {u : Uid} {g : Gid} → r ≡ Some (line.Group u g) → setup_line t ≡ some (g_line u g)
  unfolding line_told
  told_group e = told_line t r _ _ (rw e) whole_told

  pub told_pair : {a b : Role} → r ≡ Some (line.Pair a b) → setup_line t ≡ some (r_line a b)
  unfolding line_told
  told_pair e = told_line t r _ _ (rw e) whole_told

  pub told_grant : {u : Uid} {role : Role} {w : Span} → r ≡ Some (line.Grant u role w) → (setup_line t ≡ some (l_line u role (span_text t w))) × (Inside w t)
  told_grant e = grant_told t _ _ _ _ (rw e at whole_told)

  pub told_wrong : r ≡ None → setup_line t ≡ none
  told_wrong e = told_none t _ (rw e at whole_told)

-- a password fits its field
pub password_short : (t : Text) (u : Uid) (role : Role) (w : Text) → setup_line t ≡ some (l_line u role w) → length w ≤ 8
password_short t u role w e = (name_fits w (l_name t u role w e)).0

-- the step that it is
module _ (t : Text) (d : Reading) where
  pub is_the_end : same_text t (bytes "end") ≡ true → setup_step t d ≡ ends_it
  unfolding setup_step
  is_the_end e = rw e

  module _ (other : same_text t (bytes "end") ≡ false) where
    pub is_a_line : {l : LineOfSetup} → setup_line t ≡ some l → setup_step t d ≡ fitting (accept l d)
    unfolding setup_step ◌>>=◌
    is_a_line e = rw (other, e)

    pub is_no_line : setup_line t ≡ none → setup_step t d ≡ is_wrong
    unfolding setup_step ◌>>=◌ fitting
    is_no_line e = rw (other, e)

-- ---- what was answered tells what the line comes to

-- the header of a setup in range
pub header_begun : (u : Setup) → is_setup u ≡ true → Begun (setup_header u)
header_begun u h = record {
  in_range = ap is_setup (header_holds u h) ∙ h;
  whole = ap setup_header (header_holds u h);
}

-- what a line led on to, by the kind and the header that were answered
pub record Led (a : LineAnswer) (k : ℕ) (H : List ℕ) : Type 0 where
  pub to : Reading
  pub is : a ≡ leads_on to
  pub of_kind : k ≡ to.kind
  pub holds : H ≡ setup_header to.so_far

module _ (b H : List ℕ) where
  pub more_led : (a : LineAnswer) (k : ℕ) → read_as (Some (More k)) H ≡ after_line b a → Led a k H
  unfolding after_line
  more_led (leads_on d) k e = record {
    to = d;
    is = refl;
    of_kind = let z : Some (More k) ≡ Some (More d.kind) = ap (λ (x : LineDone). x.answer) e in cc;
    holds = ap (λ (x : LineDone). x.header) e;
  }
  more_led ends_it k e = let z : Some (More k) ≡ Some End = ap (λ (x : LineDone). x.answer) e in contra {b = true} refl (cc)
  more_led is_wrong k e = let z : Some (More k) ≡ None = ap (λ (x : LineDone). x.answer) e in contra {b = true} refl (cc)

  pub end_ended : (a : LineAnswer) → read_as (Some End) H ≡ after_line b a → (a ≡ ends_it) × (H ≡ b)
  unfolding after_line
  end_ended (leads_on d) e = let z : Some End ≡ Some (More d.kind) = ap (λ (x : LineDone). x.answer) e in contra {b = true} refl (cc)
  end_ended ends_it e = (refl, ap (λ (x : LineDone). x.header) e)
  end_ended is_wrong e = let z : Some End ≡ None = ap (λ (x : LineDone). x.answer) e in contra {b = true} refl (cc)

  pub wrong_stayed : (a : LineAnswer) → read_as None H ≡ after_line b a → (a ≡ is_wrong) × (H ≡ b)
  unfolding after_line
  wrong_stayed (leads_on d) e = let z : None ≡ Some (More d.kind) = ap (λ (x : LineDone). x.answer) e in contra {b = true} refl (cc)
  wrong_stayed ends_it e = let z : None ≡ Some End = ap (λ (x : LineDone). x.answer) e in contra {b = true} refl (cc)
  wrong_stayed is_wrong e = (refl, ap (λ (x : LineDone). x.header) e)
