-- A setup that passes the test `is_setup` is sound, and a sound setup passes it.
use Rattle.std.specs.Prelude.{◌≡◌, refl, ◌⊎◌, List, [], ◌∷◌, Bool, true, ◌&&◌, ◌||◌, ℕ, zero, suc, ◌+◌, ◌/◌, ◌%◌, ◌^◌, ◌≤◌, ◌<◌, eqb, leb, ltb, get_or}
use Rattle.std.proofs.Common.{sym, ◌∙◌, ap, inl, inr, arith, div-one, pow_mono, pow-add, eqb-true, eq-eqb, ltb-true, lt-ltb, ltb-false, leb-true, leb-false, le-leb}
use Rattle.std.proofs.Math.Option.{Option, none, some}
use Rattle.std.proofs.Math.Nat.{div-eq_of_lt, div-div-eq-div-mul, pow-succ'}
use Rattle.std.proofs.Math.ListN.{get_elem?}
use Rattle.std.proofs.lemmas.Bool.{eqb-false}
use Rattle.buffers.specs.Cases.{case, and_both}
use Rattle.buffers.specs.Text.{every}
use Rattle.accounts.specs.declared.Pair.{Pair}
use Rattle.accounts.proofs.GroupsLaws.{member_is}
use Rattle.accounts.specs.Access.{is_root}
use Rattle.accounts.proofs.AccessLaws.{is_root_is}
use Rattle.accounts.specs.Dominance.{falls}
use Rattle.accounts.proofs.DominanceLaws.{falls_is}
use Rattle.syntax.specs.Path.{is_name}
use Rattle.syntax.specs.Form.{is_some}
use Rattle.syntax.proofs.FormLaws.{no_answer, is_none, answered, both, the_some}
use Rattle.setup.specs.Setup.{Person, Grant, Setup, person, is_person, is_slot, is_pair, is_grant, is_setup}
use Rattle.setup.proofs.SetupLaws.{apart, together}
use Rattle.setup.specs.SoundSetup.{SoundPerson, SoundPair, SoundGrant, SoundSetup}

-- ---- bits

-- a number other than 0 has a bit
a_bit : (bound n : ℕ) → n ≤ bound → 1 ≤ n → (k : ℕ) × (n / 2 ^ k % 2 ≡ 1)
a_bit zero n l h = let z : ⊥ = omega arith in absurd z
a_bit (suc bound) n l h = case (eqb (n % 2) 1)
    (λ e. (0, rw (div-one n) (eqb-true (n % 2) 1 e)))
    (λ e. let i = a_bit bound (n / 2) (omega arith) (omega (arith, eqb-false (n % 2) 1 e)) in
    (suc i.0, rw (pow-succ' 2 i.0, ← div-div-eq-div-mul n 2 (2 ^ i.0)) i.1))

-- the bits of an even number below 65536 are 1 to 15
bit_range : (n k : ℕ) → n < 65536 → n % 2 ≡ 0 → n / 2 ^ k % 2 ≡ 1 → (1 ≤ k) × (k ≤ 15)
bit_range n zero l e b = let i : n % 2 ≡ 1 = rw (div-one n) at b in let z : ⊥ = omega arith in absurd z
bit_range n (suc k) l e b = (
  omega arith,
  case (leb (suc k) 15) (leb-true (suc k) 15)
      (λ f. let p : 65536 ≤ 2 ^ suc k = pow_mono {i = 16} {j = suc k} (omega (arith, leb-false (suc k) 15 f)) in
      let i : ◌≡◌ {A = ℕ} 0 1 = rw (div-eq_of_lt {n = n} {m = 2 ^ suc k} (omega arith)) at b in
      let z : ⊥ = omega arith in absurd z),
)

-- and a number with these bits alone is one
bits_few : (n : ℕ) → ((k : ℕ) → n / 2 ^ k % 2 ≡ 1 → (1 ≤ k) × (k ≤ 15)) → (n < 65536) × (n % 2 ≡ 0)
bits_few n h = (
  case (ltb n 65536) (ltb-true n 65536)
      (λ f. let i = a_bit (n / 65536) (n / 65536) (omega arith) (omega (arith, ltb-false n 65536 f)) in
      let e : n / 65536 / 2 ^ i.0 ≡ n / 2 ^ (16 + i.0) = div-div-eq-div-mul n 65536 (2 ^ i.0) ∙ ap (λ m. n / m) (sym (pow-add 2 16 i.0)) in
      let z : ⊥ = omega (arith, h (16 + i.0) (rw e at i.1)) in absurd z),
  case (eqb (n % 2) 1) (λ f. let z : ⊥ = omega (arith, h 0 (rw (div-one n) (eqb-true (n % 2) 1 f))) in absurd z) (λ f. omega (arith, eqb-false (n % 2) 1 f)),
)

-- ---- persons

sound_person : (p : Person) → is_person p ≡ true → SoundPerson p
unfolding is_person
sound_person p h =
    let i = and_both (leb 1 p.primary.0 && leb p.primary.0 15) (ltb p.further.0 65536 && eqb (p.further.0 % 2) 0) h in
    let j = and_both (leb 1 p.primary.0) (leb p.primary.0 15) i.0 in
    let k = and_both (ltb p.further.0 65536) (eqb (p.further.0 % 2) 0) i.1 in
    record {
      primary = record { from = leb-true 1 p.primary.0 j.0; to = leb-true p.primary.0 15 j.1 };
      further = λ g m.
          let r = bit_range p.further.0 g.0 (ltb-true p.further.0 65536 k.0) (eqb-true (p.further.0 % 2) 0 k.1) (eqb-true (p.further.0 / 2 ^ g.0 % 2) 1 (sym (member_is g p.further) ∙ m)) in
          record { from = r.0; to = r.1 };
    }

is_person_of : (p : Person) → SoundPerson p → is_person p ≡ true
unfolding is_person
is_person_of p v =
    let n = p.further.0 in
    let r = bits_few n (λ k b. let w = v.further (record { 0 = k }) (member_is (record { 0 = k }) p.further ∙ eq-eqb (n / 2 ^ k % 2) 1 b) in (w.from, w.to)) in
    both (both (le-leb 1 p.primary.0 v.primary.from) (le-leb p.primary.0 15 v.primary.to))
    (both (lt-ltb n 65536 r.0) (eq-eqb (n % 2) 0 r.1))

slot_persons : (l : List (Option Person)) → every is_slot l ≡ true → (i : ℕ) (p : Person) → get_or l i none ≡ some p → is_person p ≡ true
unfolding every is_slot
slot_persons [] h i p e = no_answer e
slot_persons (o ∷ l) h zero p e = rw e at (and_both (is_slot o) (every is_slot l) h).0
slot_persons (o ∷ l) h (suc i) p e = slot_persons l (and_both (is_slot o) (every is_slot l) h).1 i p e

slots_of_persons : (l : List (Option Person)) → ((i : ℕ) (p : Person) → get_or l i none ≡ some p → is_person p ≡ true) → every is_slot l ≡ true
unfolding every is_slot
slots_of_persons [] h = refl
slots_of_persons (none ∷ l) h = slots_of_persons l (λ i. h (suc i))
slots_of_persons (some p ∷ l) h = both (h 0 p refl) (slots_of_persons l (λ i. h (suc i)))

-- ---- lists

element_of : {A : Type 0} (f : A → Bool) (l : List A) → every f l ≡ true → (i : ℕ) (a : A) → get_elem? l i ≡ some a → f a ≡ true
unfolding every
element_of f [] h i a e = no_answer e
element_of f (b ∷ l) h zero a e = rw (answered e) (and_both (f b) (every f l) h).0
element_of f (b ∷ l) h (suc i) a e = element_of f l (and_both (f b) (every f l) h).1 i a e

of_elements : {A : Type 0} (f : A → Bool) (l : List A) → ((i : ℕ) (a : A) → get_elem? l i ≡ some a → f a ≡ true) → every f l ≡ true
unfolding every
of_elements f [] h = refl
of_elements f (b ∷ l) h = both (h 0 b refl) (of_elements f l (λ i. h (suc i)))

-- ---- pairs and grants

sound_pair : (p : Pair) → is_pair p ≡ true → SoundPair p
unfolding is_pair
sound_pair p h =
    let i = and_both (falls p) (ltb p.junior.0 8) h in
    record { falls = ltb-true p.senior.0 p.junior.0 (sym (falls_is p) ∙ i.0); roles = omega (arith, ltb-true p.junior.0 8 i.1) }

is_pair_of : (p : Pair) → SoundPair p → is_pair p ≡ true
unfolding is_pair
is_pair_of p v = both (falls_is p ∙ lt-ltb p.senior.0 p.junior.0 v.falls) (lt-ltb p.junior.0 8 (omega arith))

named : (s : Setup) (g : Grant) → (is_root g.uid || is_some (person s g.uid)) ≡ true → ((p : Person) × (person s g.uid ≡ some p)) ⊎ (g.uid.0 ≡ 0)
named s g h = case (is_root g.uid) (λ t. inr (eqb-true g.uid.0 0 (sym (is_root_is g.uid) ∙ t))) (λ f. inl (the_some (person s g.uid) (rw f at h)))

named_of : (s : Setup) (g : Grant) → ((p : Person) × (person s g.uid ≡ some p)) ⊎ (g.uid.0 ≡ 0) → (is_root g.uid || is_some (person s g.uid)) ≡ true
unfolding is_some
named_of s g (inl i) = rw i.1 (case (is_root g.uid) (λ t. rw t) (λ f. rw f))
named_of s g (inr e) = rw (is_root_is g.uid, eq-eqb g.uid.0 0 e)

sound_grant : (s : Setup) (g : Grant) → is_grant s g ≡ true → SoundGrant s g
unfolding is_grant
sound_grant s g h =
    let i = and_both (is_root g.uid || is_some (person s g.uid)) (ltb g.role.0 8 && is_name g.password) h in
    let j = and_both (ltb g.role.0 8) (is_name g.password) i.1 in
    record { named_or_0 = named s g i.0; role = omega (arith, ltb-true g.role.0 8 j.0); password = j.1 }

is_grant_of : (s : Setup) (g : Grant) → SoundGrant s g → is_grant s g ≡ true
unfolding is_grant
is_grant_of s g v = both (named_of s g v.named_or_0) (both (lt-ltb g.role.0 8 (omega arith)) v.password)

-- ---- setups

-- a setup that passes the test is sound
pub setup_is_sound : (s : Setup) → is_setup s ≡ true → SoundSetup s
unfolding person
setup_is_sound s h =
    let r = apart s h in
    record {
      sixteen_accounts = r.count;
      root_is_no_person = is_none (get_or s.persons 0 none) r.zeroth;
      persons = λ u p e. sound_person p (slot_persons s.persons r.slots u.0 p e);
      at_most_28_pairs = r.few_pairs;
      pairs = λ i p e. sound_pair p (element_of is_pair s.pairs r.all_pairs i p e);
      at_most_32_grants = r.few_grants;
      grants = λ i g e. sound_grant s g (element_of (is_grant s) s.grants r.all_grants i g e);
    }

-- a sound setup passes the test
pub sound_is_setup : (s : Setup) → SoundSetup s → is_setup s ≡ true
unfolding person is_some
sound_is_setup s v = together s (record {
  count = v.sixteen_accounts;
  zeroth = rw v.root_is_no_person;
  slots = slots_of_persons s.persons (λ i p e. is_person_of p (v.persons (record { 0 = i }) p e));
  few_pairs = v.at_most_28_pairs;
  all_pairs = of_elements is_pair s.pairs (λ i p e. is_pair_of p (v.pairs i p e));
  few_grants = v.at_most_32_grants;
  all_grants = of_elements (is_grant s) s.grants (λ i g e. is_grant_of s g (v.grants i g e));
})
