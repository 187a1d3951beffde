-- What a store holds while its setup is read, and when it is opened.
use Rattle.std.specs.Prelude.{◌≡◌, refl, true, cond, ℕ, zero, suc, ◌+◌, ◌-◌, ◌*◌, ◌≤◌, ◌<◌, eqb, get_or, set, replicate, Option as Found, Some, None}
use Rattle.std.proofs.Math.Path.{sym, ap, ap₂}
use Rattle.std.proofs.Common.{◌∙◌, subst, arith, add-one, mul-zero, mul-suc, add_comm, length-append, length-set, take-append-drop, take_all, drop_at, drop-drop, take-suc-set}
use mathlib.Core.List.{List, [], ◌∷◌, ◌++◌, map, map-append, append-nil}
use Rattle.std.proofs.Math.Option.{Option, none, some}
use Rattle.std.proofs.Math.ListN.{length, take, drop, length-drop, drop_of_length-le}
use Rattle.std.proofs.lemmas.List.{length-replicate}
use Rattle.std.proofs.Math.Seq.{paste, take_at}
use Rattle.buffers.specs.Text.{Text}
use Rattle.buffers.specs.Fields.{number_at, all_from}
use Rattle.buffers.specs.FieldsLaws.{byte_there, number_there}
use Rattle.setup.specs.Setup.{Person, Setup, Reading, accounts, no_setup, is_setup}
use Rattle.setup.proofs.SetupLaws.{nothing}
use Rattle.setup.specs.SetupStep.{LineAnswer, leads_on, ends_it, setup_step}
use Rattle.setup.proofs.SetupStepLaws.{step_keeps}
use Rattle.tree.specs.Encoding.{encode_tree}
use Rattle.store.specs.declared.Person.{Person as Slot}
use Rattle.store.specs.HeaderLayout.{header_width, slot_width, directories_offset, directories_width}
use Rattle.store.specs.State.{Registry}
use Rattle.store.specs.Initial.{initial_tree, initial_registry, initial_store}
use Rattle.store.proofs.InitialLaws.{initial_registered}
use Rattle.store.specs.InitialRows.{slot_value}
use Rattle.store.specs.StoreBytes.{store_width, slot_of, header_bytes, setup_of, encode}
use Rattle.store.specs.SetupHeader.{reading_in, setup_header, headed, first_store}
use Rattle.store.proofs.SetupHeaderLaws.{setup_header_wide, headed_holds, header_holds, nothing_is_zeros}
use Rattle.store.proofs.HeaderLaws.{length_header}
use Rattle.setups.specs.declared.LineRead.{LineRead}
use Rattle.setups.specs.declared.LineRead.TheVariants.{More, End}
use Rattle.setups.specs.DirectoriesLaws.{first_bytes, first_header}
use Rattle.setups.specs.LineRead.{Begun, BegunStore, read_as, after_line, line_call}
use Rattle.setups.specs.LineReadLaws.{header_begun, more_led, end_ended, wrong_stayed}

-- ---- the slots

-- a slot's value by its bytes
pub slot_is : (b : List ℕ) (k : ℕ) (p : Slot) → p.primary.0 ≡ get_or b (3 * k) 0 → p.further.0 ≡ number_at (3 * k + 1) b → slot_value p ≡ slot_of (take slot_width (drop (slot_width * k) b))
unfolding slot_value slot_of
slot_is b k p e f =
    let x = byte_there b (3 * k) 3 0 (3 * k) (omega arith) (omega arith) in
    let y = number_there b (3 * k) 3 1 (3 * k + 1) (omega arith) (omega arith) in
    ap₂ (λ (m n : ℕ). cond (eqb m 0) none (some (record { primary = record { 0 = m }; further = record { 0 = n } }))) (e ∙ sym x) (f ∙ sym y)

-- one value more is read
all_from_more : {A : Type 0} (w : ℕ) (f : List ℕ → A) (k : ℕ) (b : List ℕ) → all_from w f (suc k) b ≡ all_from w f k b ++ (f (take w (drop (w * k) b)) ∷ [])
unfolding all_from
all_from_more w f zero b = ap (λ (n : ℕ). f (take w (drop n b)) ∷ []) (sym (mul-zero w))
all_from_more w f (suc k) b =
    ap (λ (l : List _). f (take w b) ∷ l) (all_from_more w f k (drop w b))
    ∙ ap (λ (l : List ℕ). f (take w b) ∷ (all_from w f k (drop w b) ++ (f (take w l) ∷ []))) (drop-drop (w * k) w b ∙ ap (λ (n : ℕ). drop n b) (add_comm w (w * k) ∙ sym (mul-suc w k)))

-- the slots read so far
pub record SlotsRead (b : List ℕ) (persons : List Slot) (k : ℕ) : Type 0 where
  pub le : k ≤ 16
  pub sixteen : length persons ≡ 16
  pub so_far : map slot_value (take k persons) ≡ all_from 3 slot_of k b

pub no_slots : (b : List ℕ) (persons : List Slot) → length persons ≡ 16 → SlotsRead b persons 0
unfolding all_from
no_slots b persons l = record { le = omega arith; sixteen = l; so_far = refl }

pub one_slot_more : (b : List ℕ) (persons : List Slot) (k : ℕ) (p : Slot) → SlotsRead b persons k → k < 16 → slot_value p ≡ slot_of (take slot_width (drop (slot_width * k) b)) → SlotsRead b (set persons k p) (k + 1)
one_slot_more b persons k p r h e = record {
  le = omega arith;
  sixteen = length-set persons k p ∙ r.sixteen;
  so_far =
      ap (λ (n : ℕ). map slot_value (take n (set persons k p))) (add-one k)
      ∙ ap (map slot_value) (take-suc-set persons k p (omega (arith, r.sixteen)))
      ∙ map-append slot_value (take k persons) (p ∷ [])
      ∙ ap₂ (λ (x : List (Option Person)) (o : Option Person). x ++ (o ∷ [])) r.so_far e
      ∙ sym (all_from_more 3 slot_of k b)
      ∙ ap (λ (n : ℕ). all_from 3 slot_of n b) (sym (add-one k));
}

pub all_slots : (b : List ℕ) (persons : List Slot) (k : ℕ) → SlotsRead b persons k → 16 ≤ k → map slot_value persons ≡ (setup_of b).persons
unfolding setup_of accounts
all_slots b persons k r h =
    let e : k ≡ 16 = omega (arith, r.le) in
    ap (map slot_value) (sym (take_all 16 persons (omega (arith, r.sixteen))))
    ∙ ap (λ (n : ℕ). map slot_value (take n persons)) (sym e)
    ∙ r.so_far
    ∙ ap (λ (n : ℕ). all_from 3 slot_of n b) e

-- ---- the header of nothing

-- zeros in front of any bytes are the header of nothing before what stood behind it
pub nothing_cleared : (b : List ℕ) → paste b 0 (replicate header_width 0) header_width ≡ headed no_setup b
nothing_cleared b =
    ap (λ (x : List ℕ). x ++ drop header_width b) (take_all header_width (replicate header_width 0) (omega (arith, length-replicate {A = ℕ} header_width 0)) ∙ sym nothing_is_zeros)

-- ---- the store opened

-- the tree's bytes in a store
pub tree_wide : (b : List ℕ) → length b ≡ 65536 → length (take (length b - header_width) (drop header_width b)) ≡ 58114
tree_wide b w =
    ap length (take_all (length b - header_width) (drop header_width b) (omega (arith, length-drop header_width b)))
    ∙ length-drop header_width b ∙ omega arith

module _ (b : List ℕ) (w : BegunStore b) where
  pub store_wide : length b ≡ 65536
  unfolding store_width
  store_wide = w.wide

  -- the header stands in front
  pub header_in : take header_width b ≡ setup_header (setup_of b)
  header_in =
      ap (take header_width) (sym w.whole) ∙ take_at (setup_header (setup_of b)) (drop header_width b) header_width (setup_header_wide (setup_of b) w.in_range)

  -- with the first working directories it is that of the store that the setup begins with
  module _ (persons : List Slot) (b₁ : List ℕ) (same : map slot_value persons ≡ (setup_of b).persons) (put : b₁ ≡ paste b directories_offset (first_bytes (map slot_value persons)) directories_width) where
    abbrev first_registry : Registry
    first_registry = initial_registry (setup_of b)

    put_in : b₁ ≡ header_bytes (setup_of b) first_registry ++ drop header_width b
    put_in =
        put
        ∙ ap₂ (λ (x : List ℕ) (l : List (Option Person)). paste x directories_offset (first_bytes l) directories_width) (sym w.whole) same
        ∙ first_header (setup_of b) w.in_range (drop header_width b)

    -- and with the initial tree behind it, it is that store
    pub opened : (T : List ℕ) → T ≡ encode_tree (initial_tree (setup_of b)) → take header_width b₁ ++ (T ++ drop (length b₁ - header_width) (drop header_width b₁)) ≡ first_store (setup_of b)
    unfolding encode initial_store
    opened T e =
        let wide = length_header (setup_of b) first_registry w.in_range (initial_registered (setup_of b) w.in_range) in
        let front : take header_width b₁ ≡ header_bytes (setup_of b) first_registry =
        ap (take header_width) put_in ∙ take_at (header_bytes (setup_of b) first_registry) (drop header_width b) header_width wide in
        let none_left : drop (length b₁ - header_width) (drop header_width b₁) ≡ [] = drop_of_length-le (drop header_width b₁) {i = length b₁ - header_width} (omega (arith, length-drop header_width b₁)) in
        ap₂ ◌++◌ front (ap₂ ◌++◌ e none_left ∙ append-nil (encode_tree (initial_tree (setup_of b))))

-- ---- a line

module _ (b : List ℕ) (w : BegunStore b) where
  -- the header holds the setup that the store holds
  same_setup : setup_of (take header_width b) ≡ setup_of b
  same_setup = ap setup_of (header_in b w) ∙ header_holds (setup_of b) w.in_range

  pub front_begun : Begun (take header_width b)
  front_begun = subst Begun (sym (header_in b w)) (header_begun (setup_of b) w.in_range)

  module _ (t : Text) (kind : ℕ) (H : List ℕ) (r : Found LineRead) (h : read_as r H ≡ after_line (take header_width b) (setup_step t (reading_in kind (take header_width b)))) where
    abbrev step : LineAnswer
    step = setup_step t (reading_in kind b)

    -- the header's answer is one to the store's reading
    by_step : {x : Found LineRead} → r ≡ x → read_as x H ≡ after_line (take header_width b) step
    by_step e =
        ap (λ (y : Found LineRead). read_as y H) (sym e) ∙ h
        ∙ ap (λ (u : Setup). after_line (take header_width b) (setup_step t (record { kind = kind; so_far = u }))) same_setup

    -- what is left as it was
    stayed : H ≡ take header_width b → H ++ drop header_width b ≡ b
    stayed e = ap (λ (x : List ℕ). x ++ drop header_width b) e ∙ take-append-drop header_width b

    pub more_called : (k : ℕ) → r ≡ Some (More k) → read_as (Some (More k)) (H ++ drop header_width b) ≡ line_call b step
    unfolding line_call
    more_called k e =
        let l = more_led (take header_width b) H step k (by_step e) in
        (λ i. record { answer = Some (More (l.of_kind i)); header = l.holds i ++ drop header_width b }) ∙ sym (ap (line_call b) l.is)

    pub leads_called : (x : LineRead) → (x ≡ End → ⊥) → r ≡ Some x → read_as (Some x) (H ++ drop header_width b) ≡ line_call b step
    leads_called (More k) other e = more_called k e
    leads_called End other e = absurd (other refl)

    pub wrong_called : r ≡ None → read_as None (H ++ drop header_width b) ≡ line_call b step
    unfolding line_call
    wrong_called e =
        let l = wrong_stayed (take header_width b) H step (by_step e) in
        (λ i. record { answer = None; header = stayed l.1 i }) ∙ sym (ap (line_call b) l.0)

    module _ (e : r ≡ Some End) where
      ended : (step ≡ ends_it) × (H ++ drop header_width b ≡ b)
      ended = let l = end_ended (take header_width b) H step (by_step e) in (l.0, stayed l.1)

      pub still_begun : BegunStore (H ++ drop header_width b)
      still_begun = subst BegunStore (sym ended.1) w

      pub end_called : (b' : List ℕ) → b' ≡ first_store (setup_of (H ++ drop header_width b)) → read_as (Some End) b' ≡ line_call b step
      unfolding line_call
      end_called b' q =
          (λ i. record { answer = Some End; header = (q ∙ ap (λ (x : List ℕ). first_store (setup_of x)) ended.1) i }) ∙ sym (ap (line_call b) ended.0)

-- ---- a store stays begun

pub headed_begun : (u : Setup) (b : List ℕ) → is_setup u ≡ true → length b ≡ 65536 → BegunStore (headed u b)
unfolding store_width
headed_begun u b h w =
    let H = setup_header u in
    let wide = setup_header_wide u h in
    let back = headed_holds u b h in
    record {
      wide = length-append H (drop header_width b) ∙ omega (arith, wide, length-drop header_width b, w);
      in_range = ap is_setup back ∙ h;
      whole = ap₂ (λ (v : Setup) (x : List ℕ). setup_header v ++ x) back (drop_at H (drop header_width b) header_width wide);
    }

-- before the first line
pub nothing_begun : (b : List ℕ) → length b ≡ 65536 → BegunStore (headed no_setup b)
nothing_begun b w = headed_begun no_setup b nothing w

-- and behind one that leads on
pub line_begun : (b : List ℕ) (t : Text) (kind : ℕ) (d : Reading) → BegunStore b → setup_step t (reading_in kind b) ≡ leads_on d → BegunStore (headed d.so_far b)
line_begun b t kind d w e = headed_begun d.so_far b (step_keeps t (reading_in kind b) d e w.in_range) (store_wide b w)
