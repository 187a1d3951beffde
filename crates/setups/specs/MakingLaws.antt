-- A whole setup text, read line by line: what the header holds before a line, and what each end of the reading comes to.
use Rattle.std.specs.Prelude.{◌≡◌, refl, List, [], ◌++◌, true, ℕ, suc, ◌+◌, ◌≤◌, ◌<◌, length, drop, replicate, Option as Found, Some, None}
use Rattle.std.proofs.Math.Path.{sym, ap}
use Rattle.std.proofs.Common.{◌∙◌, subst, append-nil, arith, add-one, drop_of_length-le, take_all}
use Rattle.std.proofs.Math.Seq.{paste}
use Rattle.buffers.specs.Cases.{contra}
use Rattle.syntax.specs.Pieces.{newline, piece_length}
use Rattle.syntax.specs.Parts.{part}
use Rattle.setup.specs.Setup.{Setup, Reading, SetupAnswer, accepted, wrong_line, no_setup, setup, is_setup}
use Rattle.setup.proofs.SetupLaws.{nothing, accepted_is_setup}
use Rattle.setup.specs.SetupStep.{LineAnswer, ends_it, setup_step}
use Rattle.setup.proofs.SetupStepLaws.{step_keeps, step_kind}
use Rattle.setup.proofs.LinesLaws.{answer_from, answer_from_first, stops_in_line, place_leads_on, place_is_wrong, place_ends_it, place_ends_early}
use Rattle.store.specs.HeaderLayout.{header_width, WideHeader}
use Rattle.store.specs.StoreBytes.{setup_of}
use Rattle.store.specs.SetupHeader.{reading_in, setup_header, headed, first_store}
use Rattle.store.proofs.SetupHeaderLaws.{setup_header_wide, headed_holds, header_holds}
use Rattle.setups.specs.declared.LineRead.{LineRead}
use Rattle.setups.specs.declared.LineRead.TheVariants as line
use Rattle.setups.specs.declared.WrongLine.{WrongLine}
use Rattle.setups.specs.LineRead.{Begun, BegunStore, read_as, after_line}
use Rattle.setups.specs.LineReadLaws.{header_begun, more_led, end_ended, wrong_stayed}
use Rattle.setups.specs.OpeningLaws.{nothing_cleared, headed_begun}
use Rattle.setups.specs.Making.{TextRead, accepted_text, wrong_text, TextDone, text_as, header_made, store_made}

-- ---- into a header

-- behind a wrong line it holds nothing
pub refused : (h h' : List ℕ) (n : ℕ) → WideHeader h → h' ≡ paste h 0 (replicate header_width 0) header_width → text_as (wrong_text n) h' ≡ header_made (wrong_line n)
unfolding header_made
refused h h' n w e =
    let none_left : drop header_width h ≡ [] = drop_of_length-le h {i = header_width} (omega arith) in
    let all : h' ≡ setup_header no_setup =
    e ∙ nothing_cleared h ∙ ap (λ (x : List ℕ). setup_header no_setup ++ x) none_left ∙ append-nil (setup_header no_setup) in
    ap (text_as (wrong_text n)) all

-- where a line begins: the header holds what was read, and the lines from there on give what the text gives
pub record Going (t h : List ℕ) (kind at n : ℕ) : Type 0 where
  pub le : at ≤ length t
  pub few : n ≤ at
  pub kinds : kind ≤ 3
  pub begun : Begun h
  pub goes : answer_from t at n (reading_in kind h) ≡ setup t

pub going_first : (t h : List ℕ) → h ≡ setup_header no_setup → Going t h 0 0 0
going_first t h e =
    let held : setup_of h ≡ no_setup = ap setup_of e ∙ header_holds no_setup nothing in
    record {
      le = omega arith;
      few = omega arith;
      kinds = omega arith;
      begun = subst Begun (sym e) (header_begun no_setup nothing);
      goes = ap (λ (u : Setup). answer_from t 0 0 (record { kind = 0; so_far = u })) held ∙ answer_from_first t;
    }

-- the text stops in the line
pub stopped : (t h : List ℕ) (kind at n end : ℕ) → Going t h kind at n → end ≡ at + piece_length newline (drop at t) → end ≡ length t → wrong_line (n + 1) ≡ setup t
stopped t h kind at n end g is l = ap wrong_line (add-one n) ∙ sym (stops_in_line t at end n (reading_in kind h) g.le is l) ∙ g.goes

-- a line that was read, with what was answered and the header behind it
pub record Line (t h : List ℕ) (kind at n end : ℕ) (r : Found LineRead) (h' : List ℕ) : Type 0 where
  pub going : Going t h kind at n
  pub ends : end ≡ at + piece_length newline (drop at t)
  pub within : end < length t
  pub said : read_as r h' ≡ after_line h (setup_step (part t at end) (reading_in kind h))

module _ {t h : List ℕ} {kind at n end : ℕ} {r : Found LineRead} {h' : List ℕ} (x : Line t h kind at n end r h') where
  abbrev so : Reading
  so = reading_in kind h

  abbrev step : LineAnswer
  step = setup_step (part t at end) so

  by : {y : Found LineRead} → r ≡ y → read_as y h' ≡ after_line h step
  by e = ap (λ (y : Found LineRead). read_as y h') (sym e) ∙ x.said

  -- it leads on
  pub going_on : (k : ℕ) → r ≡ Some (line.More k) → Going t h' k (end + 1) (n + 1)
  going_on k e =
      let g = x.going in
      let l = more_led h h' step k (by e) in
      let d = l.to in
      let good = step_keeps (part t at end) so d l.is g.begun.in_range in
      let held : setup_of h' ≡ d.so_far = ap setup_of l.holds ∙ header_holds d.so_far good in
      let same : reading_in k h' ≡ d = λ i. record { kind = l.of_kind i; so_far = held i } in
      let next : answer_from t (end + 1) (n + 1) (reading_in k h') ≡ answer_from t (suc end) (suc n) d = rw (add-one end, add-one n, same) in
      record {
        le = omega (arith, x.within);
        few = omega (arith, g.few, x.ends);
        kinds = omega (arith, l.of_kind, step_kind (part t at end) so d l.is);
        begun = subst Begun (sym l.holds) (header_begun d.so_far good);
        goes = next ∙ place_leads_on t at end n so g.le x.ends x.within d l.is ∙ g.goes;
      }

  -- it is wrong
  pub line_wrong : r ≡ None → wrong_line (n + 1) ≡ setup t
  line_wrong e =
      let l = wrong_stayed h h' step (by e) in
      ap wrong_line (add-one n) ∙ sym (place_is_wrong t at end n so x.going.le x.ends x.within l.0) ∙ x.going.goes

  -- it is `end`, with nothing behind it or something
  module _ (e : r ≡ Some line.End) where
    ended : (step ≡ ends_it) × (h' ≡ h)
    ended = end_ended h h' step (by e)

    pub text_accepted : end + 1 ≡ length t → text_as accepted_text h' ≡ header_made (setup t)
    unfolding header_made
    text_accepted k =
        let whole : setup t ≡ accepted (setup_of h) = sym x.going.goes ∙ place_ends_it t at end n so x.going.le x.ends x.within ended.0 (omega arith) in
        ap (text_as accepted_text) (ended.1 ∙ sym x.going.begun.whole) ∙ sym (ap header_made whole)

    pub text_behind : (end + 1 ≡ length t → ⊥) → wrong_line (n + 1 + 1) ≡ setup t
    text_behind k =
        let two : n + 1 + 1 ≡ suc (suc n) = omega arith in
        ap wrong_line two
        ∙ sym (place_ends_early t at end n so x.going.le x.ends x.within ended.0 (λ q. k (omega arith)))
        ∙ x.going.goes

-- ---- into a store

-- an accepted text's setup, which the header holds
pub record Held (t h : List ℕ) : Type 0 where
  pub the_setup : Setup
  pub is : setup t ≡ accepted the_setup
  pub holds : h ≡ setup_header the_setup

accepted_by : (a : SetupAnswer) (h : List ℕ) → text_as accepted_text h ≡ header_made a → (u : Setup) × (a ≡ accepted u) × (h ≡ setup_header u)
unfolding header_made
accepted_by (accepted u) h e = (u, refl, ap (λ (x : TextDone). x.bytes) e)
accepted_by (wrong_line n) h e = let z : accepted_text ≡ wrong_text n = ap (λ (x : TextDone). x.answer) e in contra {b = true} refl (cc)

wrong_by : (a : SetupAnswer) (h : List ℕ) (n : ℕ) → text_as (wrong_text n) h ≡ header_made a → a ≡ wrong_line n
unfolding header_made
wrong_by (accepted u) h n e = let z : wrong_text n ≡ accepted_text = ap (λ (x : TextDone). x.answer) e in contra {b = true} refl (cc)
wrong_by (wrong_line m) h n e = let z : wrong_text n ≡ wrong_text m = ap (λ (x : TextDone). x.answer) e in let y : record { 0 = m } ≡ record { 0 = n } = cc in ap (λ (x : WrongLine). wrong_line x.0) y

module _ (t h b : List ℕ) (r : TextRead) (said : text_as r h ≡ header_made (setup t)) where
  -- a wrong text leaves it
  pub store_left : (n : ℕ) → r ≡ wrong_text n → text_as (wrong_text n) b ≡ store_made b (setup t)
  unfolding store_made
  store_left n e = sym (ap (store_made b) (wrong_by (setup t) h n (ap (λ (x : TextRead). text_as x h) (sym e) ∙ said)))

  -- an accepted one's header is written in front, and the store opened
  module _ (e : r ≡ accepted_text) where
    held : Held t h
    held = let a = accepted_by (setup t) h (ap (λ (x : TextRead). text_as x h) (sym e) ∙ said) in record { the_setup = a.0; is = a.1; holds = a.2 }

    good : is_setup held.the_setup ≡ true
    good = accepted_is_setup t held.the_setup held.is

    pub held_wide : WideHeader h
    held_wide = ap length held.holds ∙ setup_header_wide held.the_setup good

    module _ (b₁ : List ℕ) (put : b₁ ≡ paste b 0 h header_width) where
      in_front : b₁ ≡ headed held.the_setup b
      in_front = put ∙ ap (λ (x : List ℕ). x ++ drop header_width b) (take_all header_width h (omega (arith, held_wide)) ∙ held.holds)

      pub to_open : length b ≡ 65536 → BegunStore b₁
      to_open w = subst BegunStore (sym in_front) (headed_begun held.the_setup b good w)

      pub store_opened : (b₂ : List ℕ) → b₂ ≡ first_store (setup_of b₁) → text_as accepted_text b₂ ≡ store_made b (setup t)
      unfolding store_made
      store_opened b₂ q =
          ap (text_as accepted_text) (q ∙ ap first_store (ap setup_of in_front ∙ headed_holds held.the_setup b good)) ∙ sym (ap (store_made b) held.is)
