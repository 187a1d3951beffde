-- The program prints `program` of its input, however many bytes each read gives.
use Rattle.std.specs.Prelude.{◌≡◌, Bool, true, false, not, eqb, length, take, drop, Ok, None}
use Rattle.std.proofs.Math.Path.{refl, sym, ap, ap₂}
use Rattle.std.proofs.Common.{◌∙◌, subst, length-append, length-drop, drop_of_length-le, length-take-le}
use mathlib.Core.List.{List, [], ◌∷◌, ◌++◌, append_assoc, append-nil}
use Rattle.std.proofs.Math.Bool.{cond}
use Prim.Native.Nat.{ℕ, zero, suc, ◌+◌, ◌-◌, ◌≤◌, ◌<◌}
use native.Mathlib.Omega.{arith}
use borrow.Author.Tests.{ltb-true, ltb-false}
use Rattle.std.proofs.Math.Dec.{ltb}
use Rattle.buffers.specs.Cases.{case, contra}
use Rattle.buffers.specs.Text.{Text}
use Rattle.syntax.specs.Pieces.{newline, pieces}
use Rattle.syntax.specs.Parts.{part}
use Rattle.syntax.proofs.PartsLaws.{pieces_some}
use Rattle.setup.specs.Setup.{Setup as Whole, Reading, no_setup, wrong_line, is_setup}
use Rattle.setup.proofs.SetupLaws.{nothing}
use Rattle.setup.specs.SetupStep.{LineAnswer, leads_on, ends_it, is_wrong, setup_step}
use Rattle.setup.proofs.SetupStepLaws.{step_keeps}
use Rattle.shell.specs.Replies.{told}
use Rattle.store.specs.State.{state_of}
use Rattle.store.specs.Initial.{initial_store}
use Rattle.store.specs.StoreBytes.{setup_of, encode}
use Rattle.store.specs.SetupHeader.{headed}
use Rattle.store.proofs.SetupHeaderLaws.{headed_holds}
use Rattle.tree.specs.declared.Cause.TheVariants.{Missing}
use Rattle.tree.specs.Causes.{number}
use Rattle.calls.specs.Calls.{listing_call}
use Rattle.calls.proofs.CallsLaws.{listing_store_stays}
use Rattle.calls.specs.Transcript.{lines_text, transcript}
use Rattle.calls.specs.Program.{text_told, list_lines, program}
use Rattle.calls.proofs.ProgramLaws.{program_is_transcript}
use Rattle.calls.specs.ProgramByLines.{set_up_and_run, program_from}
use Rattle.calls.proofs.ProgramByLinesLaws.{program_by_lines, leads_the_program_on, ends_the_setup, ends_the_program, too_long_for_a_line, ends_in_the_setup}
use Rattle.agenda.specs.declared.Phase.{Phase}
use Rattle.agenda.specs.declared.Phase.TheVariants.{Setup, Lines, Listing}
use Rattle.agenda.specs.declared.Call.TheVariants as call
use Rattle.agenda.specs.declared.Next.TheVariants.{Call, Line, Wrong, Read, Over}
use Rattle.agenda.specs.declared.NextLine.{NextLine}
use Rattle.agenda.specs.declared.NextLine.TheVariants as found
use Rattle.agenda.specs.InputLines.{next_line}
use Rattle.agenda.proofs.InputLinesLaws.{line_is_piece, next_is_last, next_is_none, next_is_more, pieces_glue}
use Rattle.agenda.specs.Agenda.{lines_from, listed_from, setup_from, open_line, found_setup_line, setup_next, list_next, by_phase, next_of, refusal, list_report, report_text, goes_on}
use Rattle.agenda.specs.Conversation.{Talk, ahead, made, after_call, line_turned, turned, talk, first_place}
use Rattle.agenda.specs.Due.{lines_due, due_in, due, busy, later, turns_due, Ready, Talking, Prints}
use Rattle.agenda.proofs.ReadingOnLaws.{read_prints}
use Rattle.agenda.proofs.LinesDueLaws.{part_read, some_piece, either_turned, lines_print}

-- ---- the listing

-- a line of the listing, with whether it is missing, and those behind it
listed_text : (b : Bool) (t x : Text) (ls : List Text) → x ≡ lines_text ls →
    cond b [] (t ++ (newline ∷ [])) ++ cond (not b) x [] ≡ lines_text (cond b [] (t ∷ ls))
unfolding lines_text
listed_text true t x ls e = refl
listed_text false t x ls e = append_assoc t (newline ∷ []) x ∙ ap (λ (y : Text). t ++ (newline ∷ y)) e

module _ (f : Talk → Text) (m : ℕ) (others : Prints f m) (s : Talk) (h : Talking s) (c : turns_due s.at (length s.unread) ≤ suc m) (n : ℕ) (k : s.at.phase ≡ Listing n) where
  list_prints : n < 257 → turned f s (Call (call.List n) (listed_from s.at (suc n))) ≡ lines_text (list_lines (257 - n) s.store s.answer n)
  unfolding turned made report_text list_report goes_on list_lines due due_in busy later
  list_prints l =
      let called = listing_call s.store n s.answer in
      let then = after_call s (listed_from s.at (suc n)) called in
      let one_less : 257 - n ≡ suc (257 - suc n) = omega arith in
      let t : Talking then = record {
        held = record { wide = h.held.wide; ordered = h.held.ordered; within = h.held.within };
        over = h.over;
        ready = tt;
      } in
      let rest = others then t (omega (arith, c, ap later k)) in
      let same = ap (λ (b : List ℕ). lines_text (list_lines (257 - suc n) b called.answer (suc n))) (listing_store_stays s.store n s.answer) in
      listed_text (eqb (number Missing) called.tells.number) (text_told called.tells.values called.answer) (f then)
      (list_lines (257 - suc n) s.store called.answer (suc n)) (rest ∙ same)
      ∙ ap (λ (calls : ℕ). lines_text (list_lines calls s.store s.answer n)) (sym one_less)

  listing_prints : turned f s (list_next s.at n) ≡ due s
  unfolding list_next turned due due_in list_lines lines_text
  listing_prints =
      let call_it = Call (call.List n) (listed_from s.at (suc n)) in
      either_turned f s (ltb n 257) call_it Over
      ∙ case (ltb n 257)
      (λ e. ap (λ (b : Bool). cond b (turned f s call_it) []) e ∙ list_prints (ltb-true n 257 e))
      (λ e.
      let none_left : 257 - n ≡ 0 = omega (arith, ltb-false n 257 e) in
      ap (λ (b : Bool). cond b (turned f s call_it) []) e
      ∙ ap (λ (calls : ℕ). lines_text (list_lines calls s.store s.answer n)) (sym none_left))
      ∙ sym (ap (due_in s) k)

-- ---- the setup

-- the refusal is what is printed for a wrong line
refused_is : (answer : List ℕ) (n : ℕ) → refusal n ≡ set_up_and_run answer (wrong_line n) []
unfolding refusal set_up_and_run lines_text
refused_is answer n = refl

module _ (f : Talk → Text) (m : ℕ) (others : Prints f m) (s : Talk) (h : Talking s) (c : turns_due s.at (length s.unread) ≤ suc m) (kind lines : ℕ) (k : s.at.phase ≡ Setup kind lines) where
  abbrev text_read : Text
  text_read = take s.at.to s.window

  abbrev pieces_ahead : List Text
  pieces_ahead = pieces newline (ahead s.at s.window s.unread)

  abbrev so : Reading
  so = record { kind = kind; so_far = setup_of s.store }

  in_range : is_setup (setup_of s.store) ≡ true
  in_range = subst (Ready s) k h.ready

  read_length : length text_read ≡ s.at.to
  read_length = length-take-le s.at.to s.window h.held.within

  due_is : due s ≡ program_from s.answer lines so pieces_ahead
  unfolding due due_in
  due_is = ap (due_in s) k

  wrong_prints : program_from s.answer lines so pieces_ahead ≡ set_up_and_run s.answer (wrong_line (suc lines)) [] → turned f s (Wrong lines) ≡ due s
  unfolding turned
  wrong_prints e = refused_is s.answer (suc lines) ∙ sym e ∙ sym due_is

  -- a line that ends
  module _ (e : ℕ) (q : next_line text_read s.at.from s.at.ended ≡ found.Line e) where
    abbrev line : Text
    line = part s.window s.at.from e

    abbrev behind : List Text
    behind = pieces newline (drop (suc e) text_read ++ s.unread)

    in_text : (s.at.from ≤ e) × (e < s.at.to)
    in_text = let p = line_is_piece text_read s.at.from s.at.ended s.unread e q in (p.0, omega (arith, p.1, read_length))

    first_is : pieces_ahead ≡ line ∷ behind
    first_is =
        let p = line_is_piece text_read s.at.from s.at.ended s.unread e q in
        p.2 ∙ ap (λ (x : Text). x ∷ behind) (part_read s.window s.at.from e s.at.to p.0 (omega (arith, p.1, read_length)) h.held.within)

    more_behind : 1 ≤ length behind
    more_behind = pieces_some newline (drop (suc e) text_read ++ s.unread)

    by_answer : (a : LineAnswer) → setup_step line so ≡ a → line_turned f s e lines a ≡ program_from s.answer lines so (line ∷ behind)
    unfolding line_turned due due_in busy later lines_due
    by_answer (leads_on d) z =
        let then = after_call s (setup_from s.at (suc e) d.kind (suc lines)) (record { tells = told (Ok None); store = headed d.so_far s.store; answer = s.answer }) in
        let good = step_keeps line so d z in_range in
        let back = headed_holds d.so_far s.store good in
        let t : Talking then = record {
          held = record { wide = h.held.wide; ordered = omega (arith, in_text.1); within = h.held.within };
          over = h.over;
          ready = ap is_setup back ∙ good;
        } in
        let rest = others then t (omega (arith, c, ap later k, in_text.0, in_text.1)) in
        rest
        ∙ ap (λ (u : Whole). program_from s.answer (suc lines) (record { kind = d.kind; so_far = u }) behind) back
        ∙ sym (leads_the_program_on s.answer line behind lines so d more_behind z)
    by_answer ends_it z =
        let u = setup_of s.store in
        let then = after_call s (lines_from s.at (suc e)) (record { tells = told (Ok None); store = encode (state_of u (initial_store u)); answer = s.answer }) in
        let t : Talking then = record {
          held = record { wide = h.held.wide; ordered = omega (arith, in_text.1); within = h.held.within };
          over = h.over;
          ready = tt;
        } in
        others then t (omega (arith, c, ap later k, in_text.0, in_text.1)) ∙ sym (ends_the_setup s.answer line behind lines so more_behind z)
    by_answer is_wrong z =
        refused_is s.answer (suc lines) ∙ sym (ends_the_program s.answer line behind lines so z)

    line_prints : turned f s (Line e kind lines) ≡ due s
    unfolding turned
    line_prints =
        by_answer (setup_step line so) refl
        ∙ ap (program_from s.answer lines so) (sym first_is)
        ∙ sym due_is

  -- the input ends before `end`
  last_prints : next_line text_read s.at.from s.at.ended ≡ found.Last → turned f s (Wrong lines) ≡ due s
  last_prints q =
      let n = next_is_last text_read s.at.from s.at.ended q in
      let d = drop s.at.from text_read in
      let whole : pieces_ahead ≡ d ∷ [] = ap (λ (x : Text). pieces newline (d ++ x)) (h.over n.0) ∙ ap (pieces newline) (append-nil d) ∙ n.2 in
      wrong_prints (ap (program_from s.answer lines so) whole ∙ ends_in_the_setup s.answer d lines so)

  none_prints : next_line text_read s.at.from s.at.ended ≡ found.Nothing → turned f s (Wrong lines) ≡ due s
  unfolding pieces
  none_prints q =
      let n = next_is_none text_read s.at.from s.at.ended q in
      let whole : pieces_ahead ≡ [] ∷ [] = ap₂ (λ (x y : Text). pieces newline (x ++ y)) (drop_of_length-le text_read n.1) (h.over n.0) in
      wrong_prints (ap (program_from s.answer lines so) whole ∙ ends_in_the_setup s.answer [] lines so)

  -- a line that fills the window is too long
  full_prints : next_line text_read s.at.from s.at.ended ≡ found.More → length s.window ≤ s.at.to - s.at.from → turned f s (Wrong lines) ≡ due s
  full_prints q full =
      let n = next_is_more text_read s.at.from s.at.ended (omega (arith, h.held.ordered, read_length)) q in
      let r = some_piece (pieces newline s.unread) (pieces_some newline s.unread) in
      let d = drop s.at.from text_read in
      let long : 200 < length (d ++ r.0) = omega (arith, full, h.held.wide, length-drop s.at.from text_read, read_length, length-append d r.0) in
      let whole : pieces_ahead ≡ (d ++ r.0) ∷ r.1 = pieces_glue newline d s.unread r.0 r.1 n.1 r.2 in
      wrong_prints (ap (program_from s.answer lines so) whole ∙ too_long_for_a_line s.answer (d ++ r.0) r.1 lines so long)

  found_prints : (l : NextLine) → next_line text_read s.at.from s.at.ended ≡ l → turned f s (found_setup_line (length s.window) s.at kind lines l) ≡ due s
  unfolding found_setup_line open_line
  found_prints (found.Line e) q = line_prints e q
  found_prints found.Last q = last_prints q
  found_prints found.Nothing q = none_prints q
  found_prints found.More q =
      let more = ltb (s.at.to - s.at.from) (length s.window) in
      either_turned f s more Read (Wrong lines)
      ∙ case more
      (λ e.
      let n = next_is_more text_read s.at.from s.at.ended (omega (arith, h.held.ordered, read_length)) q in
      let room = ltb-true (s.at.to - s.at.from) (length s.window) e in
      ap (λ (b : Bool). cond b (turned f s Read) (turned f s (Wrong lines))) e
      ∙ read_prints s h n.0 (omega (arith, room, h.held.wide)) f m others c)
      (λ e.
      ap (λ (b : Bool). cond b (turned f s Read) (turned f s (Wrong lines))) e
      ∙ full_prints q (ltb-false (s.at.to - s.at.from) (length s.window) e))

  setup_prints : turned f s (setup_next s.window s.at kind lines) ≡ due s
  unfolding setup_next
  setup_prints = found_prints (next_line text_read s.at.from s.at.ended) refl

-- ---- the whole

later_some : (p : Phase) → 1 ≤ later p
unfolding later
later_some (Setup kind lines) = omega arith
later_some Lines = omega arith
later_some (Listing n) = omega arith

turn_prints : (f : Talk → Text) (m : ℕ) → Prints f m → (s : Talk) → Talking s → turns_due s.at (length s.unread) ≤ suc m → (p : Phase) → s.at.phase ≡ p →
    turned f s (by_phase s.window s.at p) ≡ due s
unfolding by_phase
turn_prints f m others s h c (Setup kind lines) k = setup_prints f m others s h c kind lines k
turn_prints f m others s h c Lines k = lines_print f m others s h c k
turn_prints f m others s h c (Listing n) k = listing_prints f m others s h c n k

prints : (m : ℕ) → Prints (talk m) m
unfolding talk next_of
prints zero s h c = let z : ⊥ = omega (arith, c, later_some s.at.phase) in absurd z
prints (suc m) s h c = turn_prints (talk m) m (prints m) s h c s.at.phase refl

-- one turn prints what is due, and leaves due what the others print
pub due_turns : (s : Talk) → Talking s → turned due s (next_of s.window s.at) ≡ due s
unfolding next_of
due_turns s h = turn_prints due (turns_due s.at (length s.unread)) (λ t i l. refl) s h (omega arith) s.at.phase refl

module _ (window b answer : List ℕ) (input : Text) (sizes : ℕ → ℕ) (wide : length window ≡ 65536) where
  -- the program from its beginning: the store's header is the one of a setup of nothing
  abbrev begun : Talk
  begun = record { at = first_place; window = window; store = headed no_setup b; answer = answer; unread = input; sizes = sizes }

  -- however its input arrives, in twice as many turns as it has bytes and 261 more
  pub talk_is_program : length b ≡ 65536 → (turns : ℕ) → length input + length input + 261 ≤ turns → talk turns begun ≡ program b answer input
  unfolding due due_in busy later
  talk_is_program width turns enough =
      let back = headed_holds no_setup b nothing in
      let t : Talking begun = record {
        held = record { wide = wide; ordered = omega arith; within = omega arith };
        over = λ e. contra e refl;
        ready = ap is_setup back ∙ nothing;
      } in
      prints turns begun t (omega (arith, enough))
      ∙ ap (λ (u : Whole). program_from answer 0 (record { kind = 0; so_far = u }) (pieces newline input)) back
      ∙ sym (program_by_lines b answer width input)

  pub talk_is_transcript : length b ≡ 65536 → length answer ≡ 4096 → (turns : ℕ) → length input + length input + 261 ≤ turns →
      talk turns begun ≡ transcript input
  talk_is_transcript width room turns enough = talk_is_program width turns enough ∙ program_is_transcript b answer width room input
