-- A run that came to its end, in which the reads gave the input, prints `transcript` of it.
use Rattle.std.specs.Prelude.{◌≡◌, Bool, true, ℕ, suc, ◌+◌, ◌-◌, ltb, drop, Some}
use Rattle.std.proofs.Math.Path.{refl, sym, ap, subst}
use Rattle.std.proofs.Common.{◌∙◌, take-add, length-take-le}
use mathlib.Core.List.{List, [], ◌++◌, append-nil, append_assoc}
use Rattle.std.proofs.Math.Bool.{false, cond}
use native.Mathlib.Omega.{arith}
use Rattle.std.proofs.Math.ListN.{length, take, length-drop}
use Rattle.std.proofs.Math.Seq.{take_at}
use Rattle.buffers.specs.Cases.{contra}
use Rattle.buffers.specs.Text.{Text}
use Rattle.syntax.specs.Parts.{part}
use Rattle.syntax.specs.Pieces.{newline, pieces}
use Rattle.setup.specs.Setup.{Setup, no_setup, is_setup}
use Rattle.setup.proofs.SetupLaws.{nothing}
use Rattle.setup.specs.SetupStep.{LineAnswer, leads_on, ends_it, is_wrong, setup_step}
use Rattle.setup.proofs.SetupStepLaws.{step_keeps}
use Rattle.store.specs.SetupHeader.{reading_in, headed}
use Rattle.store.proofs.SetupHeaderLaws.{headed_holds}
use Rattle.setups.specs.LineRead.{line_call}
use Rattle.printing.specs.Printed.{in_front}
use Rattle.calls.specs.Transcript.{transcript}
use Rattle.calls.proofs.ProgramLaws.{program_is_transcript}
use Rattle.calls.specs.ProgramByLines.{program_from}
use Rattle.calls.proofs.ProgramByLinesLaws.{program_by_lines}
use Rattle.agenda.specs.declared.Phase.{Phase}
use Rattle.agenda.specs.declared.Phase.TheVariants as phase
use Rattle.agenda.specs.declared.Place.{Place}
use Rattle.agenda.specs.declared.Call.{Call}
use Rattle.agenda.specs.declared.Call.TheVariants as call
use Rattle.agenda.specs.declared.NextLine.{NextLine}
use Rattle.agenda.specs.declared.NextLine.TheVariants as found
use Rattle.agenda.specs.declared.Next.{Next}
use Rattle.agenda.specs.declared.Next.TheVariants as next
use Rattle.agenda.specs.InputLines.{next_line}
use Rattle.agenda.specs.Agenda.{PlaceHeld, NextHeld, NextLeads, lines_from, setup_from, listed_from, passing_from, read_place, open_line, found_setup_line, setup_next, taken, unended, found_line, line_next, list_next, by_phase, next_of, report_text, goes_on, ReadFits}
use Rattle.agenda.proofs.AgendaLaws.{next_held, next_leads, read_held}
use Rattle.agenda.proofs.StepLaws.{print_ends, print_goes, read_not_ended, read_goes}
use Rattle.agenda.specs.Conversation.{Talk, ahead, after_call, line_turned, turned, first_place}
use Rattle.agenda.specs.Due.{due_in, due, Ready, Talking}
use Rattle.agenda.proofs.LinesDueLaws.{part_kept}
use Rattle.agenda.proofs.ConversationLaws.{due_turns}
use Rattle.agenda.specs.declared.Step.TheVariants.{On, Ended}
use Rattle.patterns.specs.Buffers.{Buffers, lent, with_window, called}
use Rattle.patterns.specs.Turns.{LineMade, Does, Serves, spent, ended, failed, goes}
use Rattle.patterns.specs.Serving.{line_report, turn_report, reports, Took, Takes, Fed}

-- ---- where a turn leads that does not read

-- behind the setup
abbrev Beyond : Phase → Type 0
Beyond (phase.Setup kind lines) = ⊥
Beyond phase.Lines = Unit {0}
Beyond (phase.Listing n) = Unit {0}

abbrev Later : Place → Place → Type 0
Later at then = Beyond then.phase × (then.ended ≡ true → at.ended ≡ true)

abbrev NextLater : Place → Next → Type 0
NextLater at (next.Call c then) = Later at then
NextLater at (next.On then) = Later at then
NextLater at next.Read = Unit {0}
NextLater at next.Over = Unit {0}
NextLater at (next.Line e kind lines) = Unit {0}
NextLater at (next.Wrong lines) = Unit {0}

either_later : (at : Place) (b : Bool) (x y : Next) → NextLater at x → NextLater at y → NextLater at (cond b x y)
either_later at true x y h k = h
either_later at false x y h k = k

module _ (t : Text) (at : Place) where
  setup_later : (kind lines : ℕ) (l : NextLine) → NextLater at (found_setup_line (length t) at kind lines l)
  unfolding found_setup_line open_line
  setup_later kind lines (found.Line e) = tt
  setup_later kind lines found.Last = tt
  setup_later kind lines found.More = either_later at (ltb (at.to - at.from) (length t)) next.Read (next.Wrong lines) tt tt
  setup_later kind lines found.Nothing = tt

  taken_later : (end : ℕ) (rest : Place) → Later at rest → NextLater at (taken at end rest)
  unfolding taken
  taken_later end rest r = either_later at at.passing (next.On rest) (next.Call (call.Run at.from end) rest) r r

  line_later : (l : NextLine) → NextLater at (found_line (length t) at l)
  unfolding found_line unended
  line_later (found.Line e) = taken_later e _ (tt, λ e. e)
  line_later found.Last = taken_later at.to _ (tt, λ e. e)
  line_later found.More =
      either_later at (ltb (at.to - at.from) (length t)) next.Read (taken at at.to (passing_from at.to)) tt
      (taken_later at.to (passing_from at.to) (tt, λ e. contra e refl))
  line_later found.Nothing = (tt, λ e. e)

  phase_later : (p : Phase) → NextLater at (by_phase t at p)
  unfolding by_phase setup_next line_next list_next
  phase_later (phase.Setup kind lines) = setup_later kind lines (next_line (take at.to t) at.from at.ended)
  phase_later phase.Lines = line_later (next_line (take at.to t) at.from at.ended)
  phase_later (phase.Listing n) = either_later at (ltb n 257) (next.Call (call.List n) (listed_from at (suc n))) next.Over (tt, λ e. e) tt

  next_later : NextLater at (next_of t at)
  unfolding next_of
  next_later = phase_later at.phase

-- ---- one turn

-- a run at a place
abbrev at_talk : Place → Buffers → Text → Talk
at_talk at s u = record { at = at; window = s.window; store = s.store; answer = s.answer; unread = u; sizes = λ k. 0 }

beyond_ready : (s : Talk) (p : Phase) → Beyond p → Ready s p
beyond_ready s (phase.Setup kind lines) h = absurd h
beyond_ready s phase.Lines h = tt
beyond_ready s (phase.Listing n) h = tt

module _ (at : Place) (s : Buffers) (u : Text) (h : Talking (at_talk at s u)) where
  turns_to : (k : Next) → next_of s.window at ≡ k → turned due (at_talk at s u) k ≡ due (at_talk at s u)
  turns_to k e = subst (λ (x : Next). turned due (at_talk at s u) x ≡ due (at_talk at s u)) e (due_turns (at_talk at s u) h)

  -- a wrong setup line
  last_line : (e lines : ℕ) (x : LineAnswer) (s' : Buffers) → LineMade Ended at e lines (line_call s.store x) s s' → line_report lines x ≡ line_turned due (at_talk at s u) e lines x
  unfolding line_report line_turned line_call
  last_line e lines (leads_on d) s' m = contra {b = true} refl (cc m.0)
  last_line e lines ends_it s' m = contra {b = true} refl (cc m.0)
  last_line e lines is_wrong s' m = refl

  -- the last
  last_turn : (k : Next) → next_of s.window at ≡ k → (s' : Buffers) → Does k Ended at s s' → turn_report at s k ≡ due (at_talk at s u)
  unfolding turn_report turned
  last_turn (next.Call c then) e s' d =
      let m = called s c in
      let r = report_text c m.tells m.answer in
      let off = print_ends d.0.printed (goes_on c m.tells) then d.0.leads in
      sym (append-nil r) ∙ ap (λ (x : Bool). r ++ cond x (due (after_call (at_talk at s u) then m)) []) (sym off) ∙ turns_to (next.Call c then) e
  last_turn (next.On then) e s' d = contra {b = true} refl (cc d.0)
  last_turn next.Read e s' d = absurd (read_not_ended at d.0.got d.0.leads)
  last_turn next.Over e s' d = turns_to next.Over e
  last_turn (next.Line p kind lines) e s' d = last_line p lines (setup_step (part s.window at.from p) (reading_in kind s.store)) s' d ∙ turns_to (next.Line p kind lines) e
  last_turn (next.Wrong lines) e s' d = turns_to (next.Wrong lines) e

  later_talking : (then : Place) (b₁ a₁ o₁ : List ℕ) → PlaceHeld then (length s.window) → Later at then → Talking (at_talk then (lent s.window b₁ a₁ o₁) u)
  later_talking then b₁ a₁ o₁ held l = record {
    held = held;
    over = λ e. h.over (l.1 e);
    ready = beyond_ready (at_talk then (lent s.window b₁ a₁ o₁) u) then.phase l.0;
  }

  module _ (got : ℕ) (behind : List ℕ) (u₁ : Text) where
    -- the window behind a read
    abbrev w₁ : List ℕ
    w₁ = part s.window at.from at.to ++ behind

    module _ (read : part w₁ (at.to - at.from) ((at.to - at.from) + got) ++ u₁ ≡ u) where
      -- a read leaves all that is ahead
      same_ahead : ahead (read_place at got) w₁ u₁ ≡ ahead at s.window u
      unfolding part
      same_ahead =
          let w = s.window in
          let k = at.to - at.from in
          let n : k + got - k ≡ got = omega arith in
          let bytes : take got (drop k w₁) ++ u₁ ≡ u = rw n at read in
          let front : take k w₁ ≡ part w at.from at.to = take_at (part w at.from at.to) behind k (length-take-le k (drop at.from w) (omega (arith, length-drop at.from w, h.held.ordered, h.held.within))) in
          let f = front ∙ part_kept w at.from at.to h.held.ordered h.held.within in
          ap (λ (x : Text). x ++ u₁) (take-add k got w₁) ∙ append_assoc (take k w₁) (take got (drop k w₁)) u₁
          ∙ ap (λ (x : Text). take k w₁ ++ x) bytes ∙ ap (λ (x : Text). x ++ u) f

      -- so all that is due
      same_due_in : (p : Phase) → due_in (at_talk (read_place at got) (with_window s w₁) u₁) p ≡ due_in (at_talk at s u) p
      unfolding due_in
      same_due_in (phase.Setup kind lines) = rw same_ahead
      same_due_in phase.Lines = rw same_ahead
      same_due_in (phase.Listing n) = refl

      read_due : due (at_talk (read_place at got) (with_window s w₁) u₁) ≡ due (at_talk at s u)
      unfolding due
      read_due = same_due_in at.phase

    still_ready : (p : Phase) → Ready (at_talk at s u) p → Ready (at_talk (read_place at got) (with_window s w₁) u₁) p
    still_ready (phase.Setup kind lines) r = r
    still_ready phase.Lines r = tt
    still_ready (phase.Listing n) r = tt

  module _ (then : Place) (s₁ : Buffers) (u₁ y : Text) (rest : Talking (at_talk then s₁ u₁) → y ≡ due (at_talk then s₁ u₁)) where
    -- those behind it, from what it left
    rest_from : {k : Place} {x : Buffers} {v : Text} → then ≡ k → s₁ ≡ x → u₁ ≡ v → Talking (at_talk k x v) → y ≡ due (at_talk k x v)
    rest_from e q f = rw (e, q, f) at rest

    -- one that makes a call and goes on
    call_turn : {c : Call} {k : Place} → next_of s.window at ≡ next.Call c k → NextHeld (next.Call c k) (length s.window) → Later at k
        → Does (next.Call c k) (On then) at s s₁ → u₁ ≡ u → turn_report at s (next.Call c k) ++ y ≡ due (at_talk at s u)
    unfolding turn_report turned
    call_turn {c} {k} e held l d same =
        let m = called s c in
        let r = report_text c m.tells m.answer in
        let go = print_goes d.0.printed (goes_on c m.tells) k then d.0.leads in
        ap (λ (x : Text). r ++ x) (rest_from go.0 d.1 same (later_talking k m.store m.answer (in_front r s.out) held.1 l))
        ∙ ap (λ (x : Bool). r ++ cond x (due (after_call (at_talk at s u) k m)) []) (sym go.1)
        ∙ turns_to (next.Call c k) e

    -- one that only goes on
    on_turn : {k : Place} → next_of s.window at ≡ next.On k → NextHeld (next.On k) (length s.window) → Later at k
        → Does (next.On k) (On then) at s s₁ → u₁ ≡ u → turn_report at s (next.On k) ++ y ≡ due (at_talk at s u)
    unfolding turn_report turned
    on_turn {k} e held l d same =
        let go : then ≡ k = cc d.0 in
        rest_from go d.1 same (later_talking k s.store s.answer s.out held l) ∙ turns_to (next.On k) e

    -- one that reads
    read_turn : Does next.Read (On then) at s s₁ → Took at then s₁.window u u₁ → turn_report at s next.Read ++ y ≡ due (at_talk at s u)
    unfolding turn_report
    read_turn d took =
        let go = read_goes at then d.0.got d.0.leads in
        let n = go.0 in
        let x = d.0.behind in
        let q = go.2 in
        let w = d.0.holds in
        let fits : ReadFits at (Some n) = subst (ReadFits at) go.1 d.0.fits in
        let wide : length (w₁ n x u₁) ≡ length s.window = sym (ap length w) ∙ d.0.long in
        let read : part (w₁ n x u₁) (at.to - at.from) ((at.to - at.from) + n) ++ u₁ ≡ u = rw (w, q) at took.bytes in
        rest_from q (d.1 ∙ ap (with_window s) w) refl (record {
          held = read_held at (length (w₁ n x u₁)) n (subst (PlaceHeld at) (sym wide) h.held) (omega (arith, fits, wide, h.held.wide));
          over = λ e. took.none (ap (λ (p : Place). p.ended) q ∙ e);
          ready = still_ready n x u₁ at.phase h.ready;
        })
        ∙ read_due n x u₁ read

    -- one that reads a setup line and goes on
    module _ (p kind lines : ℕ) (i : NextLeads (next.Line p kind lines) at) where
      by_line : (x : LineAnswer) → setup_step (part s.window at.from p) (reading_in kind s.store) ≡ x → LineMade (On then) at p lines (line_call s.store x) s s₁ → u₁ ≡ u
          → line_report lines x ++ y ≡ line_turned due (at_talk at s u) p lines x
      unfolding line_report line_turned line_call
      by_line (leads_on d) z m same =
          let go : then ≡ setup_from at (suc p) d.kind (suc lines) = cc m.0 in
          let good = step_keeps (part s.window at.from p) (reading_in kind s.store) d z (subst (Ready (at_talk at s u)) i.0 h.ready) in
          rest_from go m.1 same (record {
            held = record { wide = h.held.wide; ordered = omega (arith, i.1.1); within = h.held.within };
            over = h.over;
            ready = ap is_setup (headed_holds d.so_far s.store good) ∙ good;
          })
      by_line ends_it z m same =
          let go : then ≡ lines_from at (suc p) = cc m.0 in
          rest_from go m.1 same (record {
            held = record { wide = h.held.wide; ordered = omega (arith, i.1.1); within = h.held.within };
            over = h.over;
            ready = tt;
          })
      by_line is_wrong z m same = contra (print_goes m.0.printed false at then m.0.leads).1 refl

      line_turn : next_of s.window at ≡ next.Line p kind lines → Does (next.Line p kind lines) (On then) at s s₁ → u₁ ≡ u
          → turn_report at s (next.Line p kind lines) ++ y ≡ due (at_talk at s u)
      unfolding turn_report turned
      line_turn e d same = by_line (setup_step (part s.window at.from p) (reading_in kind s.store)) refl d same ∙ turns_to (next.Line p kind lines) e

    -- whatever it does
    next_turn : (k : Next) → next_of s.window at ≡ k → NextHeld k (length s.window) → NextLeads k at → NextLater at k → Does k (On then) at s s₁ → Takes k at then s₁.window u u₁
        → turn_report at s k ++ y ≡ due (at_talk at s u)
    next_turn (next.Call c k) e held i l d takes = call_turn e held l d takes
    next_turn (next.On k) e held i l d takes = on_turn e held l d takes
    next_turn next.Read e held i l d takes = read_turn d takes
    next_turn next.Over e held i l d takes = contra {b = true} refl (cc d.0)
    next_turn (next.Line p kind lines) e held i l d takes = line_turn p kind lines i e d takes
    next_turn (next.Wrong lines) e held i l d takes = contra (print_goes d.0.printed false at then d.0.leads).1 refl

-- ---- the whole

-- all turns print what is due
served_due : {n : ℕ} {at : Place} {s s' : Buffers} (x : Serves n at s s') (u : Text) → Talking (at_talk at s u) → Fed x u → reports x ≡ due (at_talk at s u)
unfolding reports Fed
served_due spent u h f = absurd f
served_due {at = at} {s = s} {s' = s'} (ended t) u h f = last_turn at s u h (next_of s.window at) refl s' t
served_due (failed t) u h f = absurd f
served_due {at = at} {s = s} (goes {then = then} {s₁ = s₁} t x) u h f =
    next_turn at s u h then s₁ f.0 (reports x) (λ i. served_due x f.0 i f.2) (next_of s.window at) refl (next_held s.window at h.held) (next_leads s.window at h.held) (next_later s.window at) t f.1

-- A run of the program that came to its end, and whose reads gave the input, printed `transcript` of it; it begins with the header of a setup of
-- nothing in its store.
pub served_is_transcript : (b : List ℕ) {n : ℕ} {w a o : List ℕ} {s' : Buffers} (x : Serves n first_place (lent w (headed no_setup b) a o) s') (input : Text)
    → length w ≡ 65536 → length b ≡ 65536 → length a ≡ 4096 → Fed x input → reports x ≡ transcript input
unfolding due due_in
served_is_transcript b {w = w} {a = a} {o = o} x input wide width room fed =
    let back = headed_holds no_setup b nothing in
    let t : Talking (at_talk first_place (lent w (headed no_setup b) a o) input) = record {
      held = record { wide = wide; ordered = omega arith; within = omega arith };
      over = λ e. contra e refl;
      ready = ap is_setup back ∙ nothing;
    } in
    served_due x input t fed
    ∙ ap (λ (u : Setup). program_from a 0 (record { kind = 0; so_far = u }) (pieces newline input)) back
    ∙ sym (program_by_lines b a width input)
    ∙ program_is_transcript b a width room input
