-- In the command lines every turn prints what is due: a line that ends, the last, one that fills the window, and none.
use Rattle.std.specs.Prelude.{◌≡◌, Bool, ℕ, suc, ◌+◌, ◌-◌, ◌≤◌, ◌<◌, take}
use Rattle.std.proofs.Math.Path.{refl, sym, ap, ap₂, subst}
use Rattle.std.proofs.Common.{◌∙◌, arith, take-append-drop, drop_of_length-le, take_all, length-take-le}
use mathlib.Core.List.{List, [], ◌∷◌, ◌++◌, append_assoc, append-nil}
use Rattle.std.proofs.Math.Bool.{true, false, cond}
use borrow.Author.Tests.{ltb-true, ltb-false}
use Rattle.std.proofs.Math.Dec.{ltb}
use Rattle.std.proofs.Math.ListN.{length, drop, length-append, length-drop}
use Rattle.std.proofs.lemmas.List.{take-append-le, drop-append-le}
use Rattle.buffers.specs.Cases.{case, contra}
use Rattle.buffers.specs.Text.{Text}
use Rattle.syntax.specs.Pieces.{newline, pieces}
use Rattle.syntax.specs.Parts.{part}
use Rattle.syntax.proofs.PartsLaws.{pieces_some}
use Rattle.tree.proofs.WellFormedLaws.{most_nodes_is}
use Rattle.calls.specs.Calls.{Called, run_call}
use Rattle.calls.specs.Transcript.{command_lines, lines_text}
use Rattle.calls.specs.Program.{call_line, run_lines, list_lines, run_and_list}
use Rattle.agenda.specs.declared.NextLine.{NextLine}
use Rattle.agenda.specs.declared.NextLine.TheVariants as found
use Rattle.agenda.specs.declared.Phase.TheVariants.{Lines}
use Rattle.agenda.specs.declared.Place.{Place}
use Rattle.agenda.specs.declared.Call.TheVariants.{Run}
use Rattle.agenda.specs.declared.Next.{Next}
use Rattle.agenda.specs.declared.Next.TheVariants.{Call, On, Read}
use Rattle.agenda.specs.InputLines.{next_line}
use Rattle.agenda.proofs.InputLinesLaws.{line_is_piece, next_is_line, next_is_last, next_is_none, next_is_more, pieces_glue, command_first}
use Rattle.agenda.proofs.LongLineLaws.{long_lines_are_alike}
use Rattle.agenda.specs.Agenda.{PlaceHeld, lines_from, listed_from, passing_from, taken, unended, found_line, line_next, report_text, goes_on}
use Rattle.agenda.specs.Conversation.{Talk, ahead, moved, made, turned}
use Rattle.agenda.specs.Due.{past_first, lines_due, due_in, due, busy, later, turns_due, Ready, Talking, Prints}
use Rattle.agenda.proofs.ReadingOnLaws.{read_prints}

-- ---- texts

-- a part of what has been read is that part of the window
pub part_read : (w : Text) (from e to : ℕ) → from ≤ e → e ≤ to → to ≤ length w → part (take to w) from e ≡ part w from e
unfolding part
part_read w from e to h k l =
    let n = length-take-le to w l in
    sym
    (ap (λ (x : Text). take (e - from) (drop from x)) (sym (take-append-drop to w))
    ∙ ap (take (e - from)) (drop-append-le from (take to w) (drop to w) (omega (arith, n)))
    ∙ take-append-le (e - from) (drop from (take to w)) (drop to w) (omega (arith, n, length-drop from (take to w))))

-- and all of it from a place on is what is kept
pub part_kept : (w : Text) (from to : ℕ) → from ≤ to → to ≤ length w → part w from to ≡ drop from (take to w)
unfolding part
part_kept w from to h l =
    sym (part_read w from to to h (omega arith) l)
    ∙ take_all (to - from) (drop from (take to w)) (omega (arith, length-take-le to w l, length-drop from (take to w)))

pub none_kept : (w : Text) (to : ℕ) → to ≤ length w → drop to (take to w) ≡ []
none_kept w to l = let n : length (take to w) ≤ to = omega (arith, length-take-le to w l) in drop_of_length-le (take to w) n

-- the command lines are run one by one
run_first : (b answer : List ℕ) (l : Text) (ls : List Text) →
    let c = run_call b l answer in
    run_and_list b answer (l ∷ ls) ≡ (call_line c.tells c.answer ++ (newline ∷ [])) ++ run_and_list c.store c.answer ls
unfolding run_and_list run_lines lines_text
run_first b answer l ls =
    let c = run_call b l answer in
    sym (append_assoc (call_line c.tells c.answer) (newline ∷ []) (run_and_list c.store c.answer ls))

-- there is a first piece
pub some_piece : (l : List Text) → 1 ≤ length l → (p : Text) × (ps : List Text) × (l ≡ p ∷ ps)
some_piece [] h = let z : ⊥ = omega arith in absurd z
some_piece (p ∷ ps) h = (p, ps, refl)

nothing_due : (b : Bool) → lines_due b ([] ∷ []) ≡ []
unfolding lines_due past_first command_lines
nothing_due true = refl
nothing_due false = refl

-- ---- a turn

pub either_turned : (others : Talk → Text) (s : Talk) (b : Bool) (x y : Next) → turned others s (cond b x y) ≡ cond b (turned others s x) (turned others s y)
either_turned others s true x y = refl
either_turned others s false x y = refl

module _ (f : Talk → Text) (m : ℕ) (others : Prints f m) (s : Talk) (h : Talking s) (c : turns_due s.at (length s.unread) ≤ suc m) (k : s.at.phase ≡ Lines) where
  abbrev lines_ahead : List Text
  lines_ahead = pieces newline (ahead s.at s.window s.unread)

  due_is : due s ≡ due_in s Lines
  unfolding due
  due_is = ap (due_in s) k

  turns_are : busy s.at (length s.unread) + 259 ≤ suc m
  unfolding later
  turns_are = omega (arith, c, ap later k)

  -- behind a line the run goes on
  module _ (rest : Place) (in_lines : rest.phase ≡ Lines) (rest_held : PlaceHeld rest (length s.window)) (rest_over : rest.ended ≡ true → s.unread ≡ [])
      (fewer : busy rest (length s.unread) < busy s.at (length s.unread)) where
    abbrev others_due : List Text
    others_due = lines_due rest.passing (pieces newline (ahead rest s.window s.unread))

    -- there, with these two buffers
    abbrev on : List ℕ → List ℕ → Talk
    on b answer =
        record { at = rest; window = s.window; store = b; answer = answer; unread = s.unread; sizes = s.sizes }

    others_print : (b answer : List ℕ) → f (on b answer) ≡ run_and_list b answer others_due
    unfolding due due_in later
    others_print b answer =
        let t : Talking (on b answer) = record { held = rest_held; over = rest_over; ready = subst (Ready (on b answer)) (sym in_lines) tt } in
        others (on b answer) t (omega (arith, turns_are, fewer, ap later in_lines)) ∙ ap (due_in (on b answer)) in_lines

    run_prints : (line : Text) → let c = run_call s.store line s.answer in
        (call_line c.tells c.answer ++ (newline ∷ [])) ++ f (on c.store c.answer) ≡ run_and_list s.store s.answer (line ∷ others_due)
    run_prints line =
        let c = run_call s.store line s.answer in
        ap (λ (x : Text). (call_line c.tells c.answer ++ (newline ∷ [])) ++ x) (others_print c.store c.answer)
        ∙ sym (run_first s.store s.answer line others_due)

    -- a line is run, or has been answered
    module _ (end : ℕ) (line : Text) (alike : run_call s.store (part s.window s.at.from end) s.answer ≡ run_call s.store line s.answer)
        (first : command_lines lines_ahead ≡ line ∷ others_due) (then : command_lines (past_first lines_ahead) ≡ others_due) where
      by_passing : (b : Bool) → cond b (turned f s (On rest)) (turned f s (Call (Run s.at.from end) rest))
          ≡ run_and_list s.store s.answer (lines_due b lines_ahead)
      unfolding turned made report_text goes_on lines_due
      by_passing true = others_print s.store s.answer ∙ ap (run_and_list s.store s.answer) (sym then)
      by_passing false =
          ap (λ (c : Called). (call_line c.tells c.answer ++ (newline ∷ [])) ++ f (on c.store c.answer)) alike
          ∙ run_prints line
          ∙ ap (run_and_list s.store s.answer) (sym first)

      taken_prints : turned f s (taken s.at end rest) ≡ due_in s Lines
      unfolding taken due_in
      taken_prints =
          either_turned f s s.at.passing (On rest) (Call (Run s.at.from end) rest) ∙ by_passing s.at.passing

  -- ---- by what the next line is

  abbrev text_read : Text
  text_read = take s.at.to s.window

  read_length : length text_read ≡ s.at.to
  read_length = length-take-le s.at.to s.window h.held.within

  line_ends : (e : ℕ) → next_line text_read s.at.from s.at.ended ≡ found.Line e →
      turned f s (taken s.at e (lines_from s.at (suc e))) ≡ due_in s Lines
  unfolding lines_due past_first busy
  line_ends e q =
      let p = line_is_piece text_read s.at.from s.at.ended s.unread e q in
      let n = next_is_line text_read s.at.from s.at.ended s.unread e q in
      let same = part_read s.window s.at.from e s.at.to p.0 (omega (arith, p.1, read_length)) h.held.within in
      taken_prints (lines_from s.at (suc e)) refl
      (record { wide = h.held.wide; ordered = omega (arith, p.1, read_length); within = h.held.within })
      h.over
      (omega (arith, p.0, p.1, read_length))
      e (part text_read s.at.from e)
      (ap (λ (x : Text). run_call s.store x s.answer) (sym same))
      n.2
      (ap (λ (ps : List Text). command_lines (past_first ps)) p.2)

  -- behind all that has been read there is nothing, where the input has ended
  none_due : s.unread ≡ [] → command_lines (pieces newline (drop s.at.to text_read ++ s.unread)) ≡ []
  unfolding command_lines pieces
  none_due u =
      ap₂ (λ (x y : Text). command_lines (pieces newline (x ++ y))) (none_kept s.window s.at.to h.held.within) u

  line_is_last : next_line text_read s.at.from s.at.ended ≡ found.Last →
      turned f s (taken s.at s.at.to (lines_from s.at s.at.to)) ≡ due_in s Lines
  unfolding lines_due past_first busy command_lines
  line_is_last q =
      let n = next_is_last text_read s.at.from s.at.ended q in
      let u = h.over n.0 in
      let d = drop s.at.from text_read in
      let whole : lines_ahead ≡ d ∷ [] = ap (λ (x : Text). pieces newline (d ++ x)) u ∙ ap (pieces newline) (append-nil d) ∙ n.2 in
      let none = none_due u in
      taken_prints (lines_from s.at s.at.to) refl
      (record { wide = h.held.wide; ordered = omega arith; within = h.held.within })
      h.over
      (omega (arith, n.1, read_length))
      s.at.to d
      (ap (λ (x : Text). run_call s.store x s.answer) (part_kept s.window s.at.from s.at.to h.held.ordered h.held.within))
      (ap command_lines whole ∙ sym (ap command_lines n.2) ∙ n.3 ∙ ap (λ (ls : List Text). d ∷ ls) (sym none))
      (ap (λ (ps : List Text). command_lines (past_first ps)) whole ∙ sym none)

  -- one that fills the window is answered by its first bytes
  line_fills : next_line text_read s.at.from s.at.ended ≡ found.More → length s.window ≤ s.at.to - s.at.from →
      turned f s (taken s.at s.at.to (passing_from s.at.to)) ≡ due_in s Lines
  unfolding lines_due past_first busy
  line_fills q full =
      let n = next_is_more text_read s.at.from s.at.ended (omega (arith, h.held.ordered, read_length)) q in
      let one = ap (λ (b : Bool). cond {A = ℕ} b 0 1) n.0 in
      let r = some_piece (pieces newline s.unread) (pieces_some newline s.unread) in
      let d = drop s.at.from text_read in
      let line = d ++ r.0 in
      let long : 65536 ≤ length d = omega (arith, full, h.held.wide, length-drop s.at.from text_read, read_length) in
      let longer : length line ≡ length d + length r.0 = length-append d r.0 in
      let whole : lines_ahead ≡ line ∷ r.1 = pieces_glue newline d s.unread r.0 r.1 n.1 r.2 in
      let due_then : command_lines (past_first (pieces newline (drop s.at.to text_read ++ s.unread))) ≡ command_lines r.1 =
      ap (λ (x : Text). command_lines (past_first (pieces newline (x ++ s.unread)))) (none_kept s.window s.at.to h.held.within)
      ∙ ap (λ (ps : List Text). command_lines (past_first ps)) r.2 in
      taken_prints (passing_from s.at.to) refl
      (record { wide = h.held.wide; ordered = omega arith; within = h.held.within })
      (λ e. contra e refl)
      (omega (arith, one, full, h.held.wide))
      s.at.to line
      (ap (λ (x : Text). run_call s.store x s.answer) (part_kept s.window s.at.from s.at.to h.held.ordered h.held.within)
      ∙ long_lines_are_alike s.store s.answer d line (omega arith) (omega arith))
      (ap command_lines whole ∙ command_first line r.1 (omega arith) ∙ ap (λ (ls : List Text). line ∷ ls) (sym due_then))
      (ap (λ (ps : List Text). command_lines (past_first ps)) whole ∙ sym due_then)

  -- behind the last line comes the listing
  line_is_none : next_line text_read s.at.from s.at.ended ≡ found.Nothing → turned f s (On (listed_from s.at 0)) ≡ due_in s Lines
  unfolding turned due due_in busy later run_and_list run_lines pieces
  line_is_none q =
      let n = next_is_none text_read s.at.from s.at.ended q in
      let listed : Talking (moved s (listed_from s.at 0)) = record {
        held = record { wide = h.held.wide; ordered = h.held.ordered; within = h.held.within };
        over = h.over;
        ready = tt;
      } in
      let none : lines_ahead ≡ [] ∷ [] = ap₂ (λ (x y : Text). pieces newline (x ++ y)) (drop_of_length-le text_read n.1) (h.over n.0) in
      others (moved s (listed_from s.at 0)) listed (omega (arith, turns_are))
      ∙ ap (λ (calls : ℕ). lines_text (list_lines (suc calls) s.store s.answer 0)) (sym most_nodes_is)
      ∙ ap (run_and_list s.store s.answer) (sym (ap (lines_due s.at.passing) none ∙ nothing_due s.at.passing))

  -- and in all
  line_prints : (l : NextLine) → next_line text_read s.at.from s.at.ended ≡ l →
      turned f s (found_line (length s.window) s.at l) ≡ due_in s Lines
  unfolding found_line unended
  line_prints (found.Line e) q = line_ends e q
  line_prints found.Last q = line_is_last q
  line_prints found.Nothing q = line_is_none q
  line_prints found.More q =
      let more = taken s.at s.at.to (passing_from s.at.to) in
      let full = ltb (s.at.to - s.at.from) (length s.window) in
      either_turned f s full Read more
      ∙ case full
      (λ e.
      let n = next_is_more text_read s.at.from s.at.ended (omega (arith, h.held.ordered, read_length)) q in
      let room = ltb-true (s.at.to - s.at.from) (length s.window) e in
      ap (λ (b : Bool). cond b (turned f s Read) (turned f s more)) e
      ∙ read_prints s h n.0 (omega (arith, room, h.held.wide)) f m others c
      ∙ due_is)
      (λ e.
      ap (λ (b : Bool). cond b (turned f s Read) (turned f s more)) e
      ∙ line_fills q (ltb-false (s.at.to - s.at.from) (length s.window) e))

  pub lines_print : turned f s (line_next s.window s.at) ≡ due s
  unfolding line_next
  lines_print = line_prints (next_line text_read s.at.from s.at.ended) refl ∙ sym due_is
