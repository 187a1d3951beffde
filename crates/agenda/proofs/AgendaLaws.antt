-- Whatever is to be done next stays in the window: its places, and the bytes that a call is made with.
use Rattle.std.specs.Prelude.{◌≡◌, [], ◌∷◌, ◌++◌, Bool, true, false, cond, ℕ, suc, ◌+◌, ◌-◌, ◌≤◌, ◌<◌, ltb, length, take, Err}
use Rattle.std.proofs.Math.Path.{refl, ap}
use Rattle.std.proofs.Common.{sym, ◌∙◌, arith, length-take-le}
use Rattle.buffers.specs.Text.{Text}
use Rattle.syntax.specs.Pieces.{newline}
use Rattle.tree.proofs.CausesLaws.{wrong_setup_is}
use Rattle.tree.specs.declared.Refusal.TheVariants.{WrongLine}
use Rattle.shell.specs.Replies.{told}
use Rattle.calls.specs.Program.{call_line}
use Rattle.agenda.specs.declared.NextLine.{NextLine}
use Rattle.agenda.specs.declared.NextLine.TheVariants.{Line, Last, More, Nothing}
use Rattle.agenda.specs.declared.Phase.{Phase}
use Rattle.agenda.specs.declared.Phase.TheVariants.{Setup, Lines, Listing}
use Rattle.agenda.specs.declared.Place.{Place}
use Rattle.agenda.specs.declared.Call.TheVariants as call
use Rattle.agenda.specs.declared.Next.{Next}
use Rattle.agenda.specs.declared.Next.TheVariants.{Call, On, Read, Over, Wrong}
use Rattle.agenda.specs.InputLines.{next_line}
use Rattle.agenda.proofs.InputLinesLaws.{next_is_line}
use Rattle.agenda.specs.Agenda.{
  PlaceHeld,
  NextHeld,
  SetUp,
  NextLeads,
  lines_from,
  listed_from,
  passing_from,
  read_place,
  open_line,
  found_setup_line,
  setup_next,
  taken,
  unended,
  found_line,
  line_next,
  list_next,
  by_phase,
  next_of,
  refusal,
}

-- ---- what is to be done, as the code finds it

module _ (t : Text) (at : Place) where
  -- in the setup, by the next line
  pub setup_line_found : (kind lines : ℕ) {r : NextLine} (l : NextLine) → r ≡ next_line (take at.to t) at.from at.ended → r ≡ l →
      found_setup_line (length t) at kind lines l ≡ setup_next t at kind lines
  unfolding setup_next
  setup_line_found kind lines l q k = ap (found_setup_line (length t) at kind lines) (sym k ∙ q)

  -- in the command lines, by the next
  pub line_found : {r : NextLine} (l : NextLine) → r ≡ next_line (take at.to t) at.from at.ended → r ≡ l →
      found_line (length t) at l ≡ line_next t at
  unfolding line_next
  line_found l q k = ap (found_line (length t) at) (sym k ∙ q)

  -- and by the phase
  pub in_phase : (p : Phase) → at.phase ≡ p → by_phase t at p ≡ next_of t at
  unfolding next_of
  in_phase p k = ap (by_phase t at) (sym k)

-- ---- what is printed

-- the reply of a wrong line is the refusal of the setup
pub wrong_line_told : (n : ℕ) (answer : Text) → refusal n ≡ call_line (told (Err (WrongLine n))) answer ++ (newline ∷ [])
unfolding refusal call_line told
wrong_line_told n answer = rw wrong_setup_is

-- ---- all of it stays in the window

-- of two things to be done
either_held : (n : ℕ) (b : Bool) (x y : Next) → NextHeld x n → NextHeld y n → NextHeld (cond b x y) n
either_held n true x y h k = h
either_held n false x y h k = k

module _ (t : Text) (at : Place) (held : PlaceHeld at (length t)) where
  -- what has been read
  read_length : length (take at.to t) ≡ at.to
  read_length = length-take-le at.to t held.within

  lines_held : (p : ℕ) → p ≤ at.to → PlaceHeld (lines_from at p) (length t)
  lines_held p h = record { wide = held.wide; ordered = h; within = held.within }

  listed_held : (n : ℕ) → PlaceHeld (listed_from at n) (length t)
  listed_held n = record { wide = held.wide; ordered = held.ordered; within = held.within }

  passing_held : PlaceHeld (passing_from at.to) (length t)
  passing_held = record { wide = held.wide; ordered = omega arith; within = held.within }

  -- where the next line ends lies in what has been read
  pub line_within : (e : ℕ) → next_line (take at.to t) at.from at.ended ≡ Line e → (at.from ≤ e) × (e < at.to)
  line_within e q = let i = next_is_line (take at.to t) at.from at.ended [] e q in (i.0, omega (arith, i.1, read_length))

  setup_held : (kind lines : ℕ) (l : NextLine) → next_line (take at.to t) at.from at.ended ≡ l → NextHeld (found_setup_line (length t) at kind lines l) (length t)
  unfolding found_setup_line open_line
  setup_held kind lines (Line e) q = omega (arith, (line_within e q).1, held.within)
  setup_held kind lines Last q = tt
  setup_held kind lines More q = either_held (length t) (ltb (at.to - at.from) (length t)) Read (Wrong lines) tt tt
  setup_held kind lines Nothing q = tt

  taken_held : (end : ℕ) (rest : Place) → at.from ≤ end → end ≤ length t → PlaceHeld rest (length t) → NextHeld (taken at end rest) (length t)
  unfolding taken
  taken_held end rest h k r = either_held (length t) at.passing (On rest) (Call (call.Run at.from end) rest) r ((h, k), r)

  line_held : (l : NextLine) → next_line (take at.to t) at.from at.ended ≡ l → NextHeld (found_line (length t) at l) (length t)
  unfolding found_line unended
  line_held (Line e) q =
      let h = line_within e q in
      taken_held e (lines_from at (suc e)) h.0 (omega (arith, h.1, held.within)) (lines_held (suc e) (omega (arith, h.1)))
  line_held Last q = taken_held at.to (lines_from at at.to) held.ordered held.within (lines_held at.to (omega arith))
  line_held More q =
      either_held (length t) (ltb (at.to - at.from) (length t)) Read (taken at at.to (passing_from at.to)) tt
      (taken_held at.to (passing_from at.to) held.ordered held.within passing_held)
  line_held Nothing q = listed_held 0

  phase_held : (p : Phase) → NextHeld (by_phase t at p) (length t)
  unfolding by_phase setup_next line_next list_next
  phase_held (Setup kind lines) = setup_held kind lines (next_line (take at.to t) at.from at.ended) refl
  phase_held Lines = line_held (next_line (take at.to t) at.from at.ended) refl
  phase_held (Listing n) = either_held (length t) (ltb n 257) (Call (call.List n) (listed_from at (suc n))) Over (tt, listed_held (suc n)) tt

  -- whatever is to be done next
  pub next_held : NextHeld (next_of t at) (length t)
  unfolding next_of
  next_held = phase_held at.phase

-- ---- what a turn may rely on

module _ (t : Text) (at : Place) (held : PlaceHeld at (length t)) where
  either_leads : (b : Bool) (x y : Next) → NextLeads x at → NextLeads y at → NextLeads (cond b x y) at
  either_leads true x y h k = h
  either_leads false x y h k = k

  setup_leads : (kind lines : ℕ) (l : NextLine) → next_line (take at.to t) at.from at.ended ≡ l → at.phase ≡ Setup kind lines → NextLeads (found_setup_line (length t) at kind lines l) at
  unfolding found_setup_line open_line
  setup_leads kind lines (Line e) q k = (k, line_within t at held e q)
  setup_leads kind lines Last q k = (kind, k)
  setup_leads kind lines More q k = either_leads (ltb (at.to - at.from) (length t)) Read (Wrong lines) tt (kind, k)
  setup_leads kind lines Nothing q k = (kind, k)

  taken_leads : (end : ℕ) (rest : Place) → SetUp rest.phase → NextLeads (taken at end rest) at
  unfolding taken
  taken_leads end rest r = either_leads at.passing (On rest) (Call (call.Run at.from end) rest) r r

  line_leads : (l : NextLine) → NextLeads (found_line (length t) at l) at
  unfolding found_line unended
  line_leads (Line e) = taken_leads e (lines_from at (suc e)) tt
  line_leads Last = taken_leads at.to (lines_from at at.to) tt
  line_leads More = either_leads (ltb (at.to - at.from) (length t)) Read (taken at at.to (passing_from at.to)) tt (taken_leads at.to (passing_from at.to) tt)
  line_leads Nothing = tt

  phase_leads : (p : Phase) → at.phase ≡ p → NextLeads (by_phase t at p) at
  unfolding by_phase setup_next line_next list_next
  phase_leads (Setup kind lines) k = setup_leads kind lines (next_line (take at.to t) at.from at.ended) refl k
  phase_leads Lines k = line_leads (next_line (take at.to t) at.from at.ended)
  phase_leads (Listing n) k = either_leads (ltb n 257) (Call (call.List n) (listed_from at (suc n))) Over tt tt

  -- a setup line lies in what has been read and is read in the setup; what follows a call is behind it
  pub next_leads : NextLeads (next_of t at) at
  unfolding next_of
  next_leads = phase_leads at.phase refl

-- and so does the place after a read that fits
pub read_held : (at : Place) (n got : ℕ) → PlaceHeld at n → (at.to - at.from) + got ≤ n → PlaceHeld (read_place at got) n
read_held at n got h fits = record { wide = h.wide; ordered = omega arith; within = fits }
