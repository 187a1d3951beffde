-- What the loop of `patterns::serve` keeps: the place stays in the window, all buffers keep their lengths, and the turns so far chain on.
use mathlib.Core.Path.{◌≡◌}
use Prim.Native.Nat.{ℕ, ◌-◌, ◌≤◌}
use lib.ListN.{length}
use Rattle.agenda.specs.declared.Place.{Place}
use Rattle.agenda.specs.Agenda.{PlaceHeld}
use Rattle.agenda.specs.Conversation.{first_place}
use Rattle.patterns.specs.Buffers.{Buffers, lent, Ready, lines_at, Answering, Reporting}
use Rattle.patterns.specs.Turns.{most_turns, Serves}
use Rattle.patterns.proofs.serve.Given as goal

-- the buffers keep their lengths
pub record SameLengths (s₀ s : Buffers) : Type 0 where
  pub stores : length s.store ≡ length s₀.store
  pub windows : length s.window ≡ length s₀.window
  pub answers : length s.answer ≡ length s₀.answer
  pub outs : length s.out ≡ length s₀.out

-- after so many turns
pub record Serving (s₀ s : Buffers) (at : Place) (turn : ℕ) : Type 0 where
  pub long : SameLengths s₀ s
  pub placed : PlaceHeld at (length s.window)
  pub answering : Answering s.answer
  pub reporting : Reporting s.out
  pub ready : Ready at.phase s.store
  pub counted : lines_at at.phase ≤ turn
  pub chain : {s' : Buffers} → Serves (most_turns - turn) at s s' → Serves most_turns first_place s₀ s'

abbrev pub invariant-loop-turn : goal.invariant-loop-turn
invariant-loop-turn l = let i = l.initial in Serving (lent i.window i.store i.answer i.out) (lent l.window l.store l.answer l.out) l.at l._turn
