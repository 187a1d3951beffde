-- What a turn of the program does with its place and its buffers, and its turns one after another. Free are what `read` answers and leaves,
-- and whether `write` prints what it is handed: each is named where it stands.
use Rattle.std.specs.Prelude.{◌≡◌, List, ◌++◌, Bool, false, ℕ, zero, suc, length, Option, Some, None}
use Rattle.syntax.specs.Parts.{part}
use Rattle.setup.specs.SetupStep.{setup_step}
use Rattle.setups.specs.declared.LineRead.{LineRead}
use Rattle.setups.specs.declared.LineRead.TheVariants as read
use Rattle.store.specs.SetupHeader.{reading_in}
use Rattle.setups.specs.LineRead.{LineDone, line_call}
use Rattle.agenda.specs.declared.Place.{Place}
use Rattle.agenda.specs.declared.Call.{Call}
use Rattle.agenda.specs.declared.Next.{Next}
use Rattle.agenda.specs.declared.Next.TheVariants as next
use Rattle.agenda.specs.declared.Step.{Step}
use Rattle.agenda.specs.declared.Step.TheVariants.{On, Ended, Failed}
use Rattle.agenda.specs.Agenda.{ReadFits, lines_from, setup_from, next_of, goes_on, refusal, read_step, print_step}
use Rattle.patterns.specs.Buffers.{Buffers, with_window, with_store, with_report, called, with_call}

-- a read: those bytes that were left stand at the window's front
pub record Reads (r : Step) (at : Place) (w w' : List ℕ) : Type 0 where
  -- what `read` answered, and what it left behind them
  pub got : Option ℕ
  pub behind : List ℕ
  pub leads : r ≡ read_step at got
  pub fits : ReadFits at got
  pub holds : w' ≡ part w at.from at.to ++ behind
  pub long : length w' ≡ length w

-- a report: on from a place, where there is more to do
pub record Reported (r : Step) (more : Bool) (then : Place) : Type 0 where
  -- whether `write` printed all that it was handed
  pub printed : Bool
  pub leads : r ≡ print_step printed more then

-- a call: the buffers are as it leaves them, with its report
abbrev pub Makes : Step → Call → Place → Buffers → Buffers → Type 0
Makes r c then s s' = Reported r (goes_on c (called s c).tells) then × (s' ≡ with_call s c)

-- a wrong line of the setup, behind so many
abbrev pub Refuses : Step → Place → ℕ → Buffers → Buffers → Type 0
Refuses r at lines s s' = Reported r false at × (s' ≡ with_report s (refusal (suc lines)))

-- a setup line that ends at a byte: the store is as the line leaves it, and the place behind it
abbrev pub LineGoes : Step → Place → ℕ → ℕ → Option LineRead → Buffers → Buffers → Type 0
LineGoes r at e lines (Some (read.More kind)) s s' = (r ≡ On (setup_from at (suc e) kind (suc lines))) × (s' ≡ s)
LineGoes r at e lines (Some read.End) s s' = (r ≡ On (lines_from at (suc e))) × (s' ≡ s)
LineGoes r at e lines None s s' = Refuses r at lines s s'

abbrev pub LineMade : Step → Place → ℕ → ℕ → LineDone → Buffers → Buffers → Type 0
LineMade r at e lines m s s' = LineGoes r at e lines m.answer (with_store s m.header) s'

-- by what is to be done next
abbrev pub Does : Next → Step → Place → Buffers → Buffers → Type 0
Does (next.Call c then) r at s s' = Makes r c then s s'
Does (next.On then) r at s s' = (r ≡ On then) × (s' ≡ s)
Does next.Read r at s s' = Reads r at s.window s'.window × (s' ≡ with_window s s'.window)
Does next.Over r at s s' = (r ≡ Ended) × (s' ≡ s)
Does (next.Line e kind lines) r at s s' = LineMade r at e lines (line_call s.store (setup_step (part s.window at.from e) (reading_in kind s.store))) s s'
Does (next.Wrong lines) r at s s' = Refuses r at lines s s'

abbrev pub Turns : Step → Place → Buffers → Buffers → Type 0
Turns r at s s' = Does (next_of s.window at) r at s s'

-- the turns from a place on, one after another, at most so many: until one ends or fails
pub data Serves : ℕ → Place → Buffers → Buffers → Type 0 where
  spent : {at : Place} {s : Buffers} → Serves zero at s s
  ended : {n : ℕ} {at : Place} {s s' : Buffers} → Turns Ended at s s' → Serves (suc n) at s s'
  failed : {n : ℕ} {at : Place} {s s' : Buffers} → Turns Failed at s s' → Serves (suc n) at s s'
  goes : {n : ℕ} {at then : Place} {s s₁ s' : Buffers} → Turns (On then) at s s₁ → Serves n then s₁ s' → Serves (suc n) at s s'

-- more than any run uses
abbrev pub most_turns : ℕ
most_turns = 18446744073709551615
