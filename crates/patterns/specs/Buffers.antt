-- The program's buffers, and what its functions ask of them.
use Rattle.std.specs.Prelude.{◌≡◌, List, ℕ, ◌≤◌, ◌<◌, length, Option, Some, None}
use Rattle.buffers.specs.Text.{Text}
use Rattle.setups.specs.LineRead.{BegunStore}
use Rattle.printing.specs.Printed.{in_front}
use Rattle.calls.specs.Calls.{Called}
use Rattle.agenda.specs.declared.Phase.{Phase}
use Rattle.agenda.specs.declared.Phase.TheVariants.{Setup, Lines, Listing}
use Rattle.agenda.specs.declared.Place.{Place}
use Rattle.agenda.specs.declared.Call.{Call}
use Rattle.agenda.specs.Agenda.{PlaceHeld, report_text}
use Rattle.agenda.specs.Conversation.{made}
use Rattle.patterns.specs.declared.streams.Stream.{Stream}
use Rattle.patterns.specs.declared.streams.Stream.TheVariants.{Output, Error}

-- where reports go, and what is said of a failure
abbrev pub standard_output : Stream
standard_output = Output

abbrev pub standard_error : Stream
standard_error = Error

-- what a read of at most n bytes answers: how many it gave, or none where it failed
abbrev pub Counted : ℕ → Option ℕ → Type 0
Counted n (Some j) = j ≤ n
Counted n None = Unit {0}

-- what standard input is read into, the store, the library's answers, and what is printed
pub record Buffers : Type 0 where
  pub window : List ℕ
  pub store : List ℕ
  pub answer : List ℕ
  pub out : List ℕ

abbrev pub lent : List ℕ → List ℕ → List ℕ → List ℕ → Buffers
lent w b a o = record { window = w; store = b; answer = a; out = o }

-- ---- changed

abbrev pub with_window : Buffers → List ℕ → Buffers
with_window s w = lent w s.store s.answer s.out

abbrev pub with_store : Buffers → List ℕ → Buffers
with_store s b = lent s.window b s.answer s.out

-- a report stands in front of the fourth, to be printed
abbrev pub with_report : Buffers → Text → Buffers
with_report s x = lent s.window s.store s.answer (in_front x s.out)

-- what a call of the library comes to, and the buffers when its report has been made
abbrev pub called : Buffers → Call → Called
called s c = made s.window s.store s.answer c

abbrev pub with_call : Buffers → Call → Buffers
with_call s c = let m = called s c in with_report (lent s.window m.store m.answer s.out) (report_text c m.tells m.answer)

-- ---- what is asked of them

-- in the setup the store holds what has been read of it
abbrev pub Ready : Phase → List ℕ → Type 0
Ready (Setup kind lines) b = BegunStore b × (kind ≤ 3)
Ready Lines b = Unit {0}
Ready (Listing n) b = Unit {0}

-- how many setup lines there were, a number of 64 bits with room for one more
unfoldable pub lines_at : Phase → ℕ
lines_at (Setup kind lines) = lines
lines_at Lines = 0
lines_at (Listing n) = 0

abbrev pub Countable : Phase → Type 0
Countable p = lines_at p < 18446744073709551615

-- the buffers for the library's answers and for reports
abbrev pub Answering : List ℕ → Type 0
Answering a = length a ≡ 4096

abbrev pub Reporting : List ℕ → Type 0
Reporting o = length o ≡ 4128

-- where a turn begins
pub record Held (at : Place) (s : Buffers) : Type 0 where
  pub placed : PlaceHeld at (length s.window)
  pub answering : Answering s.answer
  pub reporting : Reporting s.out
  pub ready : Ready at.phase s.store
  pub countable : Countable at.phase

-- and the first
pub record Wide (s : Buffers) : Type 0 where
  pub windowed : length s.window ≡ 65536
  pub stored : length s.store ≡ 65536
  pub answering : Answering s.answer
  pub reporting : Reporting s.out
