-- What the program does next: by the phase it is in, the bytes of its window, and its place in them. What is printed for each call,
-- and whether the program goes on behind it.
use Rattle.std.specs.Prelude.{◌≡◌, List, [], ◌∷◌, ◌++◌, Bool, true, false, cond, not, ℕ, suc, ◌+◌, ◌-◌, ◌≤◌, ◌<◌, eqb, ltb, length, take, Option, Some, None, Err}
use Rattle.buffers.specs.Text.{Text, same_text}
use Rattle.syntax.specs.Pieces.{bytes, newline}
use Rattle.tree.specs.declared.Cause.TheVariants.{Missing}
use Rattle.tree.specs.Causes.{number}
use Rattle.tree.specs.declared.Refusal.TheVariants.{WrongLine}
use Rattle.shell.specs.Replies.{Told, told}
use Rattle.calls.specs.Program.{text_told, refused_line, call_line}
use Rattle.agenda.specs.declared.NextLine.{NextLine}
use Rattle.agenda.specs.declared.NextLine.TheVariants as found
use Rattle.agenda.specs.declared.Phase.{Phase}
use Rattle.agenda.specs.declared.Phase.TheVariants as phase
use Rattle.agenda.specs.declared.Place.{Place}
use Rattle.agenda.specs.declared.Call.{Call}
use Rattle.agenda.specs.declared.Call.TheVariants as call
use Rattle.agenda.specs.declared.Next.{Next}
use Rattle.agenda.specs.declared.Next.TheVariants as next
use Rattle.agenda.specs.declared.Step.{Step}
use Rattle.agenda.specs.declared.Step.TheVariants as step
use Rattle.agenda.specs.declared.Asked.{Asked}
use Rattle.agenda.specs.declared.Asked.TheVariants as asked
use Rattle.agenda.specs.InputLines.{next_line}

-- a place lies in a window of so many bytes
pub record PlaceHeld (at : Place) (n : ℕ) : Type 0 where
  pub wide : n ≡ 65536
  pub ordered : at.from ≤ at.to
  pub within : at.to ≤ n

-- the bytes that a call is made with lie in it
abbrev pub CallHeld : Call → ℕ → Type 0
CallHeld (call.Run a e) n = (a ≤ e) × (e ≤ n)
CallHeld (call.List k) n = Unit {0}

-- what is to be done stays in it
abbrev pub NextHeld : Next → ℕ → Type 0
NextHeld (next.Line e kind lines) n = e < n
NextHeld (next.Wrong lines) n = Unit {0}
NextHeld (next.Call c then) n = CallHeld c n × PlaceHeld then n
NextHeld (next.On at) n = PlaceHeld at n
NextHeld next.Read n = Unit {0}
NextHeld next.Over n = Unit {0}

-- behind the setup
abbrev pub SetUp : Phase → Type 0
SetUp (phase.Setup kind lines) = ⊥
SetUp phase.Lines = Unit {0}
SetUp (phase.Listing n) = Unit {0}

-- what a turn may rely on, from a place
abbrev pub NextLeads : Next → Place → Type 0
NextLeads (next.Line e kind lines) at = (at.phase ≡ phase.Setup kind lines) × ((at.from ≤ e) × (e < at.to))
NextLeads (next.Wrong lines) at = (kind : ℕ) × (at.phase ≡ phase.Setup kind lines)
NextLeads (next.Call c then) at = SetUp then.phase
NextLeads (next.On then) at = SetUp then.phase
NextLeads next.Read at = Unit {0}
NextLeads next.Over at = Unit {0}

-- ---- places

-- where a command line begins
abbrev pub lines_from : Place → ℕ → Place
lines_from at p = record { from = p; to = at.to; ended = at.ended; passing = false; phase = phase.Lines }

-- at a line of the listing
abbrev pub listed_from : Place → ℕ → Place
listed_from at n = record { from = at.from; to = at.to; ended = at.ended; passing = false; phase = phase.Listing n }

-- where all that has been read belongs to a line that has been answered
abbrev pub passing_from : ℕ → Place
passing_from p = record { from = p; to = p; ended = false; passing = true; phase = phase.Lines }

-- when so many bytes have been read behind those that are left, which stand at the window's front
abbrev pub read_place : Place → ℕ → Place
read_place at got = record { from = 0; to = (at.to - at.from) + got; ended = eqb got 0; passing = at.passing; phase = at.phase }

-- ---- the setup

-- behind a setup line of a kind, with how many lines there were
abbrev pub setup_from : Place → ℕ → ℕ → ℕ → Place
setup_from at p kind lines = record { from = p; to = at.to; ended = at.ended; passing = false; phase = phase.Setup kind lines }

-- a line whose end has not been read: no good line fills a window of so many bytes
unfoldable pub open_line : ℕ → Place → ℕ → Next
open_line n at lines = cond (ltb (at.to - at.from) n) next.Read (next.Wrong lines)

-- by what the next line is; one without byte 10 is wrong, and so is none
unfoldable pub found_setup_line : ℕ → Place → ℕ → ℕ → NextLine → Next
found_setup_line n at kind lines (found.Line end) = next.Line end kind lines
found_setup_line n at kind lines found.Last = next.Wrong lines
found_setup_line n at kind lines found.More = open_line n at lines
found_setup_line n at kind lines found.Nothing = next.Wrong lines

unfoldable pub setup_next : Text → Place → ℕ → ℕ → Next
setup_next t at kind lines = found_setup_line (length t) at kind lines (next_line (take at.to t) at.from at.ended)

-- ---- the command lines

-- a line is run, unless it has been answered
unfoldable pub taken : Place → ℕ → Place → Next
taken at end rest = cond at.passing (next.On rest) (next.Call (call.Run at.from end) rest)

-- a line whose end has not been read: of one that fills the window the first bytes stand for the whole
unfoldable pub unended : ℕ → Place → Next
unended n at = cond (ltb (at.to - at.from) n) next.Read (taken at at.to (passing_from at.to))

-- by what the next line is
unfoldable pub found_line : ℕ → Place → NextLine → Next
found_line n at (found.Line end) = taken at end (lines_from at (suc end))
found_line n at found.Last = taken at at.to (lines_from at at.to)
found_line n at found.More = unended n at
found_line n at found.Nothing = next.On (listed_from at 0)

unfoldable pub line_next : Text → Place → Next
line_next t at = found_line (length t) at (next_line (take at.to t) at.from at.ended)

-- ---- the listing

-- 256 nodes have a line each, and one call more says that there is none
unfoldable pub list_next : Place → ℕ → Next
list_next at n = cond (ltb n 257) (next.Call (call.List n) (listed_from at (suc n))) next.Over

-- ---- all phases

unfoldable pub by_phase : Text → Place → Phase → Next
by_phase t at (phase.Setup kind lines) = setup_next t at kind lines
by_phase t at phase.Lines = line_next t at
by_phase t at (phase.Listing n) = list_next at n

unfoldable pub next_of : Text → Place → Next
next_of t at = by_phase t at at.phase

-- ---- what is printed, and whether the program goes on

-- of a setup the number of its first wrong line
unfoldable pub refusal : ℕ → Text
refusal n = refused_line (told (Err (WrongLine n))) ++ (newline ∷ [])

-- of the listing a line that is there
unfoldable pub list_report : Told → List ℕ → Text
list_report t answer = cond (eqb (number Missing) t.number) [] (text_told t.values answer ++ (newline ∷ []))

unfoldable pub report_text : Call → Told → List ℕ → Text
report_text (call.Run a e) t answer = call_line t answer ++ (newline ∷ [])
report_text (call.List n) t answer = list_report t answer

-- behind every command line, and a line of the listing that is there
unfoldable pub goes_on : Call → Told → Bool
goes_on (call.Run a e) t = true
goes_on (call.List n) t = not (eqb (number Missing) t.number)

-- ---- what a turn comes to

-- a read gave no more bytes than the window has room for behind those that are left
abbrev pub ReadFits : Place → Option ℕ → Type 0
ReadFits at (Some n) = (at.to - at.from) + n ≤ 65536
ReadFits at None = Unit {0}

-- one that gave none failed
unfoldable pub read_step : Place → Option ℕ → Step
read_step at (Some n) = step.On (read_place at n)
read_step at None = step.Failed

-- a report that was not printed is a failure; behind one that was, the program goes on from a place if there is more to do
unfoldable pub print_step : Bool → Bool → Place → Step
print_step false more then = step.Failed
print_step true more then = cond more (step.On then) step.Ended

-- ---- what the program is asked for

-- by how many arguments it was started with, its own name among them, and the first behind that
unfoldable pub asked_by : ℕ → Text → Asked
asked_by n first = cond (ltb n 2) asked.Run (cond (ltb 2 n) asked.Wrong (cond (same_text first (bytes "--help")) asked.Help asked.Wrong))
