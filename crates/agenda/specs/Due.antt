-- What a run of the program has still to print at each place, and in how many turns it does.
use Rattle.std.specs.Prelude.{◌≡◌, List, [], ◌∷◌, Bool, true, false, cond, ℕ, suc, ◌+◌, ◌-◌, ◌≤◌, length}
use Rattle.buffers.specs.Text.{Text}
use Rattle.syntax.specs.Pieces.{newline, pieces}
use Rattle.setup.specs.Setup.{is_setup}
use Rattle.store.specs.StoreBytes.{setup_of}
use Rattle.calls.specs.Transcript.{command_lines, lines_text}
use Rattle.calls.specs.Program.{list_lines, run_and_list}
use Rattle.calls.specs.ProgramByLines.{program_from}
use Rattle.agenda.specs.declared.Phase.{Phase}
use Rattle.agenda.specs.declared.Phase.TheVariants.{Setup, Lines, Listing}
use Rattle.agenda.specs.declared.Place.{Place}
use Rattle.agenda.specs.Agenda.{PlaceHeld}
use Rattle.agenda.specs.Conversation.{Talk, ahead}

-- all but the first
unfoldable pub past_first : List Text → List Text
past_first [] = []
past_first (p ∷ ps) = ps

-- the command lines of what is ahead; where its first belongs to a line that has been answered, those behind it
unfoldable pub lines_due : Bool → List Text → List Text
lines_due false ps = command_lines ps
lines_due true ps = command_lines (past_first ps)

unfoldable pub due_in : Talk → Phase → Text
due_in s (Setup kind lines) = program_from s.answer lines (record { kind = kind; so_far = setup_of s.store }) (pieces newline (ahead s.at s.window s.unread))
due_in s Lines = run_and_list s.store s.answer (lines_due s.at.passing (pieces newline (ahead s.at s.window s.unread)))
due_in s (Listing n) = lines_text (list_lines (257 - n) s.store s.answer n)

unfoldable pub due : Talk → Text
due s = due_in s s.at.phase

-- turns for the bytes that are still to be read and handled, and for the input's end
unfoldable pub busy : Place → ℕ → ℕ
busy at unread = unread + unread + (at.to - at.from) + cond at.ended 0 1

-- and for what follows them
unfoldable pub later : Phase → ℕ
later (Setup kind lines) = 260
later Lines = 259
later (Listing n) = suc (257 - n)

abbrev pub turns_due : Place → ℕ → ℕ
turns_due at unread = busy at unread + later at.phase

-- in the setup the store's header holds a setup in range
abbrev pub Ready : Talk → Phase → Type 0
Ready s (Setup kind lines) = is_setup (setup_of s.store) ≡ true
Ready s Lines = Unit {0}
Ready s (Listing n) = Unit {0}

-- what holds of a run at every turn
pub record Talking (s : Talk) : Type 0 where
  pub held : PlaceHeld s.at (length s.window)
  pub over : s.at.ended ≡ true → s.unread ≡ []
  pub ready : Ready s s.at.phase

-- what is printed at every place is what is due there, if so many turns are enough
abbrev pub Prints : (Talk → Text) → ℕ → Type 0
Prints f m = (s : Talk) → Talking s → turns_due s.at (length s.unread) ≤ m → f s ≡ due s
