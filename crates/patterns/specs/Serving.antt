-- What the turns of a run print and read, as far as its buffers tell: the reports that they make, and the bytes that reads leave in the window.
use Rattle.std.specs.Prelude.{◌≡◌, List, [], ◌++◌, true, ℕ, suc, ◌-◌}
use Rattle.buffers.specs.Text.{Text}
use Rattle.syntax.specs.Parts.{part}
use Rattle.setup.specs.SetupStep.{LineAnswer, leads_on, ends_it, is_wrong, setup_step}
use Rattle.store.specs.SetupHeader.{reading_in}
use Rattle.agenda.specs.declared.Place.{Place}
use Rattle.agenda.specs.declared.Next.{Next}
use Rattle.agenda.specs.declared.Next.TheVariants as next
use Rattle.agenda.specs.Agenda.{next_of, refusal, report_text}
use Rattle.patterns.specs.Buffers.{Buffers, called}
use Rattle.patterns.specs.Turns.{Serves, spent, ended, failed, goes}

-- what is printed for a setup line, behind so many
unfoldable pub line_report : ℕ → LineAnswer → Text
line_report lines (leads_on d) = []
line_report lines ends_it = []
line_report lines is_wrong = refusal (suc lines)

-- what a turn prints
unfoldable pub turn_report : Place → Buffers → Next → Text
turn_report at s (next.Call c then) = let m = called s c in report_text c m.tells m.answer
turn_report at s (next.On then) = []
turn_report at s next.Read = []
turn_report at s next.Over = []
turn_report at s (next.Line e kind lines) = line_report lines (setup_step (part s.window at.from e) (reading_in kind s.store))
turn_report at s (next.Wrong lines) = refusal (suc lines)

-- what all turns print
unfoldable pub reports : {n : ℕ} {at : Place} {s s' : Buffers} → Serves n at s s' → Text
reports spent = []
reports {at = at} {s = s} (ended t) = turn_report at s (next_of s.window at)
reports {at = at} {s = s} (failed t) = turn_report at s (next_of s.window at)
reports {at = at} {s = s} (goes t x) = turn_report at s (next_of s.window at) ++ reports x

-- what a turn takes of the input u that is ahead, where u₁ is left: a read the bytes that it leaves in the window, none only at the input's end
pub record Took (at then : Place) (w₁ : List ℕ) (u u₁ : Text) : Type 0 where
  pub bytes : part w₁ (at.to - at.from) then.to ++ u₁ ≡ u
  pub none : then.ended ≡ true → u₁ ≡ []

abbrev pub Takes : Next → Place → Place → List ℕ → Text → Text → Type 0
Takes (next.Call c k) at then w₁ u u₁ = u₁ ≡ u
Takes (next.On k) at then w₁ u u₁ = u₁ ≡ u
Takes next.Read at then w₁ u u₁ = Took at then w₁ u u₁
Takes next.Over at then w₁ u u₁ = u₁ ≡ u
Takes (next.Line e kind lines) at then w₁ u u₁ = u₁ ≡ u
Takes (next.Wrong lines) at then w₁ u u₁ = u₁ ≡ u

-- a run that came to its end, in which the reads gave the input u
unfoldable pub Fed : {n : ℕ} {at : Place} {s s' : Buffers} → Serves n at s s' → Text → Type 0
Fed spent u = ⊥
Fed (ended t) u = Unit {0}
Fed (failed t) u = ⊥
Fed {at = at} {s = s} (goes {then = then} {s₁ = s₁} t x) u = (u₁ : Text) × Takes (next_of s.window at) at then s₁.window u u₁ × Fed x u₁
