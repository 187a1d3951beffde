-- What a turn leaves: a place in the window from which the next may begin, and its report in front of the fourth buffer.
use Rattle.std.specs.Prelude.{◌≡◌, refl, List, Bool, true, false, length, Option, Some, None}
use Rattle.std.proofs.Common.{sym, arith}
use Rattle.std.proofs.Math.Path.{ap, subst}
use Prim.Native.Nat.{ℕ, suc, ◌≤◌}
use Rattle.syntax.specs.Parts.{part}
use Rattle.setup.specs.SetupStep.{LineAnswer, leads_on, ends_it, is_wrong, setup_step}
use Rattle.setup.proofs.SetupStepLaws.{step_kind}
use Rattle.store.specs.SetupHeader.{reading_in}
use Rattle.setups.specs.LineRead.{line_call}
use Rattle.setups.specs.OpeningLaws.{line_begun}
use Rattle.printing.specs.Printed.{in_front}
use Rattle.agenda.specs.declared.Phase.{Phase}
use Rattle.agenda.specs.declared.Phase.TheVariants as phase
use Rattle.agenda.specs.declared.Place.{Place}
use Rattle.agenda.specs.declared.Next.{Next}
use Rattle.agenda.specs.declared.Next.TheVariants as next
use Rattle.agenda.specs.declared.Step.{Step}
use Rattle.agenda.specs.declared.Step.TheVariants.{On, Ended, Failed}
use Rattle.agenda.specs.Agenda.{PlaceHeld, NextHeld, NextLeads, SetUp, ReadFits, next_of, read_step, print_step}
use Rattle.agenda.proofs.AgendaLaws.{next_held, next_leads, read_held}
use Rattle.patterns.specs.Buffers.{Buffers, Ready, lines_at, Held}
use Rattle.patterns.specs.Turns.{LineMade, Does, Turns}
use Rattle.patterns.specs.Serving.{line_report, turn_report}

-- ---- where the next turn begins

-- the place that a turn leaves lies in the window, has its store ready, and is at most one line further
abbrev Leaves : Phase → Place → Buffers → Type 0
Leaves p then s = PlaceHeld then (length s.window) × (Ready then.phase s.store × (lines_at then.phase ≤ suc (lines_at p)))

abbrev pub Leads : Phase → Step → Buffers → Type 0
Leads p (On then) s = Leaves p then s
Leads p Ended s = Unit {0}
Leads p Failed s = Unit {0}

leads_as : (p : Phase) {r y : Step} {s x : Buffers} → r ≡ y → s ≡ x → Leads p y x → Leads p r s
leads_as p {r} {y} {s} {x} e q h = subst (λ (z : Step). Leads p z s) (sym e) (subst (Leads p y) (sym q) h)

-- behind the setup every store is ready
beyond : (q p : Phase) (b : List ℕ) → SetUp q → Ready q b × (lines_at q ≤ suc (lines_at p))
unfolding lines_at
beyond (phase.Setup kind lines) p b h = absurd h
beyond phase.Lines p b h = (tt, omega arith)
beyond (phase.Listing n) p b h = (tt, omega arith)

-- behind a print
print_leads : (p : Phase) (printed more : Bool) (then : Place) (s : Buffers) → Leaves p then s → Leads p (print_step printed more then) s
unfolding print_step
print_leads p false more then s h = tt
print_leads p true true then s h = h
print_leads p true false then s h = tt

-- one that ends the program leaves no place
last_leads : (p : Phase) (printed : Bool) (then : Place) (s : Buffers) → Leads p (print_step printed false then) s
unfolding print_step
last_leads p false then s = tt
last_leads p true then s = tt

-- behind a read
read_leads : (at : Place) (got : Option ℕ) (s : Buffers) → PlaceHeld at (length s.window) → ReadFits at got → Ready at.phase s.store
    → Leads at.phase (read_step at got) s
unfolding read_step
read_leads at (Some n) s h fits ready = (read_held at (length s.window) n h (omega (arith, fits, h.wide)), (ready, omega arith))
read_leads at None s h fits ready = tt

module _ (at : Place) (s : Buffers) (h : Held at s) where
  -- behind a setup line
  module _ (r : Step) (s' : Buffers) (e kind lines : ℕ) (k : NextLeads (next.Line e kind lines) at) where
    begun : Ready (phase.Setup kind lines) s.store
    begun = subst (λ (p : Phase). Ready p s.store) k.0 h.ready

    line_leads : (x : LineAnswer) → setup_step (part s.window at.from e) (reading_in kind s.store) ≡ x → LineMade r at e lines (line_call s.store x) s s' → Leads at.phase r s'
    unfolding line_call lines_at
    line_leads (leads_on d) z m =
        leads_as at.phase m.0 m.1 (
          record { wide = h.placed.wide; ordered = omega (arith, k.1.1); within = h.placed.within },
          (
            (line_begun s.store (part s.window at.from e) kind d begun.0 z, step_kind (part s.window at.from e) (reading_in kind s.store) d z),
            subst (λ (p : Phase). suc lines ≤ suc (lines_at p)) (sym k.0) (omega arith),
          ),
        )
    line_leads ends_it z m =
        leads_as at.phase m.0 m.1 (record { wide = h.placed.wide; ordered = omega (arith, k.1.1); within = h.placed.within }, (tt, omega arith))
    line_leads is_wrong z m = leads_as at.phase m.0.leads m.1 (last_leads at.phase m.0.printed at _)

  does_leads : (k : Next) (r : Step) (s' : Buffers) → NextHeld k (length s.window) → NextLeads k at → Does k r at s s' → Leads at.phase r s'
  does_leads (next.Call c then) r s' held l d =
      leads_as at.phase d.0.leads d.1 (print_leads at.phase d.0.printed _ then _ (held.1, beyond then.phase at.phase _ l))
  does_leads (next.On then) r s' held l d = leads_as at.phase d.0 d.1 (held, beyond then.phase at.phase s.store l)
  does_leads next.Read r s' held l d =
      let placed = subst (PlaceHeld at) (sym d.0.long) h.placed in
      leads_as at.phase d.0.leads d.1 (read_leads at d.0.got _ placed d.0.fits h.ready)
  does_leads next.Over r s' held l d = leads_as at.phase d.0 d.1 tt
  does_leads (next.Line e kind lines) r s' held l d = line_leads r s' e kind lines l _ refl d
  does_leads (next.Wrong lines) r s' held l d = leads_as at.phase d.0.leads d.1 (last_leads at.phase d.0.printed at _)

  pub turn_leads : (r : Step) (s' : Buffers) → Turns r at s s' → Leads at.phase r s'
  turn_leads r s' t = does_leads (next_of s.window at) r s' (next_held s.window at h.placed) (next_leads s.window at h.placed) t

-- ---- what stands in the fourth buffer

module _ (at : Place) (s s' : Buffers) (r : Step) where
  abbrev out_of : Buffers → List ℕ
  out_of x = x.out

  line_prints : (e lines : ℕ) (x : LineAnswer) → LineMade r at e lines (line_call s.store x) s s' → s'.out ≡ in_front (line_report lines x) s.out
  unfolding line_call line_report
  line_prints e lines (leads_on d) m = ap out_of m.1
  line_prints e lines ends_it m = ap out_of m.1
  line_prints e lines is_wrong m = ap out_of m.1

  does_print : (k : Next) → Does k r at s s' → s'.out ≡ in_front (turn_report at s k) s.out
  unfolding turn_report
  does_print (next.Call c then) d = ap out_of d.1
  does_print (next.On then) d = ap out_of d.1
  does_print next.Read d = ap out_of d.1
  does_print next.Over d = ap out_of d.1
  does_print (next.Line e kind lines) d = line_prints e lines (setup_step (part s.window at.from e) (reading_in kind s.store)) d
  does_print (next.Wrong lines) d = ap out_of d.1

  -- its report; where there is none, the buffer stays
  pub turn_prints : Turns r at s s' → s'.out ≡ in_front (turn_report at s (next_of s.window at)) s.out
  turn_prints t = does_print (next_of s.window at) t
