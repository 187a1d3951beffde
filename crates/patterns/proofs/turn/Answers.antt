-- `patterns::turn` meets its contract: what it does is what is to be done next, and this stays in the window.
use mathlib.Core.Path.{◌≡◌, subst, sym, ◌∙◌}
use mathlib.Core.List.{List}
use Prim.Native.Nat.{ℕ, ◌≤◌, ◌<◌}
use lib.ListN.{length}
use Rattle.setups.specs.LineRead.{BegunStore}
use Rattle.agenda.specs.declared.Phase.{Phase}
use Rattle.agenda.specs.declared.Phase.TheVariants as phase
use Rattle.agenda.specs.declared.Next.{Next}
use Rattle.agenda.specs.Agenda.{NextHeld, NextLeads}
use Rattle.agenda.proofs.AgendaLaws.{next_held, next_leads}
use Rattle.patterns.specs.Buffers.{Ready, lines_at, Countable}
use Rattle.patterns.proofs.turn.Goals as goal

-- what a setup line may rely on
setup_ready : (p : Phase) (kind lines : ℕ) (b : List ℕ) → p ≡ phase.Setup kind lines → Ready p b → BegunStore b × (kind ≤ 3)
setup_ready p kind lines b e r = subst (λ (q : Phase). Ready q b) e r

lines_countable : (p : Phase) (kind lines : ℕ) → p ≡ phase.Setup kind lines → Countable p → lines < 18446744073709551615
unfolding lines_at
lines_countable p kind lines e n = subst Countable e n

pub make_call-requires-clause-call_held : goal.make_call-requires-clause-call_held
make_call-requires-clause-call_held c =
    let a = c.args in
    let h = next_held a.window.now a.at c.requires.placed in
    (subst (λ (n : Next). NextHeld n (length a.window.now)) (sym c.next.ensures ∙ c.in-Call.is) h).0

pub read_setup-requires-clause-begun_store : goal.read_setup-requires-clause-begun_store
read_setup-requires-clause-begun_store c =
    let a = c.args in
    let g = c.in-Line in
    let l = subst (λ (n : Next). NextLeads n a.at) (sym c.next.ensures ∙ g.is) (next_leads a.window.now a.at c.requires.placed) in
    (setup_ready a.at.phase g.kind g.lines a.store.now l.0 c.requires.ready).0

pub read_setup-requires-clause-kind_bound : goal.read_setup-requires-clause-kind_bound
read_setup-requires-clause-kind_bound c =
    let a = c.args in
    let g = c.in-Line in
    let l = subst (λ (n : Next). NextLeads n a.at) (sym c.next.ensures ∙ g.is) (next_leads a.window.now a.at c.requires.placed) in
    (setup_ready a.at.phase g.kind g.lines a.store.now l.0 c.requires.ready).1

pub read_setup-requires-clause-lines_bound : goal.read_setup-requires-clause-lines_bound
read_setup-requires-clause-lines_bound c =
    let a = c.args in
    let g = c.in-Line in
    let l = subst (λ (n : Next). NextLeads n a.at) (sym c.next.ensures ∙ g.is) (next_leads a.window.now a.at c.requires.placed) in
    lines_countable a.at.phase g.kind g.lines l.0 c.requires.countable

pub read_setup-requires-clause-from_le_end : goal.read_setup-requires-clause-from_le_end
read_setup-requires-clause-from_le_end c =
    let a = c.args in
    (subst (λ (n : Next). NextLeads n a.at) (sym c.next.ensures ∙ c.in-Line.is) (next_leads a.window.now a.at c.requires.placed)).1.0

pub read_setup-requires-clause-end_lt_to : goal.read_setup-requires-clause-end_lt_to
read_setup-requires-clause-end_lt_to c =
    let a = c.args in
    (subst (λ (n : Next). NextLeads n a.at) (sym c.next.ensures ∙ c.in-Line.is) (next_leads a.window.now a.at c.requires.placed)).1.1

pub refused-requires-clause-lines_bound : goal.refused-requires-clause-lines_bound
refused-requires-clause-lines_bound c =
    let a = c.args in
    let g = c.in-Wrong in
    let l = subst (λ (n : Next). NextLeads n a.at) (sym c.next.ensures ∙ g.is) (next_leads a.window.now a.at c.requires.placed) in
    lines_countable a.at.phase l.0 g.lines l.1 c.requires.countable
