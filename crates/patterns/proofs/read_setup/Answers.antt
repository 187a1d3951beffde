-- `patterns::read_setup` meets its contract: by what the line comes to.
use mathlib.Core.Path.{◌≡◌, refl, sym, ◌∙◌, ap, ap₂, subst}
use mathlib.Core.List.{List}
use Rattle.std.specs.Prelude.{Option, Some, None}
use Prim.Native.Nat.{ℕ, suc}
use native.Mathlib.Numerals.{add-one}
use Rattle.syntax.specs.Parts.{part}
use Rattle.setups.specs.declared.LineRead.{LineRead}
use Rattle.setups.specs.declared.LineRead.TheVariants as read
use Rattle.setups.specs.LineRead.{LineDone, read_as}
use Rattle.agenda.specs.declared.Place.{Place}
use Rattle.agenda.specs.declared.Step.{Step}
use Rattle.agenda.specs.declared.Step.TheVariants.{On}
use Rattle.agenda.specs.Agenda.{lines_from, setup_from}
use Rattle.patterns.specs.Buffers.{Buffers, lent, with_store}
use Rattle.patterns.specs.Turns.{LineGoes, LineMade}
use Rattle.patterns.proofs.read_setup.Goals as goal

-- what a line was told as, and what was done with it
made_by : (r : Step) (at : Place) (e lines : ℕ) (m : LineDone) (x : Option LineRead) (b : List ℕ) (s s' : Buffers) → read_as x b ≡ m → LineGoes r at e lines x (with_store s b) s'
    → LineMade r at e lines m s s'
made_by r at e lines m x b s s' q g = subst (λ (y : LineDone). LineGoes r at e lines y.answer (with_store s y.header) s') q g

pub returns-in-More : goal.returns-in-More
unfolding part
returns-in-More c =
    let a = c.args in
    let l = c.setup_line in
    let f = c.setup_from in
    let d = c.in-More.next in
    let s = lent a.window.now a.store.now a.answer.now a.out.now in
    let is : f.result ≡ setup_from a.at (suc a.end) d (suc a.lines) = f.ensures ∙ ap₂ (λ (x y : ℕ). setup_from a.at x d y) (add-one a.end) (add-one a.lines) in
    made_by (On f.result) a.at a.end a.lines _ (Some (read.More d)) l.new.store s (with_store s l.new.store)
    (ap (λ (y : Option LineRead). read_as y l.new.store) (sym (c.in-Some.is ∙ ap Some c.in-More.is)) ∙ l.ensures) (ap On is, refl)

pub returns-in-End : goal.returns-in-End
unfolding part
returns-in-End c =
    let a = c.args in
    let l = c.setup_line in
    let f = c.lines_from in
    let s = lent a.window.now a.store.now a.answer.now a.out.now in
    let is : f.result ≡ lines_from a.at (suc a.end) = f.ensures ∙ ap (lines_from a.at) (add-one a.end) in
    made_by (On f.result) a.at a.end a.lines _ (Some read.End) l.new.store s (with_store s l.new.store)
    (ap (λ (y : Option LineRead). read_as y l.new.store) (sym (c.in-Some.is ∙ ap Some c.in-End.is)) ∙ l.ensures) (ap On is, refl)

pub returns-in_default : goal.returns-in_default
unfolding part
returns-in_default c =
    let a = c.args in
    let l = c.setup_line in
    let r = c.refused in
    let s = lent a.window.now a.store.now a.answer.now a.out.now in
    let o = lent a.window.now l.new.store a.answer.now in
    made_by r.result a.at a.end a.lines _ None l.new.store s (o r.new.out)
    (ap (λ (y : Option LineRead). read_as y l.new.store) (sym c.in_default.is) ∙ l.ensures) (r.ensures.reported, ap o r.ensures.out_after)
