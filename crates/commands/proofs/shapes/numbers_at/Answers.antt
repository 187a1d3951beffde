-- `commands::shapes::numbers_at` meets its contract: each test on the way decides the definition.
use Rattle.std.proofs.Common.{sym, ◌∙◌, eq-eqb, ne_eqb}
use Rattle.buffers.specs.Options.{option_some, option_none}
use Rattle.commands.specs.Parsed.{numbers_of, numbers_in}
use Rattle.commands.proofs.shapes.numbers_at.Goals as goal

pub returns-then-f-shape : goal.returns-then-f-shape
unfolding numbers_in
returns-then-f-shape c = rw (ne_eqb _ _ c.if-f-shape.true)

pub returns-in_err-first : goal.returns-in_err-first
unfolding numbers_in numbers_of
returns-in_err-first c =
    let e = sym (option_none c.in_err-first.was) ∙ c.argument_at.ensures in
    rw (c.from_residual.ensures, eq-eqb _ _ c.if-f-shape.false, ← e)

pub returns-in_err-second : goal.returns-in_err-second
unfolding numbers_in numbers_of
returns-in_err-second c =
    let n = sym (option_some c.in_ok-first.was) ∙ c.argument_at.ensures in
    let e = sym (option_none c.in_err-second.was) ∙ c.argument_at-2.ensures in
    rw (c.from_residual-in_err-second.ensures, eq-eqb _ _ c.if-f-shape.false, ← n, ← e)

pub returns-in_err-third : goal.returns-in_err-third
unfolding numbers_in numbers_of
returns-in_err-third c =
    let n = sym (option_some c.in_ok-first.was) ∙ c.argument_at.ensures in
    let m = sym (option_some c.in_ok-second.was) ∙ c.argument_at-2.ensures in
    let e = sym (option_none c.in_err-third.was) ∙ c.argument_at-3.ensures in
    rw (c.from_residual-in_err-third.ensures, eq-eqb _ _ c.if-f-shape.false, ← n, ← m, ← e)

pub returns : goal.returns
unfolding numbers_in numbers_of
returns c =
    let n = sym (option_some c.in_ok-first.was) ∙ c.argument_at.ensures in
    let m = sym (option_some c.in_ok-second.was) ∙ c.argument_at-2.ensures in
    let l = sym (option_some c.in_ok-third.was) ∙ c.argument_at-3.ensures in
    rw (eq-eqb _ _ c.if-f-shape.false, ← n, ← m, ← l)
