-- `syntax::render::write_decimal`, which calls itself, meets its contract: the last digit stands behind the text of the others, and the
-- number falls.
use Rattle.std.proofs.Common.{arith}
use Rattle.syntax.proofs.RenderLaws.{wrote_digit, wrote_last, before_last_ends}
use Rattle.syntax.proofs.NumberLaws.{decimal_one, decimal_longer}
use Rattle.syntax.proofs.render.+write_decimal.Goals as goal

pub bounds-b-at : goal.bounds-b-at
bounds-b-at t c = omega (arith, decimal_one c.args.n (omega arith))

pub returns-then-n-lt10 : goal.returns-then-n-lt10
returns-then-n-lt10 t c = wrote_digit c.args.n c.args.b.now c.args.at (omega arith) (omega (arith, decimal_one c.args.n (omega arith)))

pub write_decimal-end-requires : goal.write_decimal-end-requires
write_decimal-end-requires t c = (omega arith, omega (arith, decimal_longer c.args.n (omega arith)))

pub bounds-b-end : goal.bounds-b-end
bounds-b-end t c =
    let w = c.write_decimal-end in
    let a = c.args in
    omega (arith, w.auto.b, before_last_ends a.n a.b.now a.at w.new.b w.result (omega arith) c.requires w.ensures)

pub overflow_add-result-2 : goal.overflow_add-result-2
overflow_add-result-2 t c =
    let w = c.write_decimal-end in
    let a = c.args in
    omega (arith, before_last_ends a.n a.b.now a.at w.new.b w.result (omega arith) c.requires w.ensures)

pub returns : goal.returns
returns t c =
    let w = c.write_decimal-end in
    let a = c.args in
    wrote_last a.n a.b.now a.at w.new.b w.result (omega arith) w.ensures w.auto.b
    (omega (arith, before_last_ends a.n a.b.now a.at w.new.b w.result (omega arith) c.requires w.ensures))
