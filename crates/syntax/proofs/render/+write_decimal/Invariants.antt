use Rattle.syntax.proofs.render.+write_decimal.Given as goal

-- the number falls
abbrev pub decreases-write_decimal : goal.decreases-write_decimal
decreases-write_decimal l = l.n
