-- What `a && b` comes to where the code tests a and then b: b if a passes, and else false.
use Rattle.std.specs.Prelude.{◌≡◌, Bool, true, false, ◌&&◌}
use Rattle.std.proofs.Common.{sym, ◌∙◌}

-- the first test passes, and the second decides
pub both : {v r a b : Bool} → r ≡ a → r ≡ true → v ≡ b → v ≡ (a && b)
both e t q = rw (sym e ∙ t) q

-- the first fails, and decides
pub not_both : {v r a : Bool} (b : Bool) → r ≡ a → r ≡ false → v ≡ r → v ≡ (a && b)
not_both b e f q = rw (sym e ∙ f) (q ∙ f)
