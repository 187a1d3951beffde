-- `whole_paths::kinds::begins_with_slash` meets its contract: the first byte decides, where there is one.
use mathlib.Core.Path.{◌≡◌, refl}
use mathlib.Core.List.{[], ◌∷◌}
use mathlib.Core.Bool.{false}
use Prim.Native.Nat.{◌<◌}
use native.Mathlib.Omega.{arith}
use lib.Dec.{eqb}
use lib.ListN.{length, get_or}
use Rattle.buffers.specs.Text.{Text}
use Rattle.syntax.specs.Path.{begins_with_slash}
use Rattle.whole_paths.proofs.kinds.begins_with_slash.Goals as goal

no_byte : (t : Text) → length t ≡ 0 → false ≡ begins_with_slash t
unfolding begins_with_slash
no_byte [] h = refl
no_byte (b ∷ t) h = let z : ⊥ = omega arith in absurd z

first_byte : (t : Text) → 0 < length t → eqb (get_or t 0 0) 47 ≡ begins_with_slash t
unfolding begins_with_slash
first_byte [] h = let z : ⊥ = omega arith in absurd z
first_byte (b ∷ t) h = refl

pub returns-then-s-eq0 : goal.returns-then-s-eq0
returns-then-s-eq0 c = no_byte c.args.s.now c.if-s-eq0.true

pub returns : goal.returns
returns c = first_byte c.args.s.now (omega arith)
