-- `buffers::texts::same` meets its contract: `same_text` compares as the test of slices does.
use Rattle.std.proofs.Common.{◌≡◌, ℕ, List, [], ◌∷◌, Bool, ◌&&◌, refl, ◌∙◌, ap}
use Rattle.std.specs.Str.{bytes_eq}
use lib.Dec.{eqb}
use Rattle.buffers.specs.Text.{same_text}
use Rattle.buffers.proofs.texts.same.Goals as goal

compared : (s t : List ℕ) → bytes_eq s t ≡ same_text s t
unfolding same_text
compared [] [] = refl
compared [] (b ∷ t) = refl
compared (a ∷ s) [] = refl
compared (a ∷ s) (b ∷ t) = ap (λ (r : Bool). eqb a b && r) (compared s t)

pub returns : goal.returns
returns c = c.eq.ensures ∙ compared c.args.s.now c.args.t.now
