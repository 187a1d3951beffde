-- `nodes::paths::begins` meets its contract: the first bytes are compared one by one.
use Rattle.std.proofs.Common.{List, [], ◌∷◌, ℕ, ◌≡◌, refl, ◌∙◌, nat_eq, take, length}
use lib.Pointwise.{pointwise}
use Rattle.buffers.specs.Text.{same_text}
use Rattle.buffers.specs.Cases.{eqb_flip}
use Rattle.nodes.proofs.paths.begins.Goals as goal

-- two texts are compared in either order
compared : (s t : List ℕ) → pointwise nat_eq s t ≡ same_text t s
unfolding same_text
compared [] [] = refl
compared [] (b ∷ t) = refl
compared (a ∷ s) [] = refl
compared (a ∷ s) (b ∷ t) = rw (eqb_flip a b, compared s t)

pub returns : goal.returns
returns c = c.starts_with.ensures.value ∙ compared c.args.front.now (take (length c.args.front.now) c.args.text.now)
