-- Laws of `may_replace`: what it refuses by, and what has passed it.
use Rattle.std.specs.Prelude.{◌≡◌, refl, false, not}
use Rattle.std.proofs.Common.{sym, ◌∙◌, ap}
use Rattle.std.proofs.Math.Option.{Option, none, some}
use Rattle.std.proofs.lemmas.Bool.{not-true}
use Rattle.buffers.specs.Cases.{case, contra}
use Rattle.syntax.specs.Path.{Path, same_path}
use Rattle.syntax.proofs.WithinLaws.{same_path_sound}
use Rattle.syntax.proofs.FormLaws.{no_answer}
use Rattle.tree.specs.declared.Kind.{Kind}
use Rattle.tree.specs.declared.Kind.TheVariants.{File, Directory}
use Rattle.tree.specs.declared.Cause.{Cause}
use Rattle.tree.specs.declared.Cause.TheVariants.{Exists, WrongKind}
use Rattle.tree.specs.Result.{done, require}
use Rattle.tree.proofs.ResultLaws.{required, then_done}
use Rattle.tree.specs.Outcomes.{gives, Refuses}
use Rattle.tree.proofs.GivesLaws.{require_refuses, only_refuses, weaker, then_check}
use Rattle.tree.specs.Forest.{Place, place_at}
use Rattle.tree.specs.Node.{Node, is_directory}
use Rattle.tree.proofs.JudgeLaws.{directory_is_one}
use Rattle.shell.specs.Steps.{may_replace}

-- it refuses by 6 and 7 alone
pub replace_refuses : {R : Cause → Type 0} → R Exists → R WrongKind → (kind : Kind) (o : Option (Place Node)) → Refuses R (may_replace kind o)
unfolding may_replace
replace_refuses e w kind none = gives refl
replace_refuses e w kind (some g) = only_refuses {P = λ _. Unit {0}} (then_check Exists e _ λ _. weaker (λ _ _. tt) (require_refuses WrongKind w _))

-- what is replaced is a file, and so is what replaces it
pub both_files : (kind : Kind) (g : Place Node) → may_replace kind (some g) ≡ done tt → (is_directory g.here.kind ≡ false) × (is_directory kind ≡ false)
unfolding may_replace
both_files kind g e =
    let i = then_done (require (not (is_directory g.here.kind)) Exists) (require (not (is_directory kind)) WrongKind) e in
    (not-true (is_directory g.here.kind) (required _ Exists i.0), not-true (is_directory kind) (required _ WrongKind i.1))

-- two kinds that are no directory's are one
pub same_files : (k l : Kind) → is_directory k ≡ false → is_directory l ≡ false → k ≡ l
same_files File File a b = refl
same_files File Directory a b = contra directory_is_one b
same_files Directory l a b = contra directory_is_one a

-- where something stands and nothing stands are two paths
pub no_same : (t : Place Node) {x : Place Node} (a b : Path) → place_at t a ≡ some x → place_at t b ≡ none → same_path a b ≡ false
no_same t a b h z = case (same_path a b) (λ s. no_answer (sym z ∙ ap (place_at t) (sym (same_path_sound a b s)) ∙ h)) (λ s. s)
