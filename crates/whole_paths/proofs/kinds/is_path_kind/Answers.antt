-- `whole_paths::kinds::is_path_kind` meets its contract: the definition lists the kinds one by one.
use Rattle.std.proofs.Common.{◌≡◌, refl, false}
use Rattle.arguments.specs.declared.ArgumentKind.{ArgumentKind}
use Rattle.arguments.specs.declared.ArgumentKind.TheVariants as a
use Rattle.whole_paths.specs.WholeText.{is_path_kind}
use Rattle.whole_paths.proofs.kinds.is_path_kind.Goals as goal

no_path : (k : ArgumentKind) → (k ≡ a.Path → ⊥) → false ≡ is_path_kind k
unfolding is_path_kind
no_path a.Path h = absurd (h refl)
no_path a.Entry h = refl
no_path a.Mode h = refl
no_path a.Plain h = refl
no_path a.Uid h = refl
no_path a.Gid h = refl
no_path a.Role h = refl
no_path a.Password h = refl
no_path a.Content h = refl
no_path a.Absent h = refl

pub returns-in-Path : goal.returns-in-Path
unfolding is_path_kind
returns-in-Path c = rw c.in-Path.is

pub returns-in_default : goal.returns-in_default
returns-in_default c = no_path c.args.kind c.in_default.not-Path
