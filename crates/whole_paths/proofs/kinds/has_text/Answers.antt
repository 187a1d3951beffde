-- `whole_paths::kinds::has_text` meets its contract: the definition lists the kinds one by one.
use Rattle.std.proofs.Common.{◌≡◌, refl, true, false}
use mathlib.Core.Logic.{◌⊎◌, inl, inr}
use Rattle.arguments.specs.declared.ArgumentKind.{ArgumentKind}
use Rattle.arguments.specs.declared.ArgumentKind.TheVariants as a
use Rattle.whole_paths.specs.WholeText.{has_text}
use Rattle.whole_paths.proofs.kinds.has_text.Goals as goal

text : (k : ArgumentKind) → (k ≡ a.Path) ⊎ ((k ≡ a.Entry) ⊎ ((k ≡ a.Password) ⊎ (k ≡ a.Content))) → true ≡ has_text k
unfolding has_text
text k (inl e) = rw e
text k (inr (inl e)) = rw e
text k (inr (inr (inl e))) = rw e
text k (inr (inr (inr e))) = rw e

no_text : (k : ArgumentKind) → (k ≡ a.Path → ⊥) → (k ≡ a.Entry → ⊥) → (k ≡ a.Password → ⊥) → (k ≡ a.Content → ⊥) → false ≡ has_text k
unfolding has_text
no_text a.Path p e w x = absurd (p refl)
no_text a.Entry p e w x = absurd (e refl)
no_text a.Mode p e w x = refl
no_text a.Plain p e w x = refl
no_text a.Uid p e w x = refl
no_text a.Gid p e w x = refl
no_text a.Role p e w x = refl
no_text a.Password p e w x = absurd (w refl)
no_text a.Content p e w x = absurd (x refl)
no_text a.Absent p e w x = refl

pub returns-in-Path : goal.returns-in-Path
returns-in-Path c = text c.args.kind c.in-Path.is

pub returns-in_default : goal.returns-in_default
returns-in_default c = no_text c.args.kind c.in_default.not-Path c.in_default.not-Entry c.in_default.not-Password c.in_default.not-Content
