-- `listing::fields::write_kind` meets its contract: each kind has its letter.
use mathlib.Core.Path.{sym, ap, ◌∙◌}
use mathlib.Core.List.{◌∷◌}
use native.Mathlib.Omega.{arith}
use Rattle.syntax.specs.Pieces.{bytes, comma}
use Rattle.tree.specs.declared.Kind.{Kind}
use Rattle.listing.specs.Listing.{kind_text}
use Rattle.listing.proofs.RowListingLaws.{writes_as}
use Rattle.listing.proofs.fields.write_kind.Goals as goal

pub returns-in-File : goal.returns-in-File
unfolding comma kind_text bytes
returns-in-File c =
    let w = c.write_behind in
    let is = sym c.in-File.is ∙ c.kind_at.ensures in
    writes_as (ap (λ (k : Kind). 44 ∷ kind_text k) is) (record { wrote = w.ensures; short = omega (arith, w.ensures.ends) })

pub returns-in-Directory : goal.returns-in-Directory
unfolding comma kind_text bytes
returns-in-Directory c =
    let w = c.write_behind-in-Directory in
    let is = sym c.in-Directory.is ∙ c.kind_at.ensures in
    writes_as (ap (λ (k : Kind). 44 ∷ kind_text k) is) (record { wrote = w.ensures; short = omega (arith, w.ensures.ends) })
