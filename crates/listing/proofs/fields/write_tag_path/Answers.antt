-- `listing::fields::write_tag_path` meets its contract: an empty text is `-`, another stands as it is.
use mathlib.Core.Path.{◌∙◌}
use lib.ListN.{length}
use borrow.Author.Tests.{eqb-true, eqb-false}
use mathlib.Core.Path.{sym, ap}
use mathlib.Core.List.{◌∷◌}
use native.Mathlib.Omega.{arith}
use Rattle.buffers.specs.Text.{Text}
use Rattle.syntax.specs.Pieces.{comma}
use Rattle.listing.proofs.RowListingLaws.{writes_as, dash_none, dash_there}
use Rattle.listing.proofs.fields.write_tag_path.Goals as goal

pub returns-then-is_empty : goal.returns-then-is_empty
unfolding comma
returns-then-is_empty c =
    let w = c.write_behind in
    let a = c.args in
    writes_as (ap (λ (t : Text). 44 ∷ t) (sym (dash_none a.path.now (eqb-true (length a.path.now) 0 (sym c.is_empty.ensures ∙ c.if-is_empty.true)))))
    (record { wrote = w.ensures; short = omega (arith, w.ensures.ends) })

pub returns : goal.returns
unfolding comma
returns c =
    let w = c.write_behind-2 in
    let a = c.args in
    writes_as (ap (λ (t : Text). 44 ∷ t) (sym (dash_there a.path.now (eqb-false (length a.path.now) 0 (sym c.is_empty.ensures ∙ c.if-is_empty.false)))))
    (record { wrote = w.ensures; short = omega (arith, w.ensures.ends) })
