-- `soundness::row::fits_kind` meets its contract: by its variants.
use mathlib.Core.Path.{sym, ◌∙◌, ap}
use mathlib.Core.Bool.{not}
use Rattle.tree.specs.declared.Kind.{Kind}
use Rattle.tree.specs.WellFormed.{fits_kind}
use Rattle.soundness.proofs.row.fits_kind.Goals as goal

pub returns-in-File : goal.returns-in-File
unfolding fits_kind
returns-in-File c =
    let a = c.args in
    λ t e. ap not c.has_set_gid.ensures ∙ sym (ap (λ (k : Kind). fits_kind k a.mode t) c.in-File.is)

pub returns-in-Directory : goal.returns-in-Directory
unfolding fits_kind
returns-in-Directory c = let a = c.args in λ t e. e ∙ sym (ap (λ (k : Kind). fits_kind k a.mode t) c.in-Directory.is)
