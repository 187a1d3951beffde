-- `attributes::changes::chmod` meets its contract: refused as the decision is, else the mode of that place is changed.
use Rattle.std.proofs.Common.{◌∙◌, refl}
use Rattle.tree.specs.Node.{set_mode}
use Rattle.node_fields.specs.FieldEditLaws.{mode_law}
use Rattle.attributes.specs.declared.Deed.TheVariants.{Chmod}
use Rattle.attributes.specs.ChecksLaws.{chmod_checked, refused_there, changed_there, row_there}
use Rattle.attributes.proofs.changes.chmod.Goals as goal

pub set_mode-requires : goal.set_mode-requires
set_mode-requires c =
    let decided = c.in_ok-spot.ensures in
    row_there c.args.path.now c.requires.whole c.requires.path_text c.args.caller.account (Chmod c.args.mode) decided refl

pub returns : goal.returns
returns c t p e q =
    let x = c.args.mode in
    let decided = c.in_ok-spot.ensures t p e q in
    let change = c.set_mode in
    changed_there e c.args.caller.account (Chmod x) p decided refl
    (set_mode x) (chmod_checked c.args.caller 0 t p x) change.new.tree (λ d at. change.ensures ∙ mode_law at x)

pub returns-in_err-spot : goal.returns-in_err-spot
returns-in_err-spot c t p e q =
    let x = c.args.mode in
    let decided = c.in_err-spot.ensures t p e q in
    refused_there e c.args.caller.account (Chmod x) p decided _ (chmod_checked c.args.caller 0 t p x) refl c.from_residual.ensures.1
