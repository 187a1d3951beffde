-- `attributes::changes::chown` meets its contract: refused as the decision is, else the owner of that place is changed.
use Rattle.std.proofs.Common.{◌∙◌, refl}
use Rattle.tree.specs.Node.{set_owner}
use Rattle.node_fields.specs.FieldEditLaws.{owner_law}
use Rattle.attributes.specs.declared.Deed.TheVariants.{Chown}
use Rattle.attributes.specs.ChecksLaws.{chown_checked, refused_there, changed_there, row_there}
use Rattle.attributes.proofs.changes.chown.Goals as goal

pub set_owner-requires : goal.set_owner-requires
set_owner-requires c =
    let decided = c.in_ok-spot.ensures in
    row_there c.args.path.now c.requires.whole c.requires.path_text c.args.caller.account Chown decided refl

pub returns : goal.returns
returns c t p e q =
    let x = c.args.owner in
    let decided = c.in_ok-spot.ensures t p e q in
    let change = c.set_owner in
    changed_there e c.args.caller.account Chown p decided refl
    (set_owner x) (chown_checked c.args.caller 0 t p x) change.new.tree (λ d at. change.ensures ∙ owner_law at x)

pub returns-in_err-spot : goal.returns-in_err-spot
returns-in_err-spot c t p e q =
    let x = c.args.owner in
    let decided = c.in_err-spot.ensures t p e q in
    refused_there e c.args.caller.account Chown p decided _ (chown_checked c.args.caller 0 t p x) refl c.from_residual.ensures.1
