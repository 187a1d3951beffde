-- `attributes::changes::chgrp` meets its contract: refused as the decision is, else the group of that place is changed.
use Rattle.std.proofs.Common.{◌∙◌, refl}
use Rattle.tree.specs.Node.{set_group}
use Rattle.node_fields.specs.FieldEditLaws.{group_law}
use Rattle.attributes.specs.declared.Deed.TheVariants.{Chgrp}
use Rattle.attributes.specs.ChecksLaws.{chgrp_checked, refused_there, changed_there, row_there}
use Rattle.attributes.proofs.changes.chgrp.Goals as goal

pub set_group-requires : goal.set_group-requires
set_group-requires c =
    let decided = c.in_ok-spot.ensures in
    row_there c.args.path.now c.requires.whole c.requires.path_text c.args.caller.account (Chgrp c.args.group) decided refl

pub returns : goal.returns
returns c t p e q =
    let x = c.args.group in
    let decided = c.in_ok-spot.ensures t p e q in
    let change = c.set_group in
    changed_there e c.args.caller.account (Chgrp x) p decided refl
    (set_group x) (chgrp_checked c.args.caller 0 t p x) change.new.tree (λ d at. change.ensures ∙ group_law at x)

pub returns-in_err-spot : goal.returns-in_err-spot
returns-in_err-spot c t p e q =
    let x = c.args.group in
    let decided = c.in_err-spot.ensures t p e q in
    refused_there e c.args.caller.account (Chgrp x) p decided _ (chgrp_checked c.args.caller 0 t p x) refl c.from_residual.ensures.1
