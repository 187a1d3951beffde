-- `attributes::changes::write` meets its contract: refused as the decision is, else the content of that place is changed.
use Rattle.std.proofs.Common.{◌∙◌, refl}
use Rattle.tree.specs.Node.{set_content}
use Rattle.node_fields.specs.FieldEditLaws.{content_law}
use Rattle.attributes.specs.declared.Deed.TheVariants.{Write}
use Rattle.attributes.specs.ChecksLaws.{write_checked, refused_there, changed_there, row_there}
use Rattle.attributes.proofs.changes.write.Goals as goal

pub set_content-requires : goal.set_content-requires
set_content-requires c =
    let decided = c.in_ok-spot.ensures in
    record {
      has_row = row_there c.args.path.now c.requires.whole c.requires.path_text c.args.caller.account Write decided refl;
      content_len_bound = c.requires.content_len_bound;
    }

pub returns : goal.returns
returns c t p e q =
    let x = c.args.content.now in
    let decided = c.in_ok-spot.ensures t p e q in
    let change = c.set_content in
    changed_there e c.args.caller.account Write p decided refl
    (set_content x) (write_checked c.args.caller 0 t p x) change.new.tree (λ d at. change.ensures ∙ content_law at x c.requires.content_len_bound)

pub returns-in_err-spot : goal.returns-in_err-spot
returns-in_err-spot c t p e q =
    let x = c.args.content.now in
    let decided = c.in_err-spot.ensures t p e q in
    refused_there e c.args.caller.account Write p decided _ (write_checked c.args.caller 0 t p x) refl c.from_residual.ensures.1
