-- `attributes::reading::read` meets its contract: refused as the decision is, else the text of that place is told.
use Rattle.std.proofs.Common.{refl}
use Rattle.attributes.specs.declared.Deed.TheVariants.{Read}
use Rattle.attributes.specs.ChecksLaws.{read_checked, refused_there, told_there, row_used}
use Rattle.attributes.proofs.reading.read.Goals as goal

pub give_text-requires : goal.give_text-requires
give_text-requires c =
    let decided = c.in_ok-spot.ensures in
    record {
      used = row_used c.args.path.now c.requires.whole c.requires.path_text c.args.caller.account Read decided refl;
      all_names_width_in_bounds = c.requires.all_names_width_in_bounds;
    }

pub returns : goal.returns
returns c t p e q =
    let decided = c.in_ok-spot.ensures t p e q in
    let text = c.give_text in
    told_there e c.args.caller.account Read p decided refl
    (read_checked c.args.caller 0 t p) c.args.answer.now text.new.answer text.result text.ensures

pub returns-in_err-spot : goal.returns-in_err-spot
returns-in_err-spot c t p e q =
    let decided = c.in_err-spot.ensures t p e q in
    refused_there e c.args.caller.account Read p decided _ (read_checked c.args.caller 0 t p) refl c.from_residual.ensures.1 c.args.answer.now
