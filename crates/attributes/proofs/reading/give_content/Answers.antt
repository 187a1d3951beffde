-- `attributes::reading::give_content` meets its contract: all bytes of the content are written in front.
use native.Mathlib.Omega.{arith}
use mathlib.Core.Path.{refl, ◌∙◌, ap}
use lib.ListN.{length}
use Rattle.tree.proofs.RowAtLaws.{row_content_fits}
use Rattle.attributes.specs.ChecksLaws.{front_written, answers_with}
use Rattle.attributes.proofs.reading.give_content.Goals as goal

pub write-requires : goal.write-requires
write-requires c =
    let a = c.args in
    let short = row_content_fits a.tree.now a.row in
    let same = ap length c.content_at-content.ensures in
    omega arith

pub returns : goal.returns
returns c =
    let a = c.args in
    let x = c.content_at-content in
    answers_with a.answer.now x.ensures (refl, c.write.ensures ∙ front_written a.answer.now x.result.now)
