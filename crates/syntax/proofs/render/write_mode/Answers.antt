-- `syntax::render::write_mode` meets its contract: its four digits are written side by side.
use Rattle.syntax.proofs.RenderLaws.{wrote_mode}
use Rattle.syntax.proofs.render.write_mode.Goals as goal

pub returns : goal.returns
returns c =
    let w = c.write in
    let a = c.args in
    wrote_mode a.mode a.b.now a.at w.new.b w.ensures
