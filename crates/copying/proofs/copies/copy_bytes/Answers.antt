-- `copying::copies::copy_bytes` meets its contract: the bytes of a row that is held are those of its row.
use mathlib.Core.Path.{◌∙◌}
use native.Mathlib.Omega.{arith}
use Rattle.buffers.specs.PasteLaws.{paste_part}
use Rattle.tree.specs.Layout.{row_width, row_start}
use Rattle.copying.proofs.CopyBytesLaws.{bytes_copied}
use Rattle.copying.proofs.copies.copy_bytes.Goals as goal

pub returns : goal.returns
returns c =
    let a = c.args in
    let T = a.tree.now in
    c.write.ensures
    ∙ paste_part a.out.now T (row_start a.to) (row_start a.at) row_width (omega arith)
    ∙ bytes_copied T a.at c.requires.holds_row a.out.now a.to
