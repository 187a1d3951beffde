-- `moving::relabel::relabel` meets its contract: the depths change, then the name.
use mathlib.Core.Path.{ap, ◌∙◌}
use mathlib.Core.List.{List}
use Prim.Native.Nat.{ℕ}
use lib.Seq.{paste}
use Rattle.buffers.specs.Fields.{padded}
use Rattle.tree.specs.Layout.{name_offset, name_width}
use Rattle.moving.specs.Relabel.{relabelled}
use Rattle.moving.proofs.relabel.relabel.Goals as goal

pub returns : goal.returns
unfolding relabelled
returns c =
    let a = c.args in
    c.write_padded.ensures ∙ ap (λ (l : List ℕ). paste l name_offset (padded name_width a.name.now) name_width) c.shift_depths.ensures
