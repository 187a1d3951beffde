-- The rows of a place under another name and at another depth: each depth is counted from the new one.
use Rattle.std.specs.Prelude.{List, ℕ, zero, suc, ◌+◌, ◌-◌, ◌*◌, ◌%◌, get_or, set}
use Rattle.std.proofs.Math.Seq.{paste}
use Rattle.buffers.specs.Text.{Text}
use Rattle.buffers.specs.Fields.{padded}
use Rattle.tree.specs.Layout.{row_width, name_offset, name_width}

-- a depth that is counted from a new one instead of an old one
unfoldable pub shifted : ℕ → ℕ → ℕ → ℕ
shifted old new depth = (depth + 256 + new - old) % 256

-- so counted in the m rows from index i on
unfoldable pub depths_shifted : ℕ → ℕ → ℕ → ℕ → List ℕ → List ℕ
depths_shifted old new i zero b = b
depths_shifted old new i (suc m) b =
    depths_shifted old new (suc i) m (set b (row_width * i) (shifted old new (get_or b (row_width * i) 0)))

-- so in all n rows from that of a place on, which gets another name
unfoldable pub relabelled : ℕ → ℕ → Text → List ℕ → List ℕ
relabelled n depth name b = paste (depths_shifted (get_or b 0 0) depth 0 n b) name_offset (padded name_width name) name_width
