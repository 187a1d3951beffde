-- `edits::rows::write_head` meets its contract: four bytes and two numbers, one behind the other.
use mathlib.Core.Path.{ap, ◌∙◌}
use mathlib.Core.List.{List, [], ◌∷◌}
use Prim.Native.Nat.{ℕ, ◌+◌}
use native.Mathlib.Omega.{arith}
use lib.Seq.{paste}
use Rattle.buffers.specs.Fields.{two_bytes}
use Rattle.edits.specs.WrittenLaws.{head_written}
use Rattle.edits.proofs.rows.write_head.Goals as goal

pub returns : goal.returns
returns c =
    let a = c.args in
    let f = a.node in
    let rest : List ℕ → List ℕ = λ l. paste (paste l (a.at + 4) (two_bytes f.mode) 2) (a.at + 6) (two_bytes f.revision) 2 in
    c.write_number-2.ensures
    ∙ ap (λ (l : List ℕ). paste l (a.at + 6) (two_bytes f.revision) 2) c.write_number.ensures
    ∙ ap rest c.write.ensures
    ∙ ap (λ (k : ℕ). rest (paste a.tree.now a.at (a.depth ∷ k ∷ f.owner.0 ∷ f.group.0 ∷ []) 4)) c.kind_byte-letter.ensures
    ∙ head_written a.tree.now a.at a.depth f (omega arith)
