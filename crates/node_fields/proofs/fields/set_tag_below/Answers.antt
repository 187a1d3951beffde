-- `edits::fields::set_tag_below` meets its contract: a field cleared, a text copied into it, a slash and a name behind it, and the number.
use mathlib.Core.Path.{◌≡◌, ap, ◌∙◌}
use mathlib.Core.List.{List}
use Prim.Native.Nat.{ℕ, ◌+◌}
use native.Mathlib.Omega.{arith}
use lib.ListN.{length, set, drop, length-set}
use lib.Seq.{paste}
use Rattle.buffers.specs.Fields.{two_bytes}
use Rattle.tree.specs.Layout.{row_start, tag_offset, tag_revision_offset}
use Rattle.tree.specs.RowAt.{tag_text_at}
use Rattle.node_fields.specs.FieldsWrittenLaws.{tag_below_put}
use Rattle.node_fields.proofs.fields.set_tag_below.Goals as goal

pub move_bytes-requires : goal.move_bytes-requires
move_bytes-requires c = omega (arith, ap length c.tag_path_at-n.ensures, c.clear.auto.b)

pub bounds-tree-at : goal.bounds-tree-at
bounds-tree-at c = omega (arith, ap length c.tag_path_at-n.ensures, c.move_bytes.auto.b, c.clear.auto.b)

pub write-requires : goal.write-requires
write-requires c = simp length-set (omega (arith, ap length c.tag_path_at-n.ensures, c.move_bytes.auto.b, c.clear.auto.b))

pub write_number-requires : goal.write_number-requires
write_number-requires c =
    let m = c.move_bytes in
    let l = c.write.auto.b ∙ length-set m.new.b _ _ ∙ m.auto.b ∙ c.clear.auto.b in
    omega (arith, l)

pub shape_of-tree : goal.shape_of-tree
shape_of-tree c =
    c.write_number.auto.b ∙ c.write.auto.b ∙ length-set c.move_bytes.new.b _ _ ∙ c.move_bytes.auto.b ∙ c.clear.auto.b

pub returns : goal.returns
returns c =
    let a = c.args in
    let n = length c.tag_path_at-n.result.now in
    let at = row_start a.i in
    let from = row_start a.above + 16 in
    let name = a.name.now in
    let q : n ≡ length (tag_text_at a.tree.now a.above) = ap length c.tag_path_at-n.ensures in
    c.write_number.ensures
    ∙ ap (λ (l : List ℕ). paste l (at + tag_revision_offset) (two_bytes a.revision) 2) c.write.ensures
    ∙ ap (λ (l : List ℕ). paste (paste (set l (at + tag_offset + n) 47) (at + 17 + n) name (length name)) (at + tag_revision_offset) (two_bytes a.revision) 2) c.move_bytes.ensures
    ∙ ap (λ (l : List ℕ). paste (paste (set (paste l (at + tag_offset) (drop from l) n) (at + tag_offset + n) 47) (at + 17 + n) name (length name)) (at + tag_revision_offset) (two_bytes a.revision) 2) c.clear.ensures
    ∙ tag_below_put a.tree.now name a.i a.above n a.revision c.requires.has_row.room c.requires.above_lt_i q (omega (arith, c.requires.name_len_bound))
