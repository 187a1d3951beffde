-- `copying::copies::copy_row` meets its contract: the row handed over, and the tag below that of another.
use mathlib.Core.Path.{ap, ◌∙◌}
use Prim.Native.Nat.{ℕ, suc}
use native.Mathlib.Omega.{arith}
use native.Mathlib.Numerals.{add-one}
use Rattle.tree.specs.RowAt.{row_at}
use Rattle.copying.specs.CopyRows.{row_put, child_entry, tagged_row}
use Rattle.copying.proofs.CopyBytesLaws.{tag_room, child_copied}
use Rattle.copying.proofs.copies.copy_row.Goals as goal

pub set_tag_below-requires : goal.set_tag_below-requires
set_tag_below-requires c =
    let a = c.args in
    record {
      has_row = record { room = omega (arith, c.hand_over.auto.out, c.requires.has_row.room) };
      above_lt_i = c.requires.above_lt_to;
      name_len_bound = tag_room a.tree.now a.out.now c.hand_over.new.out a.at a.above a.to _ c.name_at-name.result.now c.requires.has_row c.requires.above_lt_to c.hand_over.ensures c.requires.spelled c.name_at-name.ensures;
    }

pub returns : goal.returns
returns c = λ g.
    let a = c.args in
    let r = row_at a.tree.now a.at in
    let group = a.who.caller.primary in
    child_copied a.tree.now a.at c.requires.holds_row a.out.now a.to c.requires.has_row a.who _ group c.hand_over.new.out c.hand_over.ensures
    c.set_tag_below.new.tree a.above c.revision_at.result c.name_at-name.result.now g.entry c.name_at-name.ensures c.revision_at.ensures g.spells c.requires.above_lt_to g.valid c.set_tag_below.ensures
    ∙ ap (λ (k : ℕ). row_put a.out.now a.to (tagged_row a.who k r.name group (child_entry g.entry r.name) r.here)) (add-one c.depth_at-depth.result ∙ ap suc c.depth_at-depth.ensures)
