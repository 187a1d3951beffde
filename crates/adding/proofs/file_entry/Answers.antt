-- `adding::file_entry` meets its contract: its row is that of the entry, and the tag and the row make the tree of the law.
use mathlib.Core.Path.{refl, ap, ◌∙◌}
use native.Mathlib.Omega.{arith}
use lib.ListN.{length}
use Rattle.syntax.specs.Path.{entry_location}
use Rattle.syntax.proofs.PathLaws.{entry_reads}
use Rattle.syntax.proofs.PathTextLaws.{text_begins}
use Rattle.tree.specs.declared.Kind.{Kind}
use Rattle.gaps.specs.GapsLaws.{last_in_text, last_fits}
use Rattle.entries.specs.LinkLaws.{at_has_row}
use Rattle.adding.specs.AddSteps.{fresh_entry}
use Rattle.adding.specs.AddRowLaws.{addition_fits, addition_insertable, add_law}
use Rattle.adding.proofs.file_entry.Goals as goal

pub kind_at-kind-requires : goal.kind_at-kind-requires
kind_at-kind-requires c = at_has_row c.requires.addition.file

pub last_name-requires : goal.last_name-requires
last_name-requires c = let j = c.requires.addition in
    text_begins c.args.entry.now (entry_location j.filed) (entry_reads c.args.entry.now j.filed j.reads)

pub write_entry-requires : goal.write_entry-requires
write_entry-requires c = let j = c.requires.addition in
    let text = c.args.entry.now in
    let fits = last_fits text (entry_reads text j.filed j.reads) j.stands.roomed.below_top in
    record {
      has_row = at_has_row j.file;
      name_len_bound = omega (arith, ap length c.last_name.ensures, fits);
      row_len = refl;
    }

pub set_tag-requires : goal.set_tag-requires
set_tag-requires c = let j = c.requires.addition in
    record {
      has_row = at_has_row j.file;
      path_len_bound = addition_fits j;
    }

pub put_rows-requires : goal.put_rows-requires
put_rows-requires c = record {
  insertable = addition_insertable c.requires.addition c.set_tag.ensures;
  n_in_bounds = omega (arith, c.write_entry.auto.row);
}

pub returns : goal.returns
returns c = let a = c.args in
    let text = a.entry.now in
    let node = c.new_entry-node.ensures ∙ ap (λ (x : Kind). fresh_entry x a.role) c.kind_at-kind.ensures in
    λ j z q. add_law j c.set_tag.ensures z q node (c.last_name.ensures ∙ last_in_text text (entry_reads text j.filed j.reads))
    c.write_entry.ensures c.put_rows.ensures
