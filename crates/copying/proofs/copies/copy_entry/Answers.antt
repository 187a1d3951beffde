-- `copying::copies::copy_entry` meets its contract: the entry's own row, then its children below it.
use Rattle.copying.proofs.CopyEntryLaws.{entry_first, entry_children, entry_written}
use Rattle.copying.proofs.copies.copy_entry.Goals as goal

pub copy_first-requires : goal.copy_first-requires
copy_first-requires c =
    record {
      entry_job = c.requires.entry_job;
      has_row = entry_first c.requires.entry_job c.requires.at_in_bounds;
      name_len_bound = c.requires.name_len_bound;
    }

pub copy_children-requires : goal.copy_children-requires
copy_children-requires c =
    let a = c.args in
    let f = c.copy_first in
    entry_children c.requires.entry_job a.out.now f.new.out a.first.depth a.first.name.now c.requires.at_in_bounds c.requires.most_levels_bound c.requires.name_len_bound (f.ensures c.requires.entry_job)

pub returns : goal.returns
returns c = λ j.
    let a = c.args in
    let f = c.copy_first in
    let m = c.copy_children in
    let z = f.new.out in
    let is = f.ensures j in
    entry_written j a.out.now z a.first.depth a.first.name.now c.requires.at_in_bounds c.requires.most_levels_bound c.requires.name_len_bound is
    (m.ensures (entry_children j a.out.now z a.first.depth a.first.name.now c.requires.at_in_bounds c.requires.most_levels_bound c.requires.name_len_bound is))
