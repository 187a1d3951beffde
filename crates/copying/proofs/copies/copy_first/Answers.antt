-- `copying::copies::copy_first` meets its contract: the row handed over, its name and its tag.
use mathlib.Core.Path.{ap, ◌∙◌}
use native.Mathlib.Omega.{arith}
use Rattle.tree.specs.Rows.{Row}
use Rattle.tree.specs.Node.{Node}
use Rattle.copying.specs.CopyRows.{row_put, tagged_row, first_row}
use Rattle.copying.proofs.CopyBytesLaws.{first_copied}
use Rattle.copying.proofs.CopyEntryLaws.{entry_held, entry_path_fits, entry_row}
use Rattle.copying.proofs.copies.copy_first.Goals as goal

pub hand_over-requires : goal.hand_over-requires
hand_over-requires c =
    record {
      holds_row = entry_held c.requires.entry_job;
      has_row = c.requires.has_row;
    }

pub revision_at-requires : goal.revision_at-requires
revision_at-requires c =
    (entry_held c.requires.entry_job).has

pub set_tag-requires : goal.set_tag-requires
set_tag-requires c =
    record {
      has_row = record { room = omega (arith, c.write_padded.auto.b, c.hand_over.auto.out, c.requires.has_row.room) };
      path_len_bound = entry_path_fits c.requires.entry_job;
    }

pub returns : goal.returns
unfolding first_row
returns c = λ j.
    let a = c.args in
    first_copied a.tree.now a.at (entry_held j) a.out.now 0 c.requires.has_row a.who a.first.depth a.first.group c.hand_over.new.out c.hand_over.ensures
    c.write_padded.new.b c.set_tag.new.tree a.first.name.now a.first.path.now c.revision_at.result j.entry c.requires.name_len_bound j.text j.valid c.revision_at.ensures c.write_padded.ensures c.set_tag.ensures
    ∙ ap (λ (r : Row Node). row_put a.out.now 0 (tagged_row a.who a.first.depth a.first.name.now a.first.group j.entry r.here)) (entry_row j)
