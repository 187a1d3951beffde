-- `entry_runner::lent::del_in` meets its contract: the tree is lent, and in a session the steps on it are the machine's.
use Rattle.commands.specs.Command.{del}
use Rattle.machine.specs.Machine.{run_entry}
use Rattle.stored_header.specs.StoredLaws.{long_enough, lent_whole}
use Rattle.entries.specs.EntryStepsLaws.{del_acts}
use Rattle.entry_runner.specs.EntryDoneLaws.{lent_entry}
use Rattle.entry_runner.proofs.lent.del_in.Goals as goal

pub slice_bounds-del-count : goal.slice_bounds-del-count
slice_bounds-del-count c = long_enough (_, c.requires.acts_for_someone.1.1)

pub slice_bounds-del-start : goal.slice_bounds-del-start
slice_bounds-del-start c = long_enough (_, c.requires.acts_for_someone.1.1)

pub del-requires : goal.del-requires
del-requires c = record {
  whole = lent_whole (_, c.requires.acts_for_someone.1.1);
  entry_path_text = c.requires.entry_path_text;
}

pub returns : goal.returns
unfolding run_entry
returns c who e q j h =
    let l = c.del in
    lent_entry j h (del e) (del_acts j e) l.result l.new.tree (λ t. l.ensures j.state.tree e t q)
