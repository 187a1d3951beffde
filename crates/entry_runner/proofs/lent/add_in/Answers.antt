-- `entry_runner::lent::add_in` meets its contract: the tree is lent, and in a session the steps on it are the machine's.
use Rattle.commands.specs.Command.{add}
use Rattle.machine.specs.Machine.{run_entry}
use Rattle.stored_header.specs.StoredLaws.{long_enough, lent_whole}
use Rattle.adding.specs.AddLaws.{add_acts}
use Rattle.entry_runner.specs.EntryDoneLaws.{lent_entry}
use Rattle.entry_runner.proofs.lent.add_in.Goals as goal

pub slice_bounds-add-count : goal.slice_bounds-add-count
slice_bounds-add-count c = long_enough (_, c.requires.acts_told.1)

pub slice_bounds-add-start : goal.slice_bounds-add-start
slice_bounds-add-start c = long_enough (_, c.requires.acts_told.1)

pub add-requires : goal.add-requires
add-requires c = record {
  whole = lent_whole (_, c.requires.acts_told.1);
  path_text = c.requires.path_text;
  entry_path_text = c.requires.entry_path_text;
  role_bound = c.requires.role_bound;
}

pub returns : goal.returns
unfolding run_entry
returns c w e z q p role j h own =
    let l = c.add in
    lent_entry j h (add w e z) (add_acts j w e z own) l.result l.new.tree (λ t. l.ensures w e q p j.state.tree z t role)
