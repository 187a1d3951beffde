-- `entry_runner::lent::up_in` meets its contract: the tree is lent, and in a session the steps on it are the machine's.
use Rattle.commands.specs.Command.{up}
use Rattle.machine.specs.Machine.{run_entry}
use Rattle.stored_header.specs.StoredLaws.{long_enough, lent_whole}
use Rattle.entries.specs.EntryStepsLaws.{up_acts}
use Rattle.entry_runner.specs.EntryDoneLaws.{lent_entry}
use Rattle.entry_runner.proofs.lent.up_in.Goals as goal

pub slice_bounds-up-count : goal.slice_bounds-up-count
slice_bounds-up-count c = long_enough (_, c.requires.acts_in.1)

pub slice_bounds-up-start : goal.slice_bounds-up-start
slice_bounds-up-start c = long_enough (_, c.requires.acts_in.1)

pub up-requires : goal.up-requires
up-requires c = record {
  whole = lent_whole (_, c.requires.acts_in.1);
  path_text = c.requires.path_text;
}

pub returns : goal.returns
unfolding run_entry
returns c w q j h =
    let l = c.up in
    lent_entry j h (up w) (up_acts j w) l.result l.new.tree (λ t. l.ensures j.state.tree w t q)
