-- `entry_runner::lent::co_in` meets its contract: the tree is lent, and in a session the steps on it are the machine's.
use Rattle.commands.specs.Command.{co}
use Rattle.machine.specs.Machine.{run_entry}
use Rattle.stored_header.specs.StoredLaws.{long_enough, lent_whole}
use Rattle.checkout.specs.CheckoutRunLaws.{co_acts}
use Rattle.entry_runner.specs.EntryDoneLaws.{lent_entry}
use Rattle.entry_runner.proofs.lent.co_in.Goals as goal

pub slice_bounds-co-count : goal.slice_bounds-co-count
slice_bounds-co-count c = long_enough (_, c.requires.acts_in.1)

pub slice_bounds-co-start : goal.slice_bounds-co-start
slice_bounds-co-start c = long_enough (_, c.requires.acts_in.1)

pub co-requires : goal.co-requires
co-requires c = record {
  whole = lent_whole (_, c.requires.acts_in.1);
  entry_path_text = c.requires.entry_path_text;
  path_text = c.requires.path_text;
}

pub returns : goal.returns
unfolding run_entry
returns c e d q to j h =
    let l = c.co in
    lent_entry j h (co e d) (co_acts j e d) l.result l.new.tree (λ t. l.ensures j.state.tree e t q d to)
