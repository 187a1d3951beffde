-- `line_runner::run_whole` meets its contract: the command made of the typed one means what this makes in the text.
use Rattle.commands.specs.MeaningLaws.{whole_meant}
use Rattle.line_runner.proofs.run_whole.Goals as goal

pub run_command-requires : goal.run_command-requires
run_command-requires c =
    let m = c.requires.some_whole.1 in
    record {
      some_store = c.requires.some_store;
      some_command = (c.requires.some_whole.0, whole_meant c.command_of.ensures m.means m.in_range);
      in_bounds = c.requires.in_bounds;
      uid_bound = c.requires.uid_bound;
    }

pub returns : goal.returns
returns c s k h m =
    c.run_command.ensures s k h (whole_meant c.command_of.ensures m.means m.in_range)
