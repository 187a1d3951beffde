-- `entry_runner::command::entry_command` meets its contract: each case is the command that its parts mean, in the session.
use mathlib.Core.Path.{◌∙◌, ap}
use Rattle.accounts.specs.Dominance.{dominates}
use Rattle.accounts.proofs.DominanceLaws.{role_low}
use Rattle.commands.specs.Meaning.{EntryMeans}
use Rattle.commands.specs.MeaningLaws.{means_as, part_read}
use Rattle.machine.specs.Machine.{run_entry}
use Rattle.entry_runner.specs.EntryDoneLaws.{session_tells}
use Rattle.entry_runner.proofs.command.entry_command.Goals as goal

pub dominates-requires : goal.dominates-requires
dominates-requires c = tt

pub of-requires : goal.of-requires
unfolding EntryMeans
of-requires c =
    (means_as EntryMeans c.in-Add.is c.requires.some_entry_command.1).3.inside

pub of-requires-in-Add : goal.of-requires-in-Add
unfolding EntryMeans
of-requires-in-Add c =
    (means_as EntryMeans c.in-Add.is c.requires.some_entry_command.1).4.inside

pub add_in-requires : goal.add_in-requires
unfolding EntryMeans
add_in-requires c =
    let i = means_as EntryMeans c.in-Add.is c.requires.some_entry_command.1 in
    let e = part_read _ c.of-in-Add.ensures i.4 in
    let a = c.requires.acts_by in
    let told = c.dominates.ensures ∙ session_tells a.0 i.2 i.5 a.2 a.3 ∙ ap (dominates a.0.setup.pairs a.0.role.role) i.5 in
    record {
      acts_told = (a.0, a.1, told);
      path_text = (i.0, part_read _ c.of.ensures i.3);
      entry_path_text = (i.1, e);
      role_bound = role_low i.2 i.5;
    }

pub of-requires-in-Co : goal.of-requires-in-Co
unfolding EntryMeans
of-requires-in-Co c =
    (means_as EntryMeans c.in-Co.is c.requires.some_entry_command.1).2.inside

pub of-requires-in-Co-2 : goal.of-requires-in-Co-2
unfolding EntryMeans
of-requires-in-Co-2 c =
    (means_as EntryMeans c.in-Co.is c.requires.some_entry_command.1).3.inside

pub co_in-requires : goal.co_in-requires
unfolding EntryMeans
co_in-requires c =
    let i = means_as EntryMeans c.in-Co.is c.requires.some_entry_command.1 in
    record {
      acts_in = (c.requires.acts_by.0, c.requires.acts_by.1);
      entry_path_text = (i.0, part_read _ c.of-in-Co.ensures i.2);
      path_text = (i.1, part_read _ c.of-in-Co-2.ensures i.3);
    }

pub of-requires-in-Commit : goal.of-requires-in-Commit
unfolding EntryMeans
of-requires-in-Commit c =
    (means_as EntryMeans c.in-Commit.is c.requires.some_entry_command.1).1.inside

pub commit-requires : goal.commit-requires
unfolding EntryMeans
commit-requires c =
    let i = means_as EntryMeans c.in-Commit.is c.requires.some_entry_command.1 in
    record {
      acts_in = (c.requires.acts_by.0, c.requires.acts_by.1);
      path_text = (i.0, part_read _ c.of-in-Commit.ensures i.1);
      in_bounds = c.requires.in_bounds;
    }

pub of-requires-in-Up : goal.of-requires-in-Up
unfolding EntryMeans
of-requires-in-Up c =
    (means_as EntryMeans c.in-Up.is c.requires.some_entry_command.1).1.inside

pub up_in-requires : goal.up_in-requires
unfolding EntryMeans
up_in-requires c =
    let i = means_as EntryMeans c.in-Up.is c.requires.some_entry_command.1 in
    record {
      acts_in = (c.requires.acts_by.0, c.requires.acts_by.1);
      path_text = (i.0, part_read _ c.of-in-Up.ensures i.1);
    }

pub of-requires-in-Del : goal.of-requires-in-Del
unfolding EntryMeans
of-requires-in-Del c =
    (means_as EntryMeans c.in-Del.is c.requires.some_entry_command.1).1.inside

pub del_in-requires : goal.del_in-requires
unfolding EntryMeans
del_in-requires c =
    let i = means_as EntryMeans c.in-Del.is c.requires.some_entry_command.1 in
    record {
      acts_for_someone = (_, (c.requires.acts_by.0, c.requires.acts_by.1));
      entry_path_text = (i.0, part_read _ c.of-in-Del.ensures i.1);
    }

pub returns-in-Add : goal.returns-in-Add
unfolding EntryMeans run_entry
returns-in-Add c j k h m held rows =
    let i = means_as EntryMeans c.in-Add.is m in
    let working = part_read _ c.of.ensures i.3 in
    let entry = part_read _ c.of-in-Add.ensures i.4 in
    let own = c.dominates.ensures ∙ session_tells j i.2 i.5 held rows in
    rw i.6 (c.add_in.ensures i.0 i.1 i.2 working entry i.5 j h own c.args.answer.now)

pub returns-in-Co : goal.returns-in-Co
unfolding EntryMeans run_entry
returns-in-Co c j k h m held rows =
    let i = means_as EntryMeans c.in-Co.is m in
    let entry = part_read _ c.of-in-Co.ensures i.2 in
    let to = part_read _ c.of-in-Co-2.ensures i.3 in
    rw i.4 (c.co_in.ensures i.0 i.1 entry to j h c.args.answer.now)

pub returns-in-Commit : goal.returns-in-Commit
unfolding EntryMeans run_entry
returns-in-Commit c j k h m held rows =
    let i = means_as EntryMeans c.in-Commit.is m in
    rw i.2 (c.commit.ensures i.0 (part_read _ c.of-in-Commit.ensures i.1) j h)

pub returns-in-Up : goal.returns-in-Up
unfolding EntryMeans run_entry
returns-in-Up c j k h m held rows =
    let i = means_as EntryMeans c.in-Up.is m in
    let working = part_read _ c.of-in-Up.ensures i.1 in
    rw i.2 (c.up_in.ensures i.0 working j h c.args.answer.now)

pub returns-in-Del : goal.returns-in-Del
unfolding EntryMeans run_entry
returns-in-Del c j k h m held rows =
    let a = c.args in
    let i = means_as EntryMeans c.in-Del.is m in
    let entry = part_read _ c.of-in-Del.ensures i.1 in
    rw i.2 (c.del_in.ensures a.caller i.0 entry j h a.answer.now)

pub enum_known-command : goal.enum_known-command
enum_known-command c = c.in-Add.in-Add-own.keys1

pub enum_known-command-in-Co-1 : goal.enum_known-command-in-Co-1
enum_known-command-in-Co-1 c = c.in-Co.in-Co-own.keys2

pub enum_known-command-in-Commit-1 : goal.enum_known-command-in-Commit-1
enum_known-command-in-Commit-1 c = c.in-Commit.in-Commit-own.keys3

pub enum_known-command-in-Up-1 : goal.enum_known-command-in-Up-1
enum_known-command-in-Up-1 c = c.in-Up.in-Up-own.keys4

pub enum_known-command-in-Del-1 : goal.enum_known-command-in-Del-1
enum_known-command-in-Del-1 c = c.in-Del.in-Del-own.keys5

pub shape_of-store-in-Add : goal.shape_of-store-in-Add
shape_of-store-in-Add c = c.add_in.auto.store

pub shape_of-store-in-Co : goal.shape_of-store-in-Co
shape_of-store-in-Co c = c.co_in.auto.store

pub shape_of-store-in-Commit : goal.shape_of-store-in-Commit
shape_of-store-in-Commit c = c.commit.auto.store

pub shape_of-answer : goal.shape_of-answer
shape_of-answer c = c.commit.auto.answer

pub shape_of-store-in-Up : goal.shape_of-store-in-Up
shape_of-store-in-Up c = c.up_in.auto.store

pub shape_of-store-in-Del : goal.shape_of-store-in-Del
shape_of-store-in-Del c = c.del_in.auto.store
