-- `runner::store_part::run_command` meets its contract: each kind is carried out on the part of the store that it is about.
use Rattle.commands.specs.MeaningLaws.{of_shell, of_account, of_entry}
use Rattle.machine.specs.Machine.{run}
use Rattle.runner.proofs.store_part.run_command.Goals as goal

pub in_shell-requires : goal.in_shell-requires
in_shell-requires c =
    let i = of_shell c.requires.some_command.1 c.in-Shell.is in
    record {
      some_store = c.requires.some_store;
      some_shell_command = (i.0, i.1);
      in_bounds = c.requires.in_bounds;
    }

pub account_command-requires : goal.account_command-requires
account_command-requires c =
    let i = of_account c.requires.some_command.1 c.in-Account.is in
    record {
      some_store = c.requires.some_store;
      some_account_command = (i.0, i.1);
      uid_bound = c.requires.uid_bound;
    }

pub in_session-requires : goal.in_session-requires
in_session-requires c =
    let i = of_entry c.requires.some_command.1 c.in-Entry.is in
    record {
      some_store = c.requires.some_store;
      some_entry_command = (i.0, i.1);
      in_bounds = c.requires.in_bounds;
      uid_bound = c.requires.uid_bound;
    }

pub returns-in-Shell : goal.returns-in-Shell
returns-in-Shell c s k h m =
    let i = of_shell m c.in-Shell.is in
    rw i.2 (c.in_shell.ensures s i.0 h i.1)

pub returns-in-Account : goal.returns-in-Account
unfolding run
returns-in-Account c s k h m =
    let a = c.args in
    let i = of_account m c.in-Account.is in
    rw i.2 (c.account_command.ensures s i.0 h i.1 a.answer.now)

pub returns-in-Entry : goal.returns-in-Entry
unfolding run
returns-in-Entry c s k h m =
    let i = of_entry m c.in-Entry.is in
    rw i.2 (c.in_session.ensures s i.0 h i.1)

pub enum_known-command : goal.enum_known-command
enum_known-command c = c.in-Shell.in-Shell-own.keys1

pub enum_known-command-in-Account-1 : goal.enum_known-command-in-Account-1
enum_known-command-in-Account-1 c = c.in-Account.in-Account-own.keys2

pub enum_known-command-in-Entry-1 : goal.enum_known-command-in-Entry-1
enum_known-command-in-Entry-1 c = c.in-Entry.in-Entry-own.keys3

pub shape_of-store-in-Shell : goal.shape_of-store-in-Shell
shape_of-store-in-Shell c = c.in_shell.auto.store

pub shape_of-answer-in-Shell : goal.shape_of-answer-in-Shell
shape_of-answer-in-Shell c = c.in_shell.auto.answer

pub shape_of-store-in-Account : goal.shape_of-store-in-Account
shape_of-store-in-Account c = c.account_command.auto.store

pub shape_of-store-in-Entry : goal.shape_of-store-in-Entry
shape_of-store-in-Entry c = c.in_session.auto.store

pub shape_of-answer-in-Entry : goal.shape_of-answer-in-Entry
shape_of-answer-in-Entry c = c.in_session.auto.answer
