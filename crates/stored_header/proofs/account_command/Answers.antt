-- `stored_header::account_command` meets its contract: each case is the command that its parts mean.
use Rattle.accounts.proofs.DominanceLaws.{role_low}
use Rattle.commands.specs.Meaning.{AccountMeans}
use Rattle.commands.specs.MeaningLaws.{means_as, part_read}
use Rattle.machine.specs.Machine.{run_account}
use Rattle.stored_header.proofs.account_command.Goals as goal

pub log_in-requires : goal.log_in-requires
unfolding AccountMeans
log_in-requires c =
    let i = means_as AccountMeans c.in-Login.is c.requires.some_account_command.1 in
    record {
      some_store = c.requires.some_store;
      uid_bound = c.requires.uid_bound;
      role_bound = role_low i.0 i.1;
      inside = i.2;
    }

pub log_out-requires : goal.log_out-requires
log_out-requires c = record {
  some_store = c.requires.some_store;
  uid_bound = c.requires.uid_bound;
}

pub of-requires : goal.of-requires
unfolding AccountMeans
of-requires c =
    (means_as AccountMeans c.in-Cd.is c.requires.some_account_command.1).1.inside

pub change_directory-requires : goal.change_directory-requires
unfolding AccountMeans
change_directory-requires c =
    let i = means_as AccountMeans c.in-Cd.is c.requires.some_account_command.1 in
    record {
      some_store = c.requires.some_store;
      path_text = (i.0, part_read c.of.result.now c.of.ensures i.1);
      uid_bound = c.requires.uid_bound;
    }

pub returns-in-Login : goal.returns-in-Login
unfolding AccountMeans run_account
returns-in-Login c s k h m =
    let i = means_as AccountMeans c.in-Login.is m in
    rw i.3 (c.log_in.ensures s i.0 h i.1)

pub returns-in-Logout : goal.returns-in-Logout
unfolding AccountMeans run_account
returns-in-Logout c s k h m = rw (means_as AccountMeans c.in-Logout.is m) (c.log_out.ensures s h)

pub returns-in-Cd : goal.returns-in-Cd
unfolding AccountMeans run_account
returns-in-Cd c s k h m =
    let part = c.of in
    let i = means_as AccountMeans c.in-Cd.is m in
    rw i.2 (c.change_directory.ensures s i.0 h (part_read part.result.now part.ensures i.1))
