-- `adding::new_entry` meets its contract: owner and group are counted from 16 by role, and the mode goes by the kind.
use Rattle.accounts.proofs.ServiceLaws.{service_uid_is, service_gid_is}
use Rattle.adding.specs.AddSteps.{fresh_entry}
use Rattle.adding.proofs.new_entry.Goals as goal

pub returns : goal.returns
unfolding fresh_entry
returns c = rw (c.entry_mode-mode.ensures, service_uid_is, service_gid_is)
