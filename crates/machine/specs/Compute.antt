-- For computed examples only: whoever unfolds `compute` unfolds every definition that a run goes through.
use Rattle.accounts.specs.Compute.{compute as compute_accounts}
use Rattle.syntax.specs.Compute.{compute as compute_syntax}
use Rattle.commands.specs.Compute.{compute as compute_commands}
use Rattle.setup.specs.Compute.{compute as compute_setup}
use Rattle.tree.specs.Compute.{compute as compute_tree}
use Rattle.copying.specs.Compute.{compute as compute_copying}
use Rattle.shell.specs.Compute.{compute as compute_shell}
use Rattle.shell.specs.Replies.{reply, after}
use Rattle.store.specs.Compute.{compute as compute_store}
use Rattle.store.specs.Callers.{person_caller, known_caller, caller, granted}
use Rattle.machine.specs.Working.{then_commits, commit_each}
use Rattle.machine.specs.Machine.{run_login, run_logout, run_cd, session, run_add, run_co, working_file, original, commit_found, commit_file, commit_directory, run_commit, run_up, run_del, run_account, run_entry, run}
use Rattle.machine.specs.StoreMachine.{entry_mode, entry_node, next_node}
use Rattle.machine.specs.AbstractMachine.{dominated, filed_kind, filed_passes, filed_readable, filed_writable, by_dominance, filed_revision, filed_content, new_entry, next_entry, abstract_login, abstract_logout, abstract_cd, abstract_session, abstract_add, abstract_co, abstract_working, abstract_original, abstract_commit_found, abstract_commit_file, abstract_commit_directory, abstract_commit, abstract_up, abstract_del, abstract_account, abstract_entry, abstract_run, abstract_step, abstract_runs, initial_abstract}
use Rattle.machine.specs.Runs.{least_room, perform, step, runs}

unfoldable pub compute : Unit {0}
unfolding compute_accounts compute_syntax compute_commands compute_setup compute_tree compute_shell compute_copying compute_store person_caller known_caller caller granted run_login run_logout run_cd session run_add run_co working_file original then_commits commit_each commit_found commit_file commit_directory run_commit run_up run_del run_account run_entry run entry_mode entry_node next_node dominated filed_kind filed_passes filed_readable filed_writable by_dominance filed_revision filed_content new_entry next_entry abstract_login abstract_logout abstract_cd abstract_session abstract_add abstract_co abstract_working abstract_original abstract_commit_found abstract_commit_file abstract_commit_directory abstract_commit abstract_up abstract_del abstract_account abstract_entry abstract_run abstract_step abstract_runs initial_abstract least_room reply after perform step runs
compute = tt
