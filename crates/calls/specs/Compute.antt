-- For computed examples only: whoever unfolds `compute` unfolds every definition that a run goes through.
use Rattle.setup.specs.Setup.{accounts, most_pairs, most_grants, no_setup}
use Rattle.tree.specs.Compute.{compute_bytes as compute_tree_bytes}
use Rattle.shell.specs.Replies.{told, answer_of, written}
use Rattle.store.specs.Compute.{compute_bytes as compute_store_bytes}
use Rattle.machine.specs.Compute.{compute as compute_machine}
use Rattle.listing.specs.Compute.{compute as compute_listing}
use Rattle.calls.specs.Transcript.{after_end, input_parts, command_lines, reply_line, lines_text, call_of, session_text, output, transcript}
use Rattle.calls.specs.Calls.{set_up, setup_call, called, on_state, line_on, run_result, run_call, listing_on, listing_result, listing_call}

unfoldable pub compute : Unit {0}
unfolding compute_machine compute_listing after_end input_parts command_lines reply_line lines_text call_of session_text output transcript
compute = tt

-- and those of the calls on bytes beside them
unfoldable pub compute_calls : Unit {0}
unfolding compute_tree_bytes compute_store_bytes accounts most_pairs most_grants no_setup told answer_of written set_up setup_call called on_state line_on run_result run_call listing_on listing_result listing_call
compute_calls = tt
