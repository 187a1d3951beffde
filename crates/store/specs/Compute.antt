-- For computed examples only: whoever unfolds `compute` unfolds every definition of this crate that a run goes through.
use Rattle.accounts.specs.PairBytes.{pair_bytes}
use Rattle.store.specs.State.{set_session, working_directory, set_directory}
use Rattle.store.specs.Initial.{directory_of, top_node, rep_node, home_node, home_name, with_home, homes, initial_tree, no_sessions, first_directory, first_directories, initial_registry, initial_store}
use Rattle.store.specs.StoreBytes.{store_width, slot_bytes, session_byte, grant_bytes, directory_bytes, path_or_root, directory_from, front_bytes, header_bytes, setup_of, sessions_of, directories_of, registry_of, decode}

unfoldable pub compute : Unit {0}
unfolding set_session working_directory set_directory directory_of top_node rep_node home_node home_name with_home homes initial_tree no_sessions first_directory first_directories initial_registry initial_store
compute = tt

-- and those of the store's bytes beside them
unfoldable pub compute_bytes : Unit {0}
unfolding store_width slot_bytes session_byte pair_bytes grant_bytes directory_bytes path_or_root directory_from front_bytes header_bytes setup_of sessions_of directories_of registry_of decode
compute_bytes = tt
