-- For computed examples only: whoever unfolds `compute` unfolds every definition of this crate, and of `lines`, that a run goes through.
use Rattle.lines.specs.Compute.{compute as compute_lines}
use Rattle.setup.specs.Setup.{accounts, most_pairs, most_grants, person, with_person, with_pair, with_grant, joining, accept, no_setup, stops, continue, read_lines, setup}

unfoldable pub compute : Unit {0}
unfolding compute_lines accounts most_pairs most_grants person with_person with_pair with_grant joining accept no_setup stops continue read_lines setup
compute = tt
