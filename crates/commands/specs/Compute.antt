-- For computed examples only: whoever unfolds `compute` unfolds every definition of this crate that a run goes through.
use Rattle.arguments.specs.Compute.{compute as compute_arguments}
use Rattle.commands.specs.Command.{takes, listed, words, form, forms, line_of, line}

unfoldable pub compute : Unit {0}
unfolding compute_arguments takes listed words form forms line_of line
compute = tt
