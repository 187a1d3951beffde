-- For computed examples only: whoever unfolds `compute` unfolds every definition of this crate that a run goes through.
use Rattle.arguments.specs.Kinds.{reader, arguments_of}

unfoldable pub compute : Unit {0}
unfolding reader arguments_of
compute = tt
