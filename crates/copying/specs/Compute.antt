-- For computed examples only: whoever unfolds `compute` unfolds every definition of this crate that a run goes through.
use Rattle.copying.specs.Copying.{copy_mode, copy_node, copied, copy_children, copy}

unfoldable pub compute : Unit {0}
unfolding copy_mode copy_node copied copy_children copy
compute = tt
