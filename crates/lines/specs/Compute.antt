-- For computed examples only: whoever unfolds `compute` unfolds every definition of this crate that a run goes through.
use Rattle.lines.specs.SetupLines.{longest_line, person_uid, person_or_root, person_gid, plain_role, setup_form, setup_forms, setup_line_of, setup_line}

unfoldable pub compute : Unit {0}
unfolding longest_line person_uid person_or_root person_gid plain_role setup_form setup_forms setup_line_of setup_line
compute = tt
