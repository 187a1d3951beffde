-- For computed examples only: whoever unfolds `compute` unfolds every definition of this crate that a run goes through.
use Rattle.shell.specs.WholePaths.{shell_paths, account_paths, entry_paths, command_paths, meant_path, whole_command}
use Rattle.shell.specs.Steps.{text_of, fit, run_create, run_read, run_write, run_rm, may_replace, moved, run_mv, run_chmod, run_chgrp, run_chown, run_shell}

unfoldable pub compute : Unit {0}
unfolding shell_paths account_paths entry_paths command_paths meant_path whole_command text_of fit run_create run_read run_write run_rm may_replace moved run_mv run_chmod run_chgrp run_chown run_shell
compute = tt
