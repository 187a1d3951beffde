-- `adding::entry_mode` meets its contract: a mode for each kind.
use mathlib.Core.Path.{sym, ap}
use Rattle.machine.specs.StoreMachine.{entry_mode}
use Rattle.adding.proofs.entry_mode.Goals as goal

pub returns-in-File : goal.returns-in-File
unfolding entry_mode
returns-in-File c = sym (ap entry_mode c.in-File.is)

pub returns-in-Directory : goal.returns-in-Directory
unfolding entry_mode
returns-in-Directory c = sym (ap entry_mode c.in-Directory.is)
