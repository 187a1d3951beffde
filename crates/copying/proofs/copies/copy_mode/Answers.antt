-- `copying::copies::copy_mode` meets its contract: a mode for each kind.
use Rattle.std.proofs.Common.{rules}
use Rattle.copying.specs.Copying.{copy_mode}
use Rattle.copying.proofs.copies.copy_mode.Goals as goal

pub returns-in-File : goal.returns-in-File
unfolding copy_mode
returns-in-File c = search rules

pub returns-in-Directory : goal.returns-in-Directory
unfolding copy_mode
returns-in-Directory c = search rules
