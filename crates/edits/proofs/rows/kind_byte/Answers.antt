-- `edits::rows::kind_byte` meets its contract: a letter for each kind.
use mathlib.Core.Path.{sym, ap}
use Rattle.tree.specs.Encoding.{kind_byte}
use Rattle.edits.proofs.rows.kind_byte.Goals as goal

pub returns-in-File : goal.returns-in-File
unfolding kind_byte
returns-in-File c = sym (ap kind_byte c.in-File.is)

pub returns-in-Directory : goal.returns-in-Directory
unfolding kind_byte
returns-in-Directory c = sym (ap kind_byte c.in-Directory.is)
