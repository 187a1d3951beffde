-- What the code of the shell's commands promises, for the command that a line's parts mean.
use Rattle.std.specs.Prelude.{List, ℕ}
use Rattle.buffers.specs.Text.{Text}
use Rattle.accounts.specs.declared.Caller.{Caller}
use Rattle.commands.specs.declared.ShellCommand.{ShellCommand as ShellParts}
use Rattle.commands.specs.Command.{ShellAction}
use Rattle.commands.specs.Meaning.{ShellMeant}
use Rattle.tree.specs.Forest.{Place}
use Rattle.tree.specs.Node.{Node}
use Rattle.tree.specs.TreeBytes.{Encodes}
use Rattle.shell.specs.Replies.{Answer}
use Rattle.shell.specs.Steps.{run_shell}
use Rattle.shell.specs.CommandBytes.{Follows}

-- the answer and the bytes are those of the command's steps, whichever tree's bytes these are
abbrev pub ShellDone : Caller → Text → ShellParts → List ℕ → List ℕ → Answer → List ℕ → List ℕ → Type 0
ShellDone c line command b a r b' a' = (t : Place Node) (k : ShellAction) → Encodes b t → ShellMeant line command k → Follows (run_shell c 0 t k) b a r b' a'
