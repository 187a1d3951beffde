-- The joining of document 02: the working directory put in front of a command's short paths; over 6 names 19, before all the command's own
-- checks.
use Rattle.std.specs.Prelude.{◌+◌, leb}
use Rattle.syntax.specs.Path.{Path, depth, most_names, TypedPath, whole, short, follows}
use Rattle.commands.specs.Command.{ShellForm, create, mkdir, read, write, rm, rmdir, mv, chmod, chgrp, chown, AccountForm, login, logout, cd}
use Rattle.commands.specs.Command.{EntryForm, add, co, commit, up, del, CommandForm, shell, account, entry, Command, TypedCommand}
use Rattle.tree.specs.declared.Cause.TheVariants.{TooDeep}
use Rattle.tree.specs.Result.{Result, done, ◌>>=◌, ◌>>◌, require}

-- a command with another path for each of its paths, from the first on
module _ {P Q : Type 0} (f : P → Result Q) where
  unfoldable pub shell_paths : ShellForm P → Result (ShellForm Q)
  shell_paths (create p m) = f p >>= λ q. done (create q m)
  shell_paths (mkdir p m) = f p >>= λ q. done (mkdir q m)
  shell_paths (read p) = f p >>= λ q. done (read q)
  shell_paths (write p c) = f p >>= λ q. done (write q c)
  shell_paths (rm p) = f p >>= λ q. done (rm q)
  shell_paths (rmdir p) = f p >>= λ q. done (rmdir q)
  shell_paths (mv a b) = f a >>= λ p. f b >>= λ q. done (mv p q)
  shell_paths (chmod p m) = f p >>= λ q. done (chmod q m)
  shell_paths (chgrp p g) = f p >>= λ q. done (chgrp q g)
  shell_paths (chown p u) = f p >>= λ q. done (chown q u)

  unfoldable pub account_paths : AccountForm P → Result (AccountForm Q)
  account_paths (login r w) = done (login r w)
  account_paths logout = done logout
  account_paths (cd p) = f p >>= λ q. done (cd q)

  unfoldable pub entry_paths : EntryForm P → Result (EntryForm Q)
  entry_paths (add w e r) = f w >>= λ q. done (add q e r)
  entry_paths (co e d) = f d >>= λ q. done (co e q)
  entry_paths (commit w) = f w >>= λ q. done (commit q)
  entry_paths (up w) = f w >>= λ q. done (up q)
  entry_paths (del e) = done (del e)

  unfoldable pub command_paths : CommandForm P → Result (CommandForm Q)
  command_paths (shell c) = shell_paths c >>= λ d. done (shell d)
  command_paths (account c) = account_paths c >>= λ d. done (account d)
  command_paths (entry c) = entry_paths c >>= λ d. done (entry d)

-- the path that is meant where the working directory is q
unfoldable pub meant_path : Path → TypedPath → Result Path
meant_path q (whole p) = done p
meant_path q (short p) = do
  require (leb (depth q + depth p) most_names) TooDeep
  done (follows q p)

unfoldable pub whole_command : Path → TypedCommand → Result Command
whole_command q k = command_paths (meant_path q) k
