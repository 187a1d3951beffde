-- `commands::making::command_of` meets its contract: each arm makes the command that its word's arguments make, by computation.
use mathlib.Core.Path.{refl}
use Rattle.syntax.specs.Form.{◌>>=◌}
use Rattle.arguments.specs.Kinds.{value, values_of}
use Rattle.commands.specs.Command.{takes, listed}
use Rattle.commands.specs.Parsed.{with_path, with_entry, shell_meaning, account_meaning, entry_meaning, meaning}
use Rattle.commands.specs.ParsedLaws.{for_word}
use Rattle.commands.proofs.making.command_of.Goals as goal

pub returns-in-Create : goal.returns-in-Create
unfolding shell_meaning account_meaning entry_meaning meaning with_path with_entry value values_of listed takes ◌>>=◌
returns-in-Create c = for_word c.in-Create.is (λ t. refl)

pub returns-in-Mkdir : goal.returns-in-Mkdir
unfolding shell_meaning account_meaning entry_meaning meaning with_path with_entry value values_of listed takes ◌>>=◌
returns-in-Mkdir c = for_word c.in-Mkdir.is (λ t. refl)

pub returns-in-Read : goal.returns-in-Read
unfolding shell_meaning account_meaning entry_meaning meaning with_path with_entry value values_of listed takes ◌>>=◌
returns-in-Read c = for_word c.in-Read.is (λ t. refl)

pub returns-in-Write : goal.returns-in-Write
unfolding shell_meaning account_meaning entry_meaning meaning with_path with_entry value values_of listed takes ◌>>=◌
returns-in-Write c = for_word c.in-Write.is (λ t. refl)

pub returns-in-Rm : goal.returns-in-Rm
unfolding shell_meaning account_meaning entry_meaning meaning with_path with_entry value values_of listed takes ◌>>=◌
returns-in-Rm c = for_word c.in-Rm.is (λ t. refl)

pub returns-in-Rmdir : goal.returns-in-Rmdir
unfolding shell_meaning account_meaning entry_meaning meaning with_path with_entry value values_of listed takes ◌>>=◌
returns-in-Rmdir c = for_word c.in-Rmdir.is (λ t. refl)

pub returns-in-Mv : goal.returns-in-Mv
unfolding shell_meaning account_meaning entry_meaning meaning with_path with_entry value values_of listed takes ◌>>=◌
returns-in-Mv c = for_word c.in-Mv.is (λ t. refl)

pub returns-in-Chmod : goal.returns-in-Chmod
unfolding shell_meaning account_meaning entry_meaning meaning with_path with_entry value values_of listed takes ◌>>=◌
returns-in-Chmod c = for_word c.in-Chmod.is (λ t. refl)

pub returns-in-Chgrp : goal.returns-in-Chgrp
unfolding shell_meaning account_meaning entry_meaning meaning with_path with_entry value values_of listed takes ◌>>=◌
returns-in-Chgrp c = for_word c.in-Chgrp.is (λ t. refl)

pub returns-in-Chown : goal.returns-in-Chown
unfolding shell_meaning account_meaning entry_meaning meaning with_path with_entry value values_of listed takes ◌>>=◌
returns-in-Chown c = for_word c.in-Chown.is (λ t. refl)

pub returns-in-Login : goal.returns-in-Login
unfolding shell_meaning account_meaning entry_meaning meaning with_path with_entry value values_of listed takes ◌>>=◌
returns-in-Login c = for_word c.in-Login.is (λ t. refl)

pub returns-in-Logout : goal.returns-in-Logout
unfolding shell_meaning account_meaning entry_meaning meaning with_path with_entry value values_of listed takes ◌>>=◌
returns-in-Logout c = for_word c.in-Logout.is (λ t. refl)

pub returns-in-Cd : goal.returns-in-Cd
unfolding shell_meaning account_meaning entry_meaning meaning with_path with_entry value values_of listed takes ◌>>=◌
returns-in-Cd c = for_word c.in-Cd.is (λ t. refl)

pub returns-in-Add : goal.returns-in-Add
unfolding shell_meaning account_meaning entry_meaning meaning with_path with_entry value values_of listed takes ◌>>=◌
returns-in-Add c = for_word c.in-Add.is (λ t. refl)

pub returns-in-Co : goal.returns-in-Co
unfolding shell_meaning account_meaning entry_meaning meaning with_path with_entry value values_of listed takes ◌>>=◌
returns-in-Co c = for_word c.in-Co.is (λ t. refl)

pub returns-in-Commit : goal.returns-in-Commit
unfolding shell_meaning account_meaning entry_meaning meaning with_path with_entry value values_of listed takes ◌>>=◌
returns-in-Commit c = for_word c.in-Commit.is (λ t. refl)

pub returns-in-Up : goal.returns-in-Up
unfolding shell_meaning account_meaning entry_meaning meaning with_path with_entry value values_of listed takes ◌>>=◌
returns-in-Up c = for_word c.in-Up.is (λ t. refl)

pub returns-in-Del : goal.returns-in-Del
unfolding shell_meaning account_meaning entry_meaning meaning with_path with_entry value values_of listed takes ◌>>=◌
returns-in-Del c = for_word c.in-Del.is (λ t. refl)
