-- What a command does to the accounts' working directories.
use Rattle.std.specs.Prelude.{◌≡◌, ◌⊎◌}
use Rattle.accounts.specs.declared.Caller.{Caller}
use Rattle.accounts.specs.declared.Uid.{Uid}
use Rattle.syntax.specs.Path.{Path}
use Rattle.commands.specs.Command.{cd, Command, account}
use Rattle.store.specs.State.{Registry, working_directory, set_directory}

-- it is a `cd` of this caller's, which sets the caller's working directory and nothing else of the registry
pub record SetByCd (c : Caller) (command : Command) (before after : Registry) : Type 0 where
  pub to : Path
  pub named : command ≡ account (cd to)
  pub set : after ≡ set_directory c.account.uid to before

-- an account's working directory stays, or it is the caller's and a `cd` sets it
abbrev pub MovedByCd : Caller → Command → Registry → Registry → Type 0
MovedByCd c command before after = (uid : Uid)
    → (working_directory uid after ≡ working_directory uid before) ⊎ ((uid ≡ c.account.uid) × SetByCd c command before after)
