-- Commands on entries: the session in which one acts, and its steps as they are on the tree.
use Rattle.std.specs.Prelude.{◌≡◌}
use Rattle.accounts.specs.declared.Account.{Account}
use Rattle.accounts.specs.declared.Caller.{Caller}
use Rattle.accounts.specs.Dominance.{BoundedRole}
use Rattle.accounts.specs.Service.{service}
use Rattle.setup.specs.Setup.{Setup}
use Rattle.tree.specs.Result.{Result, done, ◌>>=◌, Outcome}
use Rattle.tree.specs.Forest.{Place}
use Rattle.tree.specs.Node.{Node}
use Rattle.store.specs.State.{Store}
use Rattle.machine.specs.Machine.{session}
use Rattle.machine.specs.StoreMachine.{store}

-- a session in which a command acts: a setup, a store, the session's role, and its service account
pub record Acting (c : Caller) (account : Account) : Type 0 where
  pub setup : Setup
  pub state : Store
  pub role : BoundedRole
  pub session : session store setup state c ≡ done role
  pub served : account ≡ service setup.pairs role

-- the steps of a command as they are on the tree
unfoldable pub on_tree_steps : Result (Outcome Store) → Result (Outcome (Place Node))
on_tree_steps r = r >>= λ o. done (record { text = o.text; state = o.state.tree })
