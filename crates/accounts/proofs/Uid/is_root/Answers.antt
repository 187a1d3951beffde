-- `accounts::Uid::is_root` meets its contract: root's number is 0.
use borrow.Author.Rules.{rules}
use Rattle.accounts.specs.Access.{is_root}
use Rattle.accounts.proofs.Uid.is_root.Goals as goal

pub returns : goal.returns
unfolding is_root
returns c = search rules
