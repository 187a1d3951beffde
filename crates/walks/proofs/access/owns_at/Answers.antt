-- `walks::access::owns_at` meets its contract: root owns every row, another account those that have its number for the owner's.
use mathlib.Core.Path.{sym, ◌∙◌}
use Rattle.accounts.proofs.AccessLaws.{same_uid_is}
use Rattle.tree.specs.Node.{owns}
use Rattle.walks.proofs.access.owns_at.Goals as goal

pub returns-then-is_root : goal.returns-then-is_root
unfolding owns
returns-then-is_root c = rw (sym c.is_root.ensures ∙ c.if-is_root.true) c.if-is_root.true

pub returns-else-is_root : goal.returns-else-is_root
unfolding owns
returns-else-is_root c = rw (sym c.is_root.ensures ∙ c.if-is_root.false, ← c.owner_at.ensures) (c.eq.ensures ∙ sym (same_uid_is c.args.account.uid c.owner_at.result))
