-- `attributes::checks::may_give` meets its contract: root, then the owner, then the group.
use Rattle.std.proofs.Common.{sym, ◌∙◌}
use Rattle.accounts.proofs.AccessLaws.{same_uid_is}
use Rattle.attributes.specs.Checks.{may_give}
use Rattle.attributes.proofs.checks.may_give.Goals as goal

pub returns-then-is_root : goal.returns-then-is_root
unfolding may_give
returns-then-is_root c = rw (sym c.is_root.ensures ∙ c.if-is_root.true) c.if-is_root.true

pub returns-then-eq : goal.returns-then-eq
unfolding may_give
returns-then-eq c =
    rw (sym c.is_root.ensures ∙ c.if-is_root.false, ← c.owner_at.ensures, same_uid_is c.args.account.uid c.owner_at.result, sym c.eq.ensures ∙ c.if-eq.true) c.has.ensures

pub returns-else-eq : goal.returns-else-eq
unfolding may_give
returns-else-eq c =
    rw (sym c.is_root.ensures ∙ c.if-is_root.false, ← c.owner_at.ensures, same_uid_is c.args.account.uid c.owner_at.result, sym c.eq.ensures ∙ c.if-eq.false) c.if-eq.false
