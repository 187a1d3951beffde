-- `accounts::Account::may` meets its contract: each way through it is one case of the access test (`specs/Access.antt`).
-- Assumes nothing.
use Rattle.std.proofs.Common.{sym, ◌∙◌}
use Rattle.accounts.specs.Access.{same_uid}
use Rattle.accounts.proofs.AccessLaws.{may_root, may_owner, may_group, may_other}
use Rattle.accounts.proofs.Account.may.Goals as goal

pub returns-then-is_root : goal.returns-then-is_root
returns-then-is_root c =
    let a = c.args in
    sym (may_root a.self a.right a.owner a.group a.mode (sym c.is_root.ensures ∙ c.if-is_root.true))

pub returns-then-eq : goal.returns-then-eq
unfolding same_uid
returns-then-eq c =
    let a = c.args in
    c.in_digit.ensures ∙
    sym (may_owner a.self a.right a.owner a.group a.mode (sym c.is_root.ensures ∙ c.if-is_root.false) (sym c.eq.ensures ∙ c.if-eq.true))

pub returns-then-has : goal.returns-then-has
unfolding same_uid
returns-then-has c =
    let a = c.args in
    c.in_digit-then-has.ensures ∙
    sym (may_group a.self a.right a.owner a.group a.mode (sym c.is_root.ensures ∙ c.if-is_root.false) (sym c.eq.ensures ∙ c.if-eq.false) (sym c.has.ensures ∙ c.if-has.true))

pub returns : goal.returns
unfolding same_uid
returns c =
    let a = c.args in
    c.in_digit-2.ensures ∙
    sym (may_other a.self a.right a.owner a.group a.mode (sym c.is_root.ensures ∙ c.if-is_root.false) (sym c.eq.ensures ∙ c.if-eq.false) (sym c.has.ensures ∙ c.if-has.false))
