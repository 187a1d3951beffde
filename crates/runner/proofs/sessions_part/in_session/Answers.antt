-- `runner::sessions_part::in_session` meets its contract: without a session it is refused, else it is that of the role.
use mathlib.Core.Path.{sym, ap, ◌∙◌}
use Rattle.accounts.specs.Session.{holding}
use Rattle.header.specs.SessionBytesLaws.{role_bounded}
use Rattle.runner.specs.SessionStepLaws.{nobody_carries}
use Rattle.runner.proofs.sessions_part.in_session.Goals as goal

pub session_in-requires : goal.session_in-requires
session_in-requires c = record {
  some_store = c.requires.some_store;
  uid_bound = c.requires.uid_bound;
}

pub as_role-requires : goal.as_role-requires
as_role-requires c =
    let h = c.requires.some_store in
    let is = ap holding (sym c.in-Some.is) in
    let held = c.session_in.ensures in
    record {
      some_store = h;
      some_entry_command = c.requires.some_entry_command;
      in_bounds = c.requires.in_bounds;
      role_bound = role_bounded _ (_, is ∙ held h.0 h.1);
      held_role = λ s t. is ∙ held s t;
    }

pub returns-in-None : goal.returns-in-None
returns-in-None c s k h m =
    let a = c.args in
    nobody_carries h a.caller k (ap holding (sym c.in-None.is) ∙ c.session_in.ensures s h) a.answer.now

pub returns-in-Some : goal.returns-in-Some
returns-in-Some c = c.as_role.ensures
