-- `header::sessions::login` meets its contract: without a grant nothing is stored, with one the session of the role is.
use mathlib.Core.Path.{◌∙◌}
use mathlib.Core.Option.{some}
use Rattle.buffers.specs.Cases.{answers_false, answers_true}
use Rattle.header.specs.SessionBytesLaws.{role_is, role_session}
use Rattle.header.specs.HeaderFollowsLaws.{login_refused, login_done}
use Rattle.header.proofs.sessions.login.Goals as goal

pub returns-then-not-is_granted : goal.returns-then-not-is_granted
returns-then-not-is_granted c u z h s e =
    let a = c.args in
    login_refused u z a.header.now a.uid s a.password.now (answers_false (c.is_granted.ensures u z h s e) c.if-not-is_granted.true-raw)

pub set_session-requires : goal.set_session-requires
set_session-requires c =
    let q = role_session c.args.role c.requires.role_bound in
    record {
      headed = c.requires.headed;
      uid_bound = c.requires.uid_bound;
      bounded_session = (q.0, c.log_in-session.ensures ∙ q.1);
    }

pub returns : goal.returns
returns c u z h s e =
    let a = c.args in
    login_done u z a.header.now a.uid s a.password.now c.set_session.new.header
    (answers_true (c.is_granted.ensures u z h s e) c.if-not-is_granted.false-raw)
    (c.set_session.ensures u z h (some s) (c.log_in-session.ensures ∙ role_is a.role s e))
