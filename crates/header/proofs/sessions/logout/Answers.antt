-- `header::sessions::logout` meets its contract: the session that is none is stored.
use mathlib.Core.Path.{◌∙◌}
use mathlib.Core.Option.{none}
use Rattle.header.specs.SessionBytesLaws.{nobody_is}
use Rattle.header.specs.HeaderFollowsLaws.{logout_done}
use Rattle.header.proofs.sessions.logout.Goals as goal

pub set_session-requires : goal.set_session-requires
set_session-requires c =
    record {
      headed = c.requires.headed;
      uid_bound = c.requires.uid_bound;
      bounded_session = (none, c.log_out-session.ensures ∙ nobody_is);
    }

pub returns : goal.returns
returns c u z h =
    let a = c.args in
    logout_done u z a.header.now a.uid c.set_session.new.header
    (c.set_session.ensures u z h none (c.log_out-session.ensures ∙ nobody_is))
