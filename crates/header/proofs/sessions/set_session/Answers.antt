-- `header::sessions::set_session` meets its contract: the byte is the session's, and it alone is stored.
use mathlib.Core.Path.{ap, ◌∙◌}
use Prim.Native.Nat.{◌+◌}
use native.Mathlib.Omega.{arith}
use lib.ListN.{set}
use Rattle.store.specs.HeaderLayout.{sessions_offset}
use Rattle.header.specs.HeaderBytesLaws.{headed_wide, session_stored}
use Rattle.header.proofs.sessions.set_session.Goals as goal

pub bounds-header-uid : goal.bounds-header-uid
bounds-header-uid c = omega (arith, headed_wide c.requires.headed)

pub returns : goal.returns
returns c u z h o e =
    let v = c.args.uid in
    ap (set c.args.header.now (sessions_offset + v.0)) (c.byte_of-b.ensures o e) ∙ session_stored h v c.requires.uid_bound o
