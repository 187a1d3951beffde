-- `header::sessions::session_of` meets its contract: the byte is the session's.
use Rattle.std.proofs.Common.{◌≡◌, ℕ, ◌+◌, ◌-◌, ◌≤◌, get_or, arith, rules, ap, ◌∙◌, Option, Some, None}
use Rattle.std.specs.Option.{option_map, SomeIff}
use Rattle.std.proofs.Math.Option.{Option as Held, none}
use Rattle.accounts.specs.declared.Role.{Role}
use Rattle.accounts.specs.Session.{holding}
use Rattle.accounts.specs.Dominance.{BoundedRole}
use Rattle.store.specs.HeaderLayout.{sessions_offset}
use Rattle.store.specs.StoreBytes.{session_byte}
use Rattle.header.specs.HeaderBytes.{session_held}
use Rattle.header.specs.HeaderBytesLaws.{headed_wide, session_stands}
use Rattle.header.specs.SessionBytesLaws.{zero_holds, role_holds}
use Rattle.header.proofs.sessions.session_of.Goals as goal

abbrev role_of : ℕ → Role
role_of k = record { 0 = k }

-- the byte less 1, where that is a number, is the role
byte_holds : (n : ℕ) (r : Option ℕ) (o : Held BoundedRole) → SomeIff r (1 ≤ n) (n - 1) → n ≡ session_byte o
    → holding (option_map role_of r) ≡ session_held o
byte_holds n None o s e = zero_holds n o e (omega (arith, s))
byte_holds n (Some k) o s e = rw s.1 (role_holds n o e (λ q. let z : ⊥ = omega (arith, s.0) in z))

pub bounds-header-uid : goal.bounds-header-uid
bounds-header-uid c = omega (arith, headed_wide c.requires.headed)

pub returns : goal.returns
returns c u z h =
    let v = c.args.uid in
    let g : c.map.result ≡ option_map role_of c.checked_sub.result = search rules in
    ap holding g
    ∙ byte_holds (get_or c.args.header.now (sessions_offset + v.0) 0) c.checked_sub.result (get_or z.sessions v.0 none) c.checked_sub.ensures
    (session_stands h v c.requires.uid_bound)
