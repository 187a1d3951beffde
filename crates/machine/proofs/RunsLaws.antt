-- How long an answer buffer has to be, and whose a line is: root's just if it has a listed form and caller 0.
use Rattle.std.specs.Prelude.{◌≡◌, refl, false, eqb}
use Rattle.std.proofs.Math.Option.{none, some}
use Rattle.accounts.proofs.AccessLaws.{is_root_is}
use Rattle.commands.specs.Command.{Line, line}
use Rattle.machine.specs.Runs.{Call, least_room, of_root, root's}

pub least_room_is : least_room ≡ 4096
unfolding least_room
least_room_is = refl

-- a line without a listed form is not root's
pub no_form_not_root's : (call : Call) → line call.line ≡ none → root's call ≡ false
unfolding root's of_root
no_form_not_root's call e = rw e

-- one with a listed form is by its caller
pub root's-by-caller : (call : Call) (l : Line) → line call.line ≡ some l → root's call ≡ eqb l.caller.0 0
unfolding root's of_root
root's-by-caller call l e = rw (e, is_root_is l.caller)
