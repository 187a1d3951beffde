-- Who may call: the caller that a setup knows by a number, and whether it grants a login.
use Rattle.std.specs.Prelude.{List, [], ◌∷◌, Bool, false, ◌&&◌, ◌||◌, cond}
use Rattle.std.proofs.Math.Option.{Option}
use Rattle.buffers.specs.Text.{Text, same_text}
use Rattle.accounts.specs.declared.Caller.{Caller}
use Rattle.accounts.specs.declared.Uid.{Uid}
use Rattle.accounts.specs.Groups.{with_group}
use Rattle.accounts.specs.Access.{is_root, same_uid}
use Rattle.accounts.specs.Caller.{root_caller}
use Rattle.accounts.specs.Dominance.{same_role, BoundedRole}
use Rattle.setup.specs.Setup.{Person, Grant, Setup, person}
use Rattle.tree.specs.declared.Cause.TheVariants.{UnknownCaller}
use Rattle.tree.specs.Result.{Result, done, ◌>>=◌, present}

-- the caller's account and primary group: root, or a person of the setup (2)
unfoldable pub person_caller : Uid → Person → Caller
person_caller uid who = record {
  account = record { uid = uid; groups = with_group who.primary who.further };
  primary = who.primary;
}

unfoldable pub known_caller : Uid → Option Person → Result Caller
known_caller uid known = do
  who ← present known UnknownCaller
  done (person_caller uid who)

unfoldable pub caller : Setup → Uid → Result Caller
caller setup uid = cond (is_root uid) (done root_caller) (known_caller uid (person setup uid))

-- whether a grant has just these three
unfoldable pub granted : List Grant → Uid → BoundedRole → Text → Bool
granted [] uid z password = false
granted (g ∷ gs) uid z password =
    (same_uid g.uid uid && (same_role g.role z.role && same_text g.password password)) || granted gs uid z password
