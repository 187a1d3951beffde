-- When what `login` and `logout` answered and left follows the steps.
use Rattle.std.specs.Prelude.{◌≡◌, List, true, false, ℕ, Ok, Err, None}
use Rattle.std.proofs.Common.{ap, ◌∙◌}
use Rattle.std.proofs.Math.Option.{none, some}
use Rattle.buffers.specs.Text.{Text}
use Rattle.accounts.specs.declared.Uid.{Uid}
use Rattle.accounts.specs.Dominance.{BoundedRole}
use Rattle.setup.specs.Setup.{Setup}
use Rattle.tree.specs.declared.Cause.TheVariants.{NoGrant}
use Rattle.tree.specs.Result.{refused, done}
use Rattle.tree.proofs.ResultLaws.{refused_bind, done_bind, require_true, require_false, refused_then, done_then}
use Rattle.tree.specs.declared.Refusal.TheVariants.{For}
use Rattle.shell.proofs.CommandBytesLaws.{refusal_follows, silence_follows}
use Rattle.store.specs.State.{Registry, set_session}
use Rattle.store.specs.StoreBytes.{header_bytes}
use Rattle.store.specs.Callers.{granted}
use Rattle.store.specs.Logins.{logged_in, logged_out}
use Rattle.header.specs.HeaderBytes.{silently, HeaderFollows}

-- ---- what the steps come to

module _ (u : Setup) (z : Registry) (uid : Uid) (s : BoundedRole) (password : Text) where
  no_grant_refused : granted u.grants uid s password ≡ false → logged_in u z uid s password ≡ refused NoGrant
  unfolding logged_in
  no_grant_refused g = rw (g, require_false NoGrant, refused_then NoGrant (done (set_session uid (some s) z)))

  grant_done : granted u.grants uid s password ≡ true → logged_in u z uid s password ≡ done (set_session uid (some s) z)
  unfolding logged_in
  grant_done g = rw (g, require_true NoGrant, done_then (done (set_session uid (some s) z)))

-- ---- what follows them

module _ (u : Setup) (z : Registry) (b : List ℕ) (uid : Uid) where
  -- `login` without a grant
  pub login_refused : (s : BoundedRole) (password : Text) → granted u.grants uid s password ≡ false
      → HeaderFollows u (logged_in u z uid s password) b (Err (For NoGrant)) b
  login_refused s password g = refusal_follows b (ap silently (no_grant_refused u z uid s password g) ∙ refused_bind NoGrant _)

  -- `login` with one
  pub login_done : (s : BoundedRole) (password : Text) (b' : List ℕ) → granted u.grants uid s password ≡ true
      → b' ≡ header_bytes u (set_session uid (some s) z) → HeaderFollows u (logged_in u z uid s password) b (Ok None) b'
  login_done s password b' g e = silence_follows b b' (ap silently (grant_done u z uid s password g) ∙ done_bind (set_session uid (some s) z) _) e

  -- `logout`
  pub logout_done : (b' : List ℕ) → b' ≡ header_bytes u (set_session uid none z) → HeaderFollows u (logged_out z uid) b (Ok None) b'
  unfolding logged_out
  logout_done b' e = silence_follows b b' (done_bind (set_session uid none z) _) e
