-- Commands in a session: without one they are refused, and with one they act for the service account of its role.
use Rattle.std.specs.Prelude.{◌≡◌, refl, List, true, ℕ, get_or}
use Rattle.std.proofs.Common.{sym, ◌∙◌, ap}
use Rattle.std.proofs.Math.Option.{Option, none, some}
use Rattle.buffers.specs.Cases.{contra}
use Rattle.accounts.specs.declared.Account.{Account}
use Rattle.accounts.specs.declared.Caller.{Caller}
use Rattle.accounts.specs.declared.Role.{Role}
use Rattle.accounts.specs.declared.Session.{Session}
use Rattle.accounts.specs.Session.{nobody, as_role}
use Rattle.accounts.specs.Dominance.{BoundedRole}
use Rattle.accounts.specs.Closure.{rows_of, row_account}
use Rattle.commands.specs.Command.{EntryAction, add, co, commit, up, del}
use Rattle.tree.specs.declared.Cause.TheVariants.{NoSession}
use Rattle.tree.specs.Result.{refused, done}
use Rattle.tree.proofs.ResultLaws.{present_of, present_none, refused_bind}
use Rattle.std.specs.Prelude.{Err}
use Rattle.tree.specs.declared.Refusal.TheVariants.{For}
use Rattle.store.specs.State.{State}
use Rattle.header.specs.HeaderBytes.{session_held}
use Rattle.header.specs.SessionBytesLaws.{role_is}
use Rattle.header.specs.PairRowsLaws.{rows_tell_account}
use Rattle.machine.specs.Machine.{session, run_add, run_co, run_commit, run_up, run_del, run_entry}
use Rattle.machine.specs.StoreMachine.{store}
use Rattle.shell.specs.CommandBytes.{CarriesSilently}
use Rattle.shell.proofs.CommandBytesLaws.{refusal_follows}
use Rattle.machine.specs.Acting.{Acting}
use Rattle.stored_header.specs.Stored.{Stored, bytes_with}

-- no session is held where none is, and a role's where it is
held_none : (o : Option BoundedRole) → nobody ≡ session_held o → o ≡ none
unfolding session_held
held_none none e = refl
held_none (some z) e = let h = ap (λ (s : Session). s.0) e in contra {b = true} refl (cc)

pub held_some : (r : Role) (o : Option BoundedRole) → as_role r ≡ session_held o → (z : BoundedRole) × (o ≡ some z) × (z.role ≡ r)
unfolding session_held
held_some r none e = let h = ap (λ (s : Session). s.0) e in contra {b = true} refl (cc)
held_some r (some z) e = let h = ap (λ (s : Session). s.0) e in (z, refl, cc)

module _ {b : List ℕ} {s : State} (h : Stored b s) (c : Caller) where
  -- the caller's session
  abbrev held : Option BoundedRole
  held = get_or s.store.registry.sessions c.account.uid.0 none

  no_session : held ≡ none → session store s.setup s.store c ≡ refused NoSession
  unfolding session
  no_session e = rw e (present_none NoSession)

  pub some_session : (z : BoundedRole) → held ≡ some z → session store s.setup s.store c ≡ done z
  unfolding session
  some_session z e = rw e (present_of z NoSession)

  -- without one such a command is refused by 12
  refused_without : held ≡ none → (k : EntryAction) → run_entry store s.setup s.store c k ≡ refused NoSession
  unfolding run_entry run_add run_co run_commit run_up run_del
  refused_without e (add w p z) = rw (no_session e) (refused_bind NoSession _)
  refused_without e (co p d) = rw (no_session e) (refused_bind NoSession _)
  refused_without e (commit w) = rw (no_session e) (refused_bind NoSession _)
  refused_without e (up w) = rw (no_session e) (refused_bind NoSession _)
  refused_without e (del p) = rw (no_session e) (refused_bind NoSession _)

  pub nobody_carries : (k : EntryAction) → nobody ≡ session_held held
      → CarriesSilently (bytes_with s.setup) (run_entry store s.setup s.store c k) b (Err (For NoSession)) b
  nobody_carries k e = refusal_follows b (refused_without (held_none held e) k)

  -- in one of a role it acts for the account that the rows tell of the role
  module _ {role : Role} {rows : List ℕ} {account : Account} (kept : as_role role ≡ session_held held) (same : rows ≡ rows_of s.setup.pairs)
      (told : account ≡ row_account rows role) where
    abbrev of_role : (z : BoundedRole) × (held ≡ some z) × (z.role ≡ role)
    of_role = held_some role held kept

    abbrev pub acting : Acting c account
    acting = record {
      setup = s.setup;
      state = s.store;
      role = of_role.0;
      session = some_session of_role.0 of_role.1;
      served = told ∙ ap (row_account rows) (sym of_role.2) ∙ rows_tell_account s.setup.pairs rows same of_role.0;
    }

    pub acting_as : as_role role ≡ session_held (some acting.role)
    acting_as = role_is role of_role.0 of_role.2
