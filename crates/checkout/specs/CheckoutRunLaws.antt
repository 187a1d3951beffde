-- In a session, `co` of the store's machine is the steps by the session's account, and it keeps the sessions.
use Rattle.std.specs.Prelude.{◌≡◌}
use Rattle.std.proofs.Common.{sym, ◌∙◌, ap}
use Rattle.accounts.specs.declared.Account.{Account}
use Rattle.accounts.specs.declared.Caller.{Caller}
use Rattle.accounts.specs.Dominance.{BoundedRole}
use Rattle.accounts.specs.Service.{service}
use Rattle.syntax.specs.Path.{Path, EntryPath, in_rep, entry_location, below_rep}
use Rattle.setup.specs.Setup.{Setup}
use Rattle.tree.specs.Result.{Result, done, ◌>>=◌, ◌>>◌, Outcome}
use Rattle.tree.proofs.ResultLaws.{done_bind, then_bind, bind_bind}
use Rattle.tree.specs.Forest.{Place}
use Rattle.tree.specs.Node.{Node}
use Rattle.store.specs.State.{Store}
use Rattle.machine.specs.Machine.{session, run_co}
use Rattle.machine.specs.StoreMachine.{store}
use Rattle.machine.specs.Acting.{Acting, on_tree_steps}
use Rattle.placing.specs.Placing.{place_copies}
use Rattle.checkout.specs.Checkout.{copier, readable_walk, co_steps}

-- steps are on the tree what each of them is there
module _ {A : Type 0} (a : Result A) (f : A → Result (Outcome Store)) (h : A → Result (Outcome (Place Node))) (each : (x : A) → on_tree_steps (f x) ≡ h x) where
  on_tree_bind : on_tree_steps (a >>= f) ≡ (a >>= h)
  unfolding on_tree_steps
  on_tree_bind = bind_bind a f (λ o. done (record { text = o.text; state = o.state.tree })) ∙ (λ i. a >>= λ x. each x i)

-- and so behind a test
on_tree_then : (a : Result (Unit {0})) (r : Result (Outcome Store)) (q : Result (Outcome (Place Node))) → on_tree_steps r ≡ q → on_tree_steps (a >> r) ≡ (a >> q)
unfolding on_tree_steps
on_tree_then a r q k = then_bind a r (λ o. done (record { text = o.text; state = o.state.tree })) ∙ ap (λ (x : Result (Outcome (Place Node))). a >> x) k

-- a test of what a step gives belongs to the step
on_tree_judged : {A : Type 0} (a : Result A) (test : A → Result (Unit {0})) (f : A → Result (Outcome Store)) (h : A → Result (Outcome (Place Node)))
    → ((x : A) → on_tree_steps (f x) ≡ h x) → on_tree_steps (a >>= λ x. test x >> f x) ≡ ((a >>= λ x. test x >> done x) >>= h)
on_tree_judged a test f h each =
    on_tree_bind a (λ x. test x >> f x) (λ x. test x >> h x) (λ x. on_tree_then (test x) (f x) (h x) (each x))
    ∙ sym (bind_bind a (λ x. test x >> done x) h ∙ (λ i. a >>= λ x. (then_bind (test x) (done x) h ∙ ap (λ (r : Result (Outcome (Place Node))). test x >> r) (done_bind x h)) i))

on_tree_done : (o : Outcome Store) → on_tree_steps (done o) ≡ done (record { text = o.text; state = o.state.tree })
unfolding on_tree_steps
on_tree_done o = done_bind o (λ x. done (record { text = x.text; state = x.state.tree }))

module _ (u : Setup) (s : Store) (c : Caller) (e : EntryPath) (d : Path) where
  -- behind the session, the steps of the store's machine are those by the session's account
  co_in_session : {z : BoundedRole} {a : Account} → session store u s c ≡ done z → a ≡ service u.pairs z
      → on_tree_steps (run_co store u s c e d) ≡ co_steps (copier a c) s.tree e d
  unfolding run_co co_steps readable_walk place_copies below_rep in_rep entry_location
  co_in_session {z} {a} in_session is_account =
      rw (in_session, done_bind, is_account)
      (on_tree_bind _ _ _ λ directory.
      on_tree_judged _ _ _ _ λ filed.
      on_tree_then _ _ _ (on_tree_then _ _ _ (on_tree_done _)))

-- the command's steps are those by the session's account
pub co_acts : {c : Caller} {a : Account} (j : Acting c a) (e : EntryPath) (d : Path)
    → on_tree_steps (run_co store j.setup j.state c e d) ≡ co_steps (copier a c) j.state.tree e d
co_acts {c} j e d = co_in_session j.setup j.state c e d j.session j.served
