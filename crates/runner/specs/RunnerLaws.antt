-- What follows for the store where a shell command follows its steps on the tree.
use Rattle.std.specs.Prelude.{◌≡◌, List, ℕ}
use Rattle.std.proofs.Math.Path.{ap}
use Rattle.accounts.specs.declared.Caller.{Caller}
use Rattle.commands.specs.Command.{ShellAction, shell}
use Rattle.setup.specs.Setup.{Setup}
use Rattle.tree.specs.Result.{Result, refused, done, ◌>>=◌, Outcome}
use Rattle.tree.proofs.ResultLaws.{bind_done, refused_bind, done_bind}
use Rattle.tree.specs.Forest.{Place}
use Rattle.tree.specs.Node.{Node}
use Rattle.tree.specs.TreeBytes.{Encodes}
use Rattle.shell.specs.Replies.{Answer}
use Rattle.shell.specs.Steps.{run_shell}
use Rattle.shell.specs.CommandBytes.{Carries, Follows}
use Rattle.store.specs.State.{Store, State}
use Rattle.machine.specs.Machine.{run}
use Rattle.machine.specs.StoreMachine.{store}
use Rattle.machine.specs.Acting.{on_tree_steps}
use Rattle.stored_header.specs.Stored.{Stored, bytes_with}
use Rattle.stored_header.specs.StoredLaws.{lent_tree}
use Rattle.stored_header.specs.LentLaws.{tree_back, lent_carries}

-- its outcome put into the store, read as the tree again
put_and_read : (s : Store) (r : Result (Outcome (Place Node)))
    → on_tree_steps (r >>= λ o. done (record { text = o.text; state = record { tree = o.state; registry = s.registry } })) ≡ r
unfolding on_tree_steps
put_and_read s (refused k) = rw (refused_bind, refused_bind)
put_and_read s (done o) = rw (done_bind, done_bind)

module _ (u : Setup) (s : Store) (c : Caller) (k : ShellAction) where
  -- its steps on the tree
  shell_on_tree : on_tree_steps (run store u s c (shell k)) ≡ run_shell c 0 s.tree k
  unfolding run
  shell_on_tree = put_and_read s (run_shell c 0 s.tree k)

  -- it keeps the registry
  shell_keeps_registry : (o : Outcome Store) → run store u s c (shell k) ≡ done o → o.state.registry ≡ s.registry
  unfolding run
  shell_keeps_registry o e =
      let i = bind_done (run_shell c 0 s.tree k) (λ p. done (record { text = p.text; state = record { tree = p.state; registry = s.registry } })) e in
      let q : o ≡ record { text = i.0.text; state = record { tree = i.0.state; registry = s.registry } } = cc i.2 in
      ap (λ (x : Outcome Store). x.state.registry) q

-- what follows for the store
pub shell_carries : {b : List ℕ} {s : State} → Stored b s → (c : Caller) (k : ShellAction) (a a' : List ℕ) (r : Answer) (T : List ℕ)
    → (Encodes (lent_tree b) s.store.tree → Follows (run_shell c 0 s.store.tree k) (lent_tree b) a r T a')
    → Carries (bytes_with s.setup) (run store s.setup s.store c (shell k)) b a r (tree_back b T) a'
shell_carries {s = s} h c k a a' r T f =
    lent_carries h (run store s.setup s.store c (shell k)) (shell_keeps_registry s.setup s.store c k) a a' r T
    (λ e. rw (shell_on_tree s.setup s.store c k) (f e))
