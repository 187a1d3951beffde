-- The machine's steps of `commit` from the file found on, and in a session those of `up` and `del`, are those of EntrySteps, with the accounts
-- of the caller and of the session's role.
use Rattle.std.specs.Prelude.{◌≡◌, false}
use Rattle.std.proofs.Common.{sym, ◌∙◌}
use Rattle.std.proofs.Math.Option.{none}
use Rattle.buffers.specs.Cases.{case}
use Rattle.accounts.specs.declared.Account.{Account}
use Rattle.accounts.specs.declared.Caller.{Caller}
use Rattle.accounts.specs.declared.Right.TheVariants.{R}
use Rattle.accounts.specs.Dominance.{BoundedRole}
use Rattle.accounts.specs.Service.{service}
use Rattle.syntax.specs.Path.{Path, ◌▹◌, EntryPath, in_rep, entry_location, below_rep}
use Rattle.setup.specs.Setup.{Setup}
use Rattle.tree.specs.declared.Cause.{Cause}
use Rattle.tree.specs.Result.{Result, refused, done}
use Rattle.tree.proofs.ResultLaws.{by_result, then_then, then_bind, bind_bind, done_then, refused_then, done_bind, refused_bind, require_true, require_false}
use Rattle.tree.specs.Forest.{Place}
use Rattle.tree.specs.Node.{is_directory, Node, allows}
use Rattle.tree.specs.Walk.{by_modes, walk}
use Rattle.tree.proofs.StepLaws.{walked}
use Rattle.tree.proofs.JudgeLaws.{kind_by_modes, readable_by_modes, writable_by_modes}
use Rattle.store.specs.State.{Store}
use Rattle.machine.specs.Machine.{session, working_file, original, commit_found, run_up, run_del}
use Rattle.machine.specs.StoreMachine.{store}
use Rattle.machine.specs.Acting.{Acting, on_tree_steps}
use Rattle.entries.specs.EntrySteps.{file_tests, judged_walk, file_walk, link_on, link_at, link, commit_tests, commit_at, del_tests, del_walk, after_commit, after_up, after_del, changing, commit_steps, up_steps, del_steps}

-- a file is readable with r
readable_file : (a : Account) (n : Node) → is_directory n.kind ≡ false → (by_modes a).readable n ≡ allows a R n
readable_file a n f = readable_by_modes a n ∙ rw f (case (allows a R n) (λ t. rw t) (λ t. rw t))

-- the account's walk to the tag's entry is that to a file with r
original_is : (u : Setup) (s : Store) (c : Caller) (z : BoundedRole) (e : EntryPath)
    → original store u s c z e ≡ file_walk (service u.pairs z) R s.tree (entry_location e)
unfolding original judged_walk file_tests below_rep in_rep entry_location
original_is u s c z e =
    let a = service u.pairs z in
    by_result (walk (by_modes a) s.tree (in_rep e.folder ▹ e.name))
    (λ k q. rw (q, refused_bind) (sym (refused_bind k _)))
    (λ d q. case (is_directory d.here.kind)
    (λ i. simp (q, done_bind, kind_by_modes a d.here, i, require_false, refused_then))
    (λ i. simp (q, done_bind, kind_by_modes a d.here, i, require_true, done_then, readable_file a d.here i)))

module _ (u : Setup) (s : Store) (c : Caller) (z : BoundedRole) where
  -- from the file found on
  pub found_is : (w : Path) (d : Place Node) → on_tree_steps (commit_found store u s c z w d) ≡ commit_steps c.account (service u.pairs z) s.tree w d
  unfolding on_tree_steps commit_found working_file commit_at link_at link_on file_tests commit_tests after_commit
  found_is w d = simp (original_is, then_then, then_bind, bind_bind, done_bind, writable_by_modes)

module _ (u : Setup) (s : Store) (c : Caller) (z : BoundedRole) (e : session store u s c ≡ done z) where
  abbrev account : Account
  account = service u.pairs z

  up_is : (w : Path) → on_tree_steps (run_up store u s c w) ≡ up_steps c.account account s.tree w
  unfolding on_tree_steps run_up working_file link link_at link_on file_tests after_up
  up_is w = simp (e, original_is, then_then, then_bind, bind_bind, done_bind)

  del_is : (p : EntryPath) → on_tree_steps (run_del store u s c p) ≡ del_steps account s.tree p
  unfolding on_tree_steps run_del del_walk del_tests after_del below_rep in_rep entry_location
  del_is p =
      let t = s.tree in
      let j = by_modes account in
      let q = in_rep p.folder in
      rw (e, done_bind) (by_result (walk j t (q ▹ p.name))
      (λ k y. simp (y, refused_bind))
      (λ d y.
      let v = walked j t q p.name y in
      simp (y, v.1, done_bind, writable_by_modes account v.0.here, then_then, then_bind)))

-- ---- what steps come to that end in a change

module _ {A : Type 0} (steps : Result A) (after : A → Place Node) where
  pub comes_to : {x : A} → steps ≡ done x → changing steps after ≡ done (record { text = none; state = after x })
  comes_to {x} e = rw (e, done_bind)

  pub comes_not : {k : Cause} → steps ≡ refused k → changing steps after ≡ refused k
  comes_not {k} e = rw (e, refused_bind)

-- ---- in a session

-- the command's steps are those by the session's account
module _ {c : Caller} {a : Account} (j : Acting c a) where
  pub found_acts : (w : Path) (d : Place Node) → on_tree_steps (commit_found store j.setup j.state c j.role w d) ≡ commit_steps c.account a j.state.tree w d
  found_acts w d = rw (found_is j.setup j.state c j.role w d, ← j.served)

  pub up_acts : (w : Path) → on_tree_steps (run_up store j.setup j.state c w) ≡ up_steps c.account a j.state.tree w
  up_acts w = rw (up_is j.setup j.state c j.role j.session w, ← j.served)

  pub del_acts : (e : EntryPath) → on_tree_steps (run_del store j.setup j.state c e) ≡ del_steps a j.state.tree e
  del_acts e = rw (del_is j.setup j.state c j.role j.session e, ← j.served)
