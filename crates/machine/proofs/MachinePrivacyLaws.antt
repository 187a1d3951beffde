-- A person's directory of mode 0700 is its owner's and root's alone in the store: every command of anybody else, the repository's
-- too, is refused if a path that it walks lies below the directory, and else leaves it unaltered.
use Rattle.std.specs.Prelude.{◌≡◌, true, false, ltb}
use Rattle.std.proofs.Math.Path.{refl, ap}
use Rattle.std.proofs.Common.{◌∙◌, ltb-true}
use Rattle.std.proofs.Math.Option.{some}
use Rattle.std.proofs.Math.Bool.{not}
use Rattle.buffers.specs.Cases.{contra}
use Rattle.accounts.specs.declared.Caller.{Caller}
use Rattle.accounts.specs.declared.Right.{Right}
use Rattle.accounts.specs.declared.Right.TheVariants.{R, W, X}
use Rattle.accounts.specs.Dominance.{BoundedRole}
use Rattle.accounts.specs.Service.{service}
use Rattle.accounts.proofs.ServiceLaws.{service_not_root, service_own, service_foreign}
use Rattle.syntax.specs.Path.{Path, ◌▹◌, EntryPath, parent, last, within, lies_below, in_rep, entry_location, below_rep}
use Rattle.syntax.proofs.WithinLaws.{outside_differs}
use Rattle.commands.specs.Command.{ShellAction, AccountAction, login, logout, cd, EntryAction, add, co, commit, up, del, Command, shell, account, entry, some_path, some_account_path, some_working_path, some_walked_path}
use Rattle.setup.specs.Setup.{Setup}
use Rattle.tree.specs.declared.Cause.{Cause}
use Rattle.tree.specs.declared.Cause.TheVariants.{Access, WrongKind, NotEmpty, Reserved, Full, NoGrant, Stale, Untagged, RevisionsSpent, TooDeep}
use Rattle.tree.specs.Result.{refused, done, present}
use Rattle.tree.proofs.ResultLaws.{refused_bind}
use Rattle.tree.specs.Outcomes.{gives, Ensures}
use Rattle.tree.proofs.GivesLaws.{any_outcome, never_done, weaker, then_step, then_check, then_guard, then_do}
use Rattle.tree.specs.Forest.{Place, place_at}
use Rattle.tree.specs.Node.{is_directory, Node, owns}
use Rattle.tree.specs.Walk.{by_modes, unused, walk, parent_walk}
use Rattle.tree.specs.WellFormed.{is_tree}
use Rattle.tree.proofs.JudgeLaws.{kind_by_modes, readable_by_modes, writable_by_modes}
use Rattle.tree.proofs.OtherPathLaws.{alter_keeps}
use Rattle.shell.proofs.ShutLaws.{never_walked, never_room, never_run}
use Rattle.shell.specs.Privacy.{Private, Unaltered, in_place, walks_first}
use Rattle.shell.proofs.ShellPrivacyLaws.{private_shut, private_foreign, private_outside, put_private, drop_private, room_private, run_shell_through, run_shell_private}
use Rattle.store.specs.State.{Store}
use Rattle.machine.specs.Machine.{run_login, run_logout, run_cd, session, run_add, run_co, working_file, original, commit_found, commit_file, run_commit, run_up, run_del, run_account, run_entry, run}
use Rattle.machine.proofs.DirectoryCommitLaws.{commit_keeps_all}
use Rattle.machine.specs.StoreMachine.{store}

module _ (u : Setup) (s : Store) (c : Caller) (p : Path) (d : Place Node) (there : place_at s.tree p ≡ some d) (v : Private c.account d) where
  -- ---- paths below it

  never_entry : (command : EntryAction) → some_working_path (lies_below p) command ≡ true → Ensures (λ _. ⊥) (run_entry store u s c command)
  unfolding some_working_path run_entry run_add run_co run_commit run_up
  never_entry (add w e role) b = then_do (session store u s c) λ _ _. never_walked c s.tree p d there (private_shut v X) _ w b
  never_entry (co e q) b =
      then_do (session store u s c) λ _ _.
      then_step (never_room c s.tree p d there (private_shut v X) 0 q b) λ _ z. absurd z
  never_entry (commit w) b = then_do (session store u s c) λ _ _. never_walked c s.tree p d there (private_shut v X) _ w b
  never_entry (up w) b = then_do (session store u s c) λ _ _. never_walked c s.tree p d there (private_shut v X) _ w b
  never_entry (del e) b = contra b refl

  never_account : (command : AccountAction) → some_account_path (lies_below p) command ≡ true → Ensures (λ _. ⊥) (run_account store u s c command)
  unfolding some_account_path run_account run_cd
  never_account (login z password) b = contra b refl
  never_account logout b = contra b refl
  never_account (cd q) b = never_walked c s.tree p d there (private_shut v X) _ q b

  -- a command with a path below it is refused
  pub run_refused : (command : Command) → some_walked_path (lies_below p) command ≡ true → (why : Cause) × (run store u s c command ≡ refused why)
  unfolding some_walked_path run
  run_refused (shell command) b = never_done (then_step (never_run c s.tree p d there (private_shut v X) 0 command b) λ _ z. absurd z)
  run_refused (account command) b = never_done (never_account command b)
  run_refused (entry command) b = never_done (never_entry command b)

  -- a shell command that walks first, for want of x
  pub run_through : is_tree s.tree ≡ true → (command : ShellAction) → walks_first command ≡ true → some_path (lies_below p) command ≡ true
      → run store u s c (shell command) ≡ refused Access
  unfolding run
  run_through whole command i b = rw (run_shell_through c 0 s.tree p d there v whole command i b, refused_bind)

  -- ---- what becomes of it

  module _ (small : ltb d.here.owner.0 16 ≡ true) where
    -- it is private for every service account too
    service_private : (z : BoundedRole) → Private (service u.pairs z) d
    service_private z = record {
      not_root = service_not_root u.pairs z;
      foreign = rw (service_own u.pairs z) (service_foreign z.role d.here.owner (ltb-true d.here.owner.0 16 small));
      mode = v.mode;
      directory = v.directory;
    }

    add_private : (w : Path) (e : EntryPath) (role : BoundedRole)
        → Ensures (λ o. place_at o.state.tree p ≡ some d) (run_add store u s c w e role)
    unfolding run_add below_rep in_rep parent last
    add_private w e role =
        then_do (session store u s c) λ z _.
        then_do (walk (by_modes c.account) s.tree w) λ f i.
        then_check Reserved tt _ λ o.
        then_check Access tt _ λ _.
        then_check Reserved tt _ λ _.
        then_do (parent_walk (by_modes (service u.pairs z)) s.tree (in_rep e.folder ▹ e.name)) λ g k.
        then_guard (any_outcome (unused e.name g.below)) λ n.
        then_check Access tt _ λ b.
        then_check Full tt _ λ _.
        gives (alter_keeps _ p d w _
        (put_private s.tree p d there (service_private z) (in_rep e.folder ▹ e.name) g k n (rw (writable_by_modes (service u.pairs z) g.here) at b) _)
        (private_outside s.tree p d there v (owns c.account) (private_foreign v) w f i o))

    co_private : (e : EntryPath) (q : Path) → Ensures (λ o. place_at o.state.tree p ≡ some d) (run_co store u s c e q)
    unfolding run_co
    co_private e q =
        then_do (session store u s c) λ z _.
        then_step (room_private c 0 s.tree p d there v q) λ f k.
        then_do (walk (by_modes (service u.pairs z)) s.tree (in_rep (below_rep e))) λ a _.
        then_check Access tt _ λ _.
        then_check TooDeep tt _ λ _.
        then_check Full tt _ λ _.
        gives (k _)

    -- a working file is outside the directory
    working_private : (right : Right) (w : Path) (f : Place Node) → walk (by_modes c.account) s.tree w ≡ done f
        → Ensures (λ k. within p w ≡ false) (working_file store u s c right f)
    unfolding working_file
    working_private right w f i =
        then_check WrongKind tt _ λ b.
        then_check Access tt _ λ _.
        then_do (present f.here.tag Untagged) λ _ _.
        gives (private_outside s.tree p d there v (λ n. not (is_directory n.kind)) (ap not v.directory) w f i b)

    -- and so is an entry's file
    original_private : (z : BoundedRole) (e : EntryPath) → Ensures (λ a. within p (in_rep (below_rep e)) ≡ false) (original store u s c z e)
    unfolding original
    original_private z e =
        then_do (walk (by_modes (service u.pairs z)) s.tree (in_rep (below_rep e))) λ f i.
        then_check WrongKind tt _ λ b.
        then_check Access tt _ λ _.
        gives (private_outside s.tree p d there (service_private z) (λ n. not (is_directory ((by_modes (service u.pairs z)).kind n)))
        (ap (λ k. not (is_directory k)) (kind_by_modes (service u.pairs z) d.here) ∙ ap not v.directory) (in_rep (below_rep e)) f i b)

    file_private : (w : Path) → Ensures (λ o. place_at o.state.tree p ≡ some d) (commit_file store u s c w)
    unfolding commit_file commit_found entry_location below_rep in_rep
    file_private w =
        then_do (session store u s c) λ z _.
        then_do (walk (by_modes c.account) s.tree w) λ f led.
        then_step (working_private R w f led) λ k o.
        then_step (original_private z k.tag.path) λ a i.
        then_do (walk (by_modes (service u.pairs z)) s.tree (in_rep k.tag.path.folder)) λ _ _.
        then_check Access tt _ λ _.
        then_check Stale tt _ λ _.
        then_check RevisionsSpent tt _ λ _.
        gives (alter_keeps _ p d w _ (alter_keeps s.tree p d (in_rep (below_rep k.tag.path)) _ there i) o)

    up_private : (w : Path) → Ensures (λ o. place_at o.state.tree p ≡ some d) (run_up store u s c w)
    unfolding run_up
    up_private w =
        then_do (session store u s c) λ z _.
        then_do (walk (by_modes c.account) s.tree w) λ f led.
        then_step (working_private W w f led) λ k o.
        then_do (original store u s c z k.tag.path) λ a _.
        gives (alter_keeps s.tree p d w _ there o)

    -- an account may not read the directory, so what it takes out is another
    del_private : (e : EntryPath) → Ensures (λ o. place_at o.state.tree p ≡ some d) (run_del store u s c e)
    unfolding run_del below_rep in_rep
    del_private e =
        then_do (session store u s c) λ z _.
        let a = service u.pairs z in
        let q = in_rep e.folder in
        then_do (walk (by_modes a) s.tree (q ▹ e.name)) λ x w.
        then_check Access tt _ λ r.
        then_do (walk (by_modes a) s.tree q) λ f i.
        then_check Access tt _ λ b.
        then_check NotEmpty tt _ λ n.
        let o = private_outside s.tree p d there (service_private z) (by_modes a).readable (readable_by_modes a d.here ∙ rw (private_shut (service_private z) R)) (q ▹ e.name) x w r in
        gives (drop_private s.tree p d there (service_private z) q e.name x f w i (rw (writable_by_modes a f.here) at b) n (outside_differs p (q ▹ e.name) o))

    account_private : (command : AccountAction) → Ensures (λ o. place_at o.state.tree p ≡ some d) (run_account store u s c command)
    unfolding run_account run_login run_logout run_cd
    account_private (login z password) = then_check NoGrant tt _ λ _. gives there
    account_private logout = gives there
    account_private (cd q) = then_do _ λ _ _. then_check WrongKind tt _ λ _. then_check Access tt _ λ _. gives there

module _ (u : Setup) (s : Store) (c : Caller) (p : Path) (d : Place Node) (there : place_at s.tree p ≡ some d) (v : Private c.account d)
    (small : ltb d.here.owner.0 16 ≡ true) where
  entry_private : (command : EntryAction) → Ensures (λ o. place_at o.state.tree p ≡ some d) (run_entry store u s c command)
  unfolding run_entry
  entry_private (add w e role) = add_private u s c p d there v small w e role
  entry_private (co e q) = co_private u s c p d there v small e q
  entry_private (commit w) = commit_keeps_all store u c (λ t. place_at t.tree p ≡ some d) (λ t h q. file_private u t c p d h v small q) s there w
  entry_private (up w) = up_private u s c p d there v small w
  entry_private (del e) = del_private u s c p d there v small e

  -- every command leaves the directory unaltered
  pub run_private : is_tree s.tree ≡ true → (command : Command)
      → Ensures (λ o. Unaltered c.account s.tree d p command o.state.tree) (run store u s c command)
  unfolding run
  run_private whole (shell command) =
      then_step (run_shell_private c 0 s.tree p d there v whole command) λ o k.
      gives k
  run_private whole (account command) = weaker (λ o. in_place) (account_private u s c p d there v small command)
  run_private whole (entry command) = weaker (λ o. in_place) (entry_private command)
