-- Every command and call of anyone, root too, keeps the store well-formed. So is every store reached from the initial one, and 18
-- never comes there.
use Rattle.std.specs.Prelude.{◌≡◌, List, [], ◌∷◌, true, false, eqb, leb, ltb}
use Rattle.std.proofs.Math.Path.{refl}
use Rattle.std.proofs.Common.{◌∙◌, ap, arith}
use Rattle.std.proofs.Math.Option.{Option, none, some}
use Prim.Native.Nat.{ℕ, suc, ◌+◌, ◌≤◌}
use borrow.Author.Tests.{not-true, eqb-false, leb-true, le-leb, ltb-true}
use Rattle.buffers.specs.Cases.{and_both}
use Rattle.buffers.specs.Text.{Text}
use Rattle.accounts.specs.declared.Caller.{Caller}
use Rattle.accounts.specs.declared.Uid.{Uid}
use Rattle.accounts.specs.declared.Right.{Right}
use Rattle.accounts.specs.declared.Right.TheVariants.{R, W}
use Rattle.accounts.specs.Caller.{is_caller}
use Rattle.accounts.proofs.CallerLaws.{caller_low}
use Rattle.accounts.specs.Dominance.{BoundedRole}
use Rattle.accounts.specs.Service.{service}
use Rattle.syntax.specs.Path.{Path, ◌▹◌, EntryPath, parent, depth, in_rep, entry_location, is_path, is_entry_path, most_names, below_rep}
use Rattle.syntax.proofs.PathLaws.{entry_parts}
use Rattle.commands.specs.Command.{line, AccountAction, login, logout, cd, EntryAction, add, co, commit, up, del, Command, shell, account, entry}
use Rattle.commands.specs.Command.{is_command_form, is_shell_command, is_account_form, is_account_command, is_entry_form, is_entry_command, is_command, is_typed_command, is_line}
use Rattle.commands.specs.CommandLaws.{line_is_line}
use Rattle.setup.specs.Setup.{Setup, is_setup}
use Rattle.setup.proofs.SetupLaws.{accepted_is_setup}
use Rattle.tree.specs.declared.Cause.TheVariants.{NoForm, Access, WrongKind, NotEmpty, Reserved, Full, NoGrant, Stale, Untagged, RevisionsSpent, TooDeep, ShortAnswer}
use Rattle.tree.specs.Result.{Result, done, Outcome}
use Rattle.tree.proofs.ResultLaws.{present_some}
use Rattle.tree.specs.Outcomes.{refuses, gives, Ensures}
use Rattle.tree.proofs.GivesLaws.{any_outcome, then_step, then_check, then_guard, then_do}
use Rattle.tree.specs.Forest.{Place, update, alter, leaf, size, height}
use Rattle.tree.specs.Node.{is_directory, Tag, Node, set_tag, set_content}
use Rattle.tree.specs.Walk.{Judge, by_modes, walk}
use Rattle.tree.specs.WellFormed.{last_revision, is_node, is_tree}
use Rattle.tree.proofs.JudgeLaws.{kind_by_modes}
use Rattle.tree.proofs.StepLaws.{was_unused, parent_walked}
use Rattle.tree.proofs.RoomLaws.{room_found}
use Rattle.tree.proofs.PlaceLaws.{leaf_size}
use Rattle.tree.proofs.UpdateLaws.{leaf_height}
use Rattle.tree.proofs.NodeLaws.{last_revision_is, node_ranges, node_of_revision, node_of_tag, node_of_content, kind_of_set_revision, kind_of_set_tag, kind_of_set_content}
use Rattle.tree.proofs.WellFormedLaws.{place_node, leaf_place, entered_directory, walked_place, walked_depth}
use Rattle.tree.proofs.ChangeLaws.{keep_alter, keep_alter_all, keep_put, keep_drop}
use Rattle.copying.specs.Copying.{copy}
use Rattle.copying.proofs.CopyLaws.{copy_is_place}
use Rattle.shell.proofs.ShellKeepingLaws.{fit_most, room_keeps, run_shell_keeps}
use Rattle.shell.specs.Replies.{after}
use Rattle.shell.proofs.WholePathsLaws.{whole_in_range}
use Rattle.store.specs.State.{Registry, set_session, is_registry, Store, state_of, well_formed}
use Rattle.store.proofs.StateLaws.{parts, formed}
use Rattle.store.proofs.RegistryLaws.{working_directory_is_path, set_session_keeps, set_directory_keeps}
use Rattle.store.specs.Initial.{initial_store}
use Rattle.store.proofs.InitialLaws.{initial_well_formed}
use Rattle.store.specs.StoreBytes.{encode, decode}
use Rattle.store.proofs.StoreBytesLaws.{decode_encode}
use Rattle.store.specs.Callers.{caller}
use Rattle.machine.specs.Working.{Working}
use Rattle.machine.specs.Machine.{source, run_login, run_logout, run_cd, run_add, run_co, working_file, original, commit_found, commit_file, run_up, run_del, run_account, run_entry, run}
use Rattle.machine.proofs.DirectoryCommitLaws.{commit_keeps_all}
use Rattle.machine.specs.StoreMachine.{entry_node, next_node, store}
use Rattle.machine.specs.Runs.{Call, perform, step, runs}
use Rattle.machine.specs.Observed.{Reached}
use Rattle.machine.proofs.CallerLaws.{caller_in_range}
use Rattle.machine.proofs.EntryRangeLaws.{entry_fits}

-- ---- commands

module _ (u : Setup) (g : is_setup u ≡ true) (s : Store) (w : well_formed (state_of u s) ≡ true) (c : Caller) where
  abbrev Keeps : Result (Outcome Store) → Type 0
  Keeps r = Ensures (λ o. well_formed (state_of u o.state) ≡ true) r

  tree : is_tree s.tree ≡ true
  tree = (parts (state_of u s) w).tree

  registered : is_registry s.registry ≡ true
  registered = (parts (state_of u s) w).registry

  -- done with another well-formed tree
  changed : (x : Option Text) (t : Place Node) → is_tree t ≡ true
      → Keeps (done (record { text = x; state = record { tree = t; registry = s.registry } }))
  changed x t h = gives (formed u g (record { tree = t; registry = s.registry }) registered h)

  -- done with another well-formed registry
  registry_set : (r : Registry) → is_registry r ≡ true → Keeps (done (record { text = none; state = record { tree = s.tree; registry = r } }))
  registry_set r h = gives (formed u g (record { tree = s.tree; registry = r }) h tree)

  session_set : (z : Option BoundedRole)
      → Keeps (done (record { text = none; state = record { tree = s.tree; registry = set_session c.account.uid z s.registry } }))
  session_set z = registry_set _ (set_session_keeps s.registry c.account.uid z registered)

  login_keeps : (z : BoundedRole) (password : Text) → Keeps (run_login store u s c z password)
  unfolding run_login
  login_keeps z password = then_check NoGrant tt _ λ _. session_set (some z)

  logout_keeps : Keeps (run_logout store u s c)
  unfolding run_logout
  logout_keeps = session_set none

  cd_keeps : (p : Path) → is_path p ≡ true → Keeps (run_cd store u s c p)
  unfolding run_cd
  cd_keeps p k =
      then_do _ λ d _.
      then_check WrongKind tt _ λ _.
      then_check Access tt _ λ _.
      registry_set _ (set_directory_keeps s.registry c.account.uid p registered k)

  -- the node where a walk leads is in range
  node_at : (j : Judge Node) (p : Path) (d : Place Node) → walk j s.tree p ≡ done d → is_node d.here ≡ true
  node_at j p d e = place_node d (walked_place j s.tree p d tree e)

  -- a tag in range put on whatever node lies at a path
  tagged : (t : Place Node) → is_tree t ≡ true → (p : Path) (e : EntryPath) (v : ℕ) → is_entry_path e ≡ true → v ≤ 9999
      → is_tree (update p (alter (set_tag (record { path = e; revision = v }))) t) ≡ true
  tagged t h p e v k l =
      let tag : Tag = record { path = e; revision = v } in
      let i : leb v last_revision ≡ true = rw last_revision_is (le-leb v 9999 l) in
      keep_alter_all t p (set_tag tag) h (λ x n. (node_of_tag tag x n k i, kind_of_set_tag tag x))

  add_keeps : (p : Path) (e : EntryPath) (role : BoundedRole) → is_entry_path e ≡ true → Keeps (run_add store u s c p e role)
  unfolding run_add below_rep in_rep parent
  add_keeps p e role k =
      then_do _ λ z _.
      then_do _ λ d i.
      then_check Reserved tt _ λ _.
      then_check Access tt _ λ _.
      then_check Reserved tt _ λ _.
      then_do _ λ f l.
      then_guard (any_outcome _) λ free.
      then_check Access tt _ λ _.
      then_check Full tt _ λ fits.
      let j = by_modes (service u.pairs z) in
      let to = parent_walked j s.tree (in_rep e.folder ▹ e.name) l in
      let r = node_ranges d.here (node_at (by_modes c.account) p d i) in
      let names = entry_parts e k in
      let x = entry_node d.here.kind role 1 d.here.content in
      changed none _ (tagged _ (keep_put j s.tree (in_rep e.folder) f e.name (leaf x) tree to.0
      (entered_directory (service u.pairs z) f.here to.1) (was_unused e.name f.below free) names.0
      (leaf_place x (entry_fits d.here.kind role d.here.content r.content r.bare))
      (omega (arith, names.1, leaf_height x)) (omega (arith, leaf_size x, fit_most c 0 s.tree 1 fits))) p e 1 k (omega arith))

  co_keeps : is_caller c ≡ true → (e : EntryPath) (p : Path) → is_entry_path e ≡ true → is_path p ≡ true → Keeps (run_co store u s c e p)
  unfolding run_co most_names below_rep in_rep entry_location
  co_keeps o e p k i =
      then_do _ λ z _.
      then_do _ λ f r.
      then_do _ λ d a.
      then_check Access tt _ λ _.
      then_check TooDeep tt _ λ l.
      then_check Full tt _ λ fits.
      let j = by_modes (service u.pairs z) in
      let x = copy c (source store j) f.here e d in
      changed none _ (room_keeps c 0 s.tree p f x tree i r
      (copy_is_place c o (service u.pairs z) f.here e d (node_at (by_modes c.account) (parent p) f (room_found c.account s.tree p r).led)
      k (walked_place j s.tree (entry_location e) d tree a) (walked_depth j s.tree (entry_location e) d tree a))
      (leb-true (depth p + height x.below) 6 l) (fit_most c 0 s.tree (suc (size x.below)) fits))

  del_keeps : (e : EntryPath) → Keeps (run_del store u s c e)
  unfolding run_del
  del_keeps e =
      then_do _ λ z _.
      then_do _ λ d _.
      then_check Access tt _ λ _.
      then_do _ λ f _.
      then_check Access tt _ λ _.
      then_check NotEmpty tt _ λ _.
      changed none _ (keep_drop s.tree (in_rep e.folder) e.name tree)

  -- a working file is where the walk leads, with its tag
  abbrev Worked : Path → Working → Type 0
  Worked p k = (d : Place Node) × (walk (by_modes c.account) s.tree p ≡ done d) × (k.node ≡ d.here) × (is_directory d.here.kind ≡ false) × (d.here.tag ≡ some k.tag)

  worked : (right : Right) (p : Path) (d : Place Node) → walk (by_modes c.account) s.tree p ≡ done d → Ensures (Worked p) (working_file store u s c right d)
  unfolding working_file
  worked right p d e =
      then_check WrongKind tt _ λ b.
      then_check Access tt _ λ _.
      then_do _ λ t i.
      gives (d, e, refl, not-true (is_directory d.here.kind) b, present_some d.here.tag Untagged i)

  -- its original is a file where the account's walk leads
  abbrev Filed : BoundedRole → EntryPath → Place Node → Type 0
  Filed z e d = (walk (by_modes (service u.pairs z)) s.tree (in_rep (below_rep e)) ≡ done d) × (is_directory d.here.kind ≡ false)

  filed : (z : BoundedRole) (e : EntryPath) → Ensures (Filed z e) (original store u s c z e)
  unfolding original
  filed z e =
      then_do _ λ d i.
      then_check WrongKind tt _ λ b.
      then_check Access tt _ λ _.
      gives (i, not-true (is_directory d.here.kind) (rw (kind_by_modes (service u.pairs z) d.here) at b))

  up_keeps : (p : Path) → Keeps (run_up store u s c p)
  unfolding run_up
  up_keeps p =
      then_do _ λ z _.
      then_do _ λ x led.
      then_step (worked W p x led) λ k h.
      then_step (filed z k.tag.path) λ a i.
      let j = by_modes (service u.pairs z) in
      let d = h.0 in
      let n = node_at (by_modes c.account) p d h.1 in
      let r = node_ranges a.here (node_at j (in_rep (below_rep k.tag.path)) a i.0) in
      let tag : Tag = record { path = k.tag.path; revision = a.here.revision } in
      let content = a.here.content in
      let x = set_tag tag d.here in
      changed none _ (keep_alter (by_modes c.account) s.tree p d (λ y. set_content content (set_tag tag y)) tree h.1
      (node_of_content content x (node_of_tag tag d.here n ((node_ranges d.here n).tag k.tag h.4).0 r.revision)
      (ap is_directory (kind_of_set_tag tag d.here) ∙ h.3) r.content)
      (kind_of_set_content content x ∙ kind_of_set_tag tag d.here))

  -- a single commit, of any caller
  pub file_keeps : (p : Path) → Keeps (commit_file store u s c p)
  unfolding commit_file commit_found entry_location below_rep in_rep next_node
  file_keeps p =
      then_do _ λ z _.
      then_do _ λ x led.
      then_step (worked R p x led) λ k h.
      then_step (filed z k.tag.path) λ a i.
      then_do _ λ f _.
      then_check Access tt _ λ _.
      then_check Stale tt _ λ _.
      then_check RevisionsSpent tt _ λ b.
      let j = by_modes (service u.pairs z) in
      let d = h.0 in
      let r = node_ranges d.here (node_at (by_modes c.account) p d h.1) in
      let e = k.tag.path in
      let n = node_at j (in_rep (below_rep e)) a i.0 in
      let content = k.node.content in
      let v = a.here.revision in
      let x = set_content content a.here in
      let l : suc v ≤ 9999 = omega (arith, leb-true v 9999 (rw last_revision_is at (node_ranges a.here n).revision), eqb-false v 9999 (not-true (eqb v 9999) (rw last_revision_is at b))) in
      changed none _ (tagged _ (keep_alter j s.tree (entry_location e) a (next_node content) tree i.0
      (node_of_revision (suc v) x (node_of_content content a.here n i.1 (rw h.2 r.content)) (rw last_revision_is (le-leb (suc v) 9999 l)))
      (kind_of_set_revision (suc v) x ∙ kind_of_set_content content a.here)) p e (suc v) (r.tag k.tag h.4).0 l)

  account_keeps : (command : AccountAction) → is_account_command command ≡ true → Keeps (run_account store u s c command)
  unfolding run_account is_account_command is_account_form
  account_keeps (login z password) k = login_keeps z password
  account_keeps logout k = logout_keeps
  account_keeps (cd p) k = cd_keeps p k

module _ (u : Setup) (g : is_setup u ≡ true) (s : Store) (w : well_formed (state_of u s) ≡ true) (c : Caller) (o : is_caller c ≡ true) where
  entry_keeps : (command : EntryAction) → is_entry_command command ≡ true → Keeps u g s w c (run_entry store u s c command)
  unfolding run_entry is_entry_command is_entry_form
  entry_keeps (add p e role) k = add_keeps u g s w c p e role (and_both (is_path p) (is_entry_path e) k).1
  entry_keeps (co e p) k = let i = and_both (is_entry_path e) (is_path p) k in co_keeps u g s w c o e p i.0 i.1
  entry_keeps (commit p) k = commit_keeps_all store u c (λ t. well_formed (state_of u t) ≡ true) (λ t h q. file_keeps u g t h c q) s w p
  entry_keeps (up p) k = up_keeps u g s w c p
  entry_keeps (del e) k = del_keeps u g s w c e

  -- a command of a caller in range keeps the store well-formed
  run_keeps : (command : Command) → is_command command ≡ true → Ensures (λ o. well_formed (state_of u o.state) ≡ true) (run store u s c command)
  unfolding run is_command is_command_form is_shell_command is_account_command is_entry_command
  run_keeps (shell command) k =
      then_step (run_shell_keeps c 0 s.tree o (tree u g s w c) command k) λ x h. changed u g s w c x.text x.state h
  run_keeps (account command) k = account_keeps u g s w c command k
  run_keeps (entry command) k = entry_keeps command k

-- ---- calls

-- who calls is in range
caller_fits : (u : Setup) → is_setup u ≡ true → (v : Uid) (c : Caller) → caller u v ≡ done c → is_caller c ≡ true
caller_fits u g v c h =
    let i = caller_in_range u g v c h in
    caller_low c (omega (arith, ltb-true c.account.uid.0 16 i.0)) (omega (arith, ltb-true c.primary.0 16 i.1))

-- what holds before a call and is gives of it holds after it
after_keeps : (P : Store → Type 0) {r : Result (Outcome Store)} (s : Store) → P s → Ensures (λ o. P o.state) r → P (after s r)
unfolding after
after_keeps P s h (refuses r) = h
after_keeps P s h (gives k) = k

-- a line of any bytes keeps the store well-formed
pub perform_keeps : (u : Setup) → is_setup u ≡ true → (s : Store) → well_formed (state_of u s) ≡ true → (t : Text)
    → Ensures (λ o. well_formed (state_of u o.state) ≡ true) (perform store u s t)
unfolding perform is_line
perform_keeps u g s w t =
    then_do _ λ l e.
    then_do _ λ c f.
    then_do _ λ command h.
    let i = and_both (ltb l.caller.0 24) (is_typed_command l.command) (line_is_line t l (present_some (line t) NoForm e)) in
    let q = working_directory_is_path s.registry l.caller (parts (state_of u s) w).registry in
    run_keeps u g s w c (caller_fits u g l.caller c f) command (whole_in_range _ l.command h q i.1)

-- so does a call
pub step_keeps : (u : Setup) → is_setup u ≡ true → (s : Store) → well_formed (state_of u s) ≡ true → (call : Call)
    → well_formed (state_of u (after s (step store u s call))) ≡ true
unfolding step
step_keeps u g s w call = after_keeps (λ t. well_formed (state_of u t) ≡ true) s w (then_check ShortAnswer tt _ λ _. perform_keeps u g s w call.line)

-- and a list of calls
pub runs_keep : (u : Setup) → is_setup u ≡ true → (s : Store) → well_formed (state_of u s) ≡ true → (calls : List Call)
    → well_formed (state_of u (runs store u s calls).state) ≡ true
unfolding runs
runs_keep u g s w [] = w
runs_keep u g s w (call ∷ calls) = runs_keep u g (after s (step store u s call)) (step_keeps u g s w call) calls

-- a store reached from the initial one is well-formed
pub reached_well_formed : (u : Setup) (s : Store) → Reached u s → well_formed (state_of u s) ≡ true
reached_well_formed u s r =
    let g = accepted_is_setup r.text u r.taken in
    rw r.state (runs_keep u g (initial_store u) (initial_well_formed u g) r.calls)

-- and read back from its bytes
pub reached_decodes : (u : Setup) (s : Store) → Reached u s → decode (encode (state_of u s)) ≡ some (state_of u s)
reached_decodes u s r = decode_encode (state_of u s) (reached_well_formed u s r)
