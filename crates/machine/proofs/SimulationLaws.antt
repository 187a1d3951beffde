-- One command of a person does the same in the store as in the abstract machine: the same refusal, or the same text and
-- states that still stand for one another.
use Rattle.std.specs.Prelude.{◌≡◌, Bool, true, false, ℕ, suc, ◌+◌}
use Rattle.std.proofs.Math.Path.{refl, sym, ap}
use Rattle.std.proofs.Common.{◌∙◌, arith}
use mathlib.Core.List.{List, [], ◌∷◌}
use Rattle.std.proofs.Math.Option.{some}
use Rattle.std.proofs.Math.Bool.{not}
use Rattle.buffers.specs.Cases.{case}
use Rattle.buffers.specs.Text.{Text}
use Rattle.accounts.specs.declared.Caller.{Caller}
use Rattle.accounts.specs.declared.Uid.{Uid}
use Rattle.accounts.specs.declared.Right.{Right}
use Rattle.accounts.specs.declared.Right.TheVariants.{R, W, X}
use Rattle.accounts.specs.Access.{is_root}
use Rattle.accounts.specs.Dominance.{BoundedRole}
use Rattle.accounts.specs.Service.{service}
use Rattle.syntax.specs.Number.{decimal_text}
use Rattle.syntax.specs.Path.{Path, ◌▹◌, EntryPath, parent, in_rep, below_rep}
use Rattle.commands.specs.Command.{ShellAction, AccountAction, login, logout, cd, EntryAction, add, co, commit, up, del, Command, shell, account, entry}
use Rattle.setup.specs.Setup.{Setup, is_setup}
use Rattle.tree.specs.declared.Cause.TheVariants.{Access, WrongKind, NotEmpty, Reserved, Full, NoGrant, Stale, Untagged, RevisionsSpent, TooDeep}
use Rattle.tree.specs.Result.{Result, done, present, Outcome}
use Rattle.tree.specs.Outcomes.{Agree, refusal, both}
use Rattle.tree.proofs.AgreeLaws.{done_second, bind, each, check, guard}
use Rattle.tree.specs.Forest.{Forest, Place, leaf, size, map_place, rooted}
use Rattle.tree.specs.Node.{is_directory, Node, allows, owns}
use Rattle.tree.specs.Walk.{by_modes, enter, walk, parent_walk, room}
use Rattle.tree.specs.WellFormed.{nodes}
use Rattle.tree.proofs.JudgeLaws.{directory_is_one, kind_by_modes, passes_by_modes, readable_by_modes}
use Rattle.tree.proofs.StepLaws.{enters}
use Rattle.tree.proofs.ForestLaws.{empty_map}
use Rattle.tree.proofs.RootedLaws.{rooted_here, rooted_size, rooted_map}
use Rattle.tree.proofs.PlaceLaws.{leaf_here, leaf_size}
use Rattle.tree.proofs.MapLaws.{map_here, map_below, unused_map, walk_map, parent_walk_map}
use Rattle.tree.specs.Files.{files_below}
use Rattle.tree.proofs.FilesLaws.{files_seen}
use Rattle.tree.specs.Graft.{graft, Outside, Seen}
use Rattle.tree.proofs.GraftLaws.{nodes_graft, walk_inside, parent_walk_inside, seen_here}
use Rattle.copying.specs.Copying.{Source, copy}
use Rattle.copying.proofs.CopyLaws.{copy_map}
use Rattle.shell.specs.Steps.{fit, run_shell}
use Rattle.shell.proofs.HidingLaws.{KeptOut, Alike, walk_alike, owned_outside, file_outside, room_alike, fit_alike, run_shell_alike}
use Rattle.store.specs.State.{Store}
use Rattle.store.specs.Initial.{directory_of, top_node, rep_node}
use Rattle.store.specs.Callers.{caller}
use Rattle.machine.specs.Working.{Commits, then_commits, commit_each}
use Rattle.machine.specs.Machine.{source, run_login, run_logout, run_cd, session, run_add, run_co, working_file, original, commit_found, commit_file, commit_directory, run_commit, run_up, run_del, run_account, run_entry, run}
use Rattle.machine.specs.StoreMachine.{store}
use Rattle.machine.specs.AbstractMachine.{Entry, Abstract, Filed, top, an_entry}
use Rattle.machine.specs.AbstractInstance.{abstract}
use Rattle.machine.specs.Embedding.{in_store, stored, met, embed}
use Rattle.machine.proofs.EntryJudgeLaws.{kind_law, passes_law, readable_law, writable_law, top_passed, revision_law, content_law}
use Rattle.machine.proofs.CallerLaws.{person_not_root, person_top, person_rep}
use Rattle.machine.specs.Simulation.{Kept, Tie, Tied}
use Rattle.machine.proofs.TieLaws.{workspace_tie, people_tie, file_tie, revise_tie, remove_tie, registry_tie, changed}

module _ (h : Abstract) (k : Kept h) where
  start : Tie (embed h) h
  start = record { same = refl; kept = k }

  -- the node of `/rep` is one
  pub rep_alike : (stored h.entries).here ≡ (leaf rep_node).here
  unfolding stored
  rep_alike = rooted_here in_store rep_node h.entries ∙ sym (leaf_here rep_node)

  -- both count as many nodes
  count : nodes (graft (stored h.entries) h.workspace) + 0 ≡ nodes h.workspace + size h.entries
  unfolding stored
  count = omega (arith, nodes_graft (stored h.entries) h.workspace k.there, leaf_size rep_node, rooted_size in_store rep_node h.entries)

-- what stands below `/rep` is what a walk from there meets
pub stored_is_met : (F : Forest Entry) → stored F ≡ map_place met (rooted an_entry top F)
unfolding stored met
stored_is_met F = sym (rooted_map met an_entry top F)

-- ---- the account of a session's role

module _ (u : Setup) (z : BoundedRole) where
  module _ (h : Abstract) (k : Kept h) where
    -- the account enters `/`
    top_entered : enter (store.judge u z) h.workspace.here ≡ done tt
    top_entered =
        let a = service u.pairs z in
        let t = top_passed u z in
        rw k.top (enters (store.judge u z) top_node (rw (kind_by_modes a top_node) t.0) (rw (passes_by_modes a top_node) t.1))

    -- it walks to the same entry in both
    pub account_walk : (p : Path)
        → Agree (λ d e. d ≡ map_place met e) (walk (store.judge u z) (embed h).tree (in_rep p)) (walk (abstract.judge u z) (abstract.entries h) p)
    unfolding embed
    account_walk p =
        rw (walk_inside (store.judge u z) (stored h.entries) h.workspace top_entered k.there p, stored_is_met h.entries)
        (walk_map met (abstract.judge u z) (store.judge u z) (kind_law u z) (passes_law u z) (abstract.entries h) p)

    account_parent_walk : (e : EntryPath) →
        Agree (λ d e. d ≡ map_place met e) (parent_walk (store.judge u z) (embed h).tree (in_rep (below_rep e))) (parent_walk (abstract.judge u z) (abstract.entries h) (below_rep e))
    unfolding embed below_rep in_rep
    account_parent_walk e =
        rw (parent_walk_inside (store.judge u z) (stored h.entries) h.workspace top_entered k.there e.folder e.name, stored_is_met h.entries)
        (parent_walk_map met (abstract.judge u z) (store.judge u z) (kind_law u z) (passes_law u z) (abstract.entries h) (e.folder ▹ e.name))

  -- ---- copies

  -- what the account copies of in the store, and apart
  abbrev in_tree : Source Node
  in_tree = source store (store.judge u z)

  abbrev apart : Source Filed
  apart = source abstract (abstract.judge u z)

  module _ (c : Caller) where
    -- what is copied from the store is what is copied apart
    copy_law : (parent : Node) (e : EntryPath) (d : Place Filed) → apart.readable d.here ≡ true
        → copy c in_tree parent e (map_place met d) ≡ copy c apart parent e d
    copy_law = copy_map c in_tree apart met (readable_law u z) (λ x _. kind_law u z x) (λ x _. revision_law x) (λ x _. content_law x)

-- ---- the commands

-- a person may do nothing at `/rep` and has neither it nor `/` to change
pub kept_out : (u : Setup) → is_setup u ≡ true → (v : Uid) (c : Caller) → is_root v ≡ false
    → caller u v ≡ done c → KeptOut c top_node (leaf rep_node).here
unfolding top_node rep_node directory_of
kept_out u s v c r h = rw (leaf_here rep_node) (record {
  not_root = person_not_root u v c r h;
  top_shut = (person_top u s v c r h).0;
  top_foreign = (person_top u s v c r h).1;
  top_directory = directory_is_one;
  rep_shut = (person_rep u s v c r h).0;
  rep_foreign = (person_rep u s v c r h).1;
  rep_directory = directory_is_one;
})

module _ (u : Setup) (c : Caller) (out : KeptOut c top_node (leaf rep_node).here) (h : Abstract) (k : Kept h) where
  -- what stands at a path of both, where `/rep` holds the entries in one of them and nothing in the other
  abbrev Meets : Path → Place Node → Place Node → Type 0
  Meets p = Seen (stored h.entries) (leaf rep_node) h.workspace p

  abbrev walks_in : Place Node → Path → Result (Place Node)
  walks_in t p = walk (by_modes c.account) t p

  -- the person walks to the same place in both
  person_walk : (p : Path) → Agree (Meets p) (walks_in (embed h).tree p) (walks_in h.workspace p)
  unfolding embed
  person_walk = walk_alike c (stored h.entries) (leaf rep_node) top_node out (rep_alike h k) h.workspace k.top k.there

  -- the same test on both
  test : (T : Node → Bool) {p : Path} {d d' : Place Node} → Meets p d d' → T d.here ≡ T d'.here
  test T s = ap T (seen_here (rep_alike h k) s)

  -- what the person owns is outside `/rep`, and so is a file that the person meets
  owned : {p : Path} {d d' : Place Node} → Meets p d d' → owns c.account d.here ≡ true → Outside p
  owned = owned_outside c (stored h.entries) (leaf rep_node) top_node out (rep_alike h k) h.workspace k.top k.there

  a_file : {p : Path} {d d' : Place Node} → Meets p d d' → not (is_directory d.here.kind) ≡ true → Outside p
  a_file = file_outside c (stored h.entries) (leaf rep_node) top_node out (rep_alike h k) h.workspace k.top k.there

  -- there is room for a new node in both
  room_agrees : (p : Path)
      → Agree (λ d d'. (d.here ≡ d'.here) × Outside (parent p)) (room (by_modes c.account) (embed h).tree p) (room (by_modes c.account) h.workspace p)
  unfolding embed
  room_agrees = room_alike c (stored h.entries) (leaf rep_node) top_node out (rep_alike h k) h.workspace k.top k.there 0 (size h.entries) (count h k)

  -- as many more nodes fit
  fits_agree : (n : ℕ) → fit c 0 (embed h).tree n ≡ fit c (size h.entries) h.workspace n
  unfolding embed
  fits_agree = fit_alike c (stored h.entries) (leaf rep_node) top_node out (rep_alike h k) h.workspace k.top k.there 0 (size h.entries) (count h k)

  -- a shell command
  shell_agrees : (command : ShellAction)
      → Agree (Alike (stored h.entries) (leaf rep_node) top_node)
      (run_shell c 0 (embed h).tree command)
      (run_shell c (size h.entries) h.workspace command)
  unfolding embed
  shell_agrees = run_shell_alike c (stored h.entries) (leaf rep_node) top_node out (rep_alike h k) h.workspace k.top k.there 0 (size h.entries) (count h k)

  -- the parts that commands share
  working_agrees : (right : Right) {p : Path} {d e : Place Node} → Meets p d e
      → Agree (λ a b. (a ≡ b) × Outside p) (working_file store u (embed h) c right d) (working_file abstract u h c right e)
  unfolding working_file
  working_agrees right {e = e} s =
      check WrongKind (test (λ n. not (is_directory n.kind)) s) λ i.
      check Access (test (allows c.account right) s) λ _.
      rw (seen_here (rep_alike h k) s) (
      each (present e.here.tag Untagged) λ t _.
      both (refl, a_file s i))

  original_agrees : (z : BoundedRole) (e : EntryPath)
      → Agree (λ d b. d ≡ map_place met b) (original store u (embed h) c z e) (original abstract u h c z e)
  unfolding original
  original_agrees z e =
      bind (account_walk u z h k (below_rep e)) λ d b y.
      check WrongKind (rw (y, map_here met b) (ap (λ i. not (is_directory i)) (kind_law u z b.here))) λ _.
      check Access (rw (y, map_here met b) (readable_law u z b.here)) λ _.
      both y

  -- command by command, line by line
  login_agrees : (z : BoundedRole) (password : Text) → Agree Tied (run_login store u (embed h) c z password) (run_login abstract u h c z password)
  unfolding run_login embed
  login_agrees z password = check NoGrant refl λ _. both (changed (registry_tie (start h k) _))

  logout_agrees : Agree Tied (run_logout store u (embed h) c) (run_logout abstract u h c)
  unfolding run_logout embed
  logout_agrees = both (changed (registry_tie (start h k) _))

  cd_agrees : (p : Path) → Agree Tied (run_cd store u (embed h) c p) (run_cd abstract u h c p)
  unfolding run_cd embed
  cd_agrees p =
      bind (person_walk p) λ d e s.
      check WrongKind (test (λ n. is_directory n.kind) s) λ _.
      check Access (test (allows c.account X) s) λ _.
      both (changed (registry_tie (start h k) _))

  add_agrees : (w : Path) (e : EntryPath) (role : BoundedRole) → Agree Tied (run_add store u (embed h) c w e role) (run_add abstract u h c w e role)
  unfolding run_add session embed
  add_agrees w e role =
      each (session abstract u h c) λ z _.
      bind (person_walk w) λ d f s.
      check Reserved (test (owns c.account) s) λ i.
      check Access (test (by_modes c.account).readable s) λ _.
      check Reserved refl λ _.
      bind (account_parent_walk u z h k e) λ a b y.
      rw y (rw (map_here met b, map_below met b) (
      guard (unused_map met e.name b.below) λ _.
      check Access (writable_law u z b.here) λ _.
      check Full (fits_agree 1) λ _.
      rw (seen_here (rep_alike h k) s) (
      both (changed (people_tie (file_tie (start h k) e f.here.kind role f.here.content) w (owned s i) _)))))

  co_agrees : (e : EntryPath) (p : Path) → Agree Tied (run_co store u (embed h) c e p) (run_co abstract u h c e p)
  unfolding run_co session embed
  co_agrees e p =
      each (session abstract u h c) λ z _.
      bind (room_agrees p) λ f g s.
      bind (account_walk u z h k (below_rep e)) λ a b y.
      rw y (
      check Access (rw (map_here met b) (readable_law u z b.here)) λ i.
      rw (s.0, copy_law u z c g.here e b (sym (readable_law u z b.here) ∙ (rw (map_here met b) at i))) (
      check TooDeep refl λ _.
      check Full (fits_agree _) λ _.
      both (changed (people_tie (start h k) (parent p) s.1 _))))

  found_agrees : (z : BoundedRole) (w : Path) {x y : Place Node} → Meets w x y
      → Agree Tied (commit_found store u (embed h) c z w x) (commit_found abstract u h c z w y)
  unfolding commit_found embed
  found_agrees z w m =
      bind (working_agrees R m) λ f g s.
      rw s.0 (
      bind (original_agrees z g.tag.path) λ a b y.
      rw y (rw (map_here met b, revision_law b.here) (
      bind (account_walk u z h k g.tag.path.folder) λ d l v.
      rw v (rw (map_here met l) (
      check Access (writable_law u z l.here) λ _.
      check Stale refl λ _.
      check RevisionsSpent refl λ _.
      both (changed (people_tie (revise_tie (start h k) g.tag.path g.node.content) w s.1 _)))))))

  pub file_agrees : (w : Path) → Agree Tied (commit_file store u (embed h) c w) (commit_file abstract u h c w)
  unfolding commit_file session embed
  file_agrees w =
      each (session abstract u h c) λ z _.
      bind (person_walk w) λ d e s.
      found_agrees z w s

  up_agrees : (w : Path) → Agree Tied (run_up store u (embed h) c w) (run_up abstract u h c w)
  unfolding run_up session embed
  up_agrees w =
      each (session abstract u h c) λ z _.
      bind (person_walk w) λ d e m.
      bind (working_agrees W m) λ f g s.
      rw s.0 (
      bind (original_agrees z g.tag.path) λ a b y.
      rw y (rw (map_here met b) (rw (revision_law b.here, content_law b.here) (
      both (changed (people_tie (start h k) w s.1 _))))))

  del_agrees : (e : EntryPath) → Agree Tied (run_del store u (embed h) c e) (run_del abstract u h c e)
  unfolding run_del session embed
  del_agrees e =
      each (session abstract u h c) λ z _.
      bind (account_walk u z h k (below_rep e)) λ a b y.
      rw y (rw (map_here met b, map_below met b) (
      check Access (readable_law u z b.here) λ _.
      bind (account_walk u z h k e.folder) λ d l v.
      rw v (rw (map_here met l) (
      check Access (writable_law u z l.here) λ _.
      check NotEmpty (empty_map met b.below) λ _.
      both (changed (remove_tie (start h k) e))))))

  account_agrees : (command : AccountAction) → Agree Tied (run_account store u (embed h) c command) (run_account abstract u h c command)
  unfolding run_account
  account_agrees (login z password) = login_agrees z password
  account_agrees logout = logout_agrees
  account_agrees (cd p) = cd_agrees p

  -- nor may the person read `/rep`, so a readable directory has the same files below it in both
  files_agree : {w : Path} {d e : Place Node} → Meets w d e → (by_modes c.account).readable e.here ≡ true
      → files_below (by_modes c.account) w d.below ≡ files_below (by_modes c.account) w e.below
  files_agree =
      files_seen (by_modes c.account) (stored h.entries) (leaf rep_node) h.workspace (rep_alike h k)
      (ap is_directory (kind_by_modes c.account (leaf rep_node).here) ∙ out.rep_directory)
      (readable_by_modes c.account (leaf rep_node).here ∙ rw (out.rep_shut R)) k.there

-- commits one after another in both
then_agree : {s : Store} {h : Abstract} {a : Result (Outcome Store)} {b : Result (Outcome Abstract)} (f : Store → Commits Store) (g : Abstract → Commits Abstract)
    → Tie s h → Agree Tied a b → ((s : Store) (h : Abstract) → Tie s h → ((f s).count ≡ (g h).count) × Tie (f s).state (g h).state)
    → ((then_commits s a f).count ≡ (then_commits h b g).count) × Tie (then_commits s a f).state (then_commits h b g).state
unfolding then_commits
then_agree f g t (refusal n) k = k _ _ t
then_agree f g t (both q) k = let r = k _ _ q.state in (ap suc r.0, r.1)

module _ (u : Setup) (c : Caller) (out : KeptOut c top_node (leaf rep_node).here) where
  -- the single commits of both
  abbrev stored_commit : Store → Path → Result (Outcome Store)
  stored_commit s w = commit_file store u s c w

  abbrev commit_apart : Abstract → Path → Result (Outcome Abstract)
  commit_apart h w = commit_file abstract u h c w

  each_agrees : (ws : List Path) (s : Store) (h : Abstract) → Tie s h
      → ((commit_each stored_commit ws s).count ≡ (commit_each commit_apart ws h).count) × Tie (commit_each stored_commit ws s).state (commit_each commit_apart ws h).state
  unfolding commit_each
  each_agrees [] s h t = (refl, t)
  each_agrees (w ∷ ws) s h t =
      then_agree (commit_each stored_commit ws) (commit_each commit_apart ws) t (rw t.same (file_agrees u c out h t.kept w)) (each_agrees ws)

  module _ (h : Abstract) (k : Kept h) where
    commit_agrees : (w : Path) → Agree Tied (run_commit store u (embed h) c w) (run_commit abstract u h c w)
    unfolding run_commit commit_directory session embed
    commit_agrees w =
        each (session abstract u h c) λ z _.
        bind (person_walk u c out h k w) λ d e s.
        let same = test u c out h k (λ n. is_directory n.kind) s in
        let alike = test u c out h k (by_modes c.account).readable s in
        case (is_directory e.here.kind)
        (λ i. rw (same, i) (
        check Access alike λ r.
        rw (files_agree u c out h k s (sym alike ∙ r)) (
        let q = each_agrees (files_below (by_modes c.account) w e.below) (embed h) h (start h k) in
        both (record { text = ap (λ n. some (decimal_text n)) q.0; state = q.1 }))))
        (λ i. rw (same, i) (found_agrees u c out h k z w s))

    entry_agrees : (command : EntryAction) → Agree Tied (run_entry store u (embed h) c command) (run_entry abstract u h c command)
    unfolding run_entry
    entry_agrees (add w e role) = add_agrees u c out h k w e role
    entry_agrees (co e p) = co_agrees u c out h k e p
    entry_agrees (commit w) = commit_agrees w
    entry_agrees (up w) = up_agrees u c out h k w
    entry_agrees (del e) = del_agrees u c out h k e

    run_kept_out : (command : Command) → Agree Tied (run store u (embed h) c command) (run abstract u h c command)
    unfolding run
    run_kept_out (shell command) = bind (shell_agrees u c out h k command) λ a b s. both (record { text = s.text; state = workspace_tie (start h k) s.state })
    run_kept_out (account command) = account_agrees u c out h k command
    run_kept_out (entry command) = entry_agrees command

-- one command of a person
pub run_agrees : (u : Setup) → is_setup u ≡ true → (v : Uid) (c : Caller) → is_root v ≡ false → caller u v ≡ done c
    → (h : Abstract) → Kept h → (command : Command) → Agree Tied (run store u (embed h) c command) (run abstract u h c command)
run_agrees u s v c r i h k command = run_kept_out u c (kept_out u s v c r i) h k command

-- what a person walks to
module _ (u : Setup) (s : is_setup u ≡ true) (v : Uid) (c : Caller) (r : is_root v ≡ false) (i : caller u v ≡ done c) (h : Abstract) (k : Kept h)
    (w : Path) (d : Place Node) (led : walk (by_modes c.account) h.workspace w ≡ done d) where
  out : KeptOut c top_node (leaf rep_node).here
  out = kept_out u s v c r i

  -- is outside `/rep` if it is a file
  pub file_is_outside : not (is_directory d.here.kind) ≡ true → Outside w
  file_is_outside b =
      let a = done_second (person_walk u c out h k w) led in
      a_file u c out h k a.2 (test u c out h k (λ n. not (is_directory n.kind)) a.2 ∙ b)

  -- or the person's own
  pub owned_is_outside : owns c.account d.here ≡ true → Outside w
  owned_is_outside b =
      let a = done_second (person_walk u c out h k w) led in
      owned u c out h k a.2 (test u c out h k (owns c.account) a.2 ∙ b)
