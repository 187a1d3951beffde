-- A junior's command does the same on the abstract machine and on that machine with role r's files redacted: the same refusal, or the
-- same text and states that are one once redacted. So do calls, and lists of them.
use Rattle.std.specs.Prelude.{◌≡◌, true, false, leb}
use Rattle.std.proofs.Math.Path.{refl, ap}
use Rattle.std.proofs.Common.{sym, ◌∙◌, ap₂}
use mathlib.Core.List.{List, [], ◌∷◌}
use Rattle.std.proofs.Math.Option.{Option, none, some}
use Rattle.std.proofs.Math.Bool.{not}
use Prim.Native.Nat.{ℕ, suc, ◌+◌}
use borrow.Author.Tests.{not-true}
use Rattle.std.proofs.Math.ListN.{get_or}
use Rattle.buffers.specs.Cases.{case, and_both}
use Rattle.buffers.specs.Text.{Text, every}
use Rattle.buffers.specs.TextLaws.{every_set, every_get_or}
use Rattle.accounts.specs.declared.Caller.{Caller}
use Rattle.accounts.specs.declared.Right.TheVariants.{R, W}
use Rattle.accounts.specs.Access.{is_root}
use Rattle.accounts.specs.Dominance.{BoundedRole}
use Rattle.syntax.specs.Number.{decimal_text}
use Rattle.syntax.specs.Path.{Path, EntryPath, below_rep}
use Rattle.commands.specs.Command.{AccountAction, login, logout, cd, EntryAction, add, co, commit, up, del, Command, TypedCommand, shell, account, entry, Line, line}
use Rattle.setup.specs.Setup.{Setup}
use Rattle.tree.specs.declared.Cause.TheVariants.{Access, WrongKind, NotEmpty, Reserved, Full, NoForm, NoSession, NoGrant, Stale, RevisionsSpent, ShortAnswer, TooDeep}
use Rattle.tree.specs.Result.{Result, done, present, Outcome}
use Rattle.tree.proofs.ResultLaws.{present_some, done_bind}
use Rattle.tree.specs.Outcomes.{gives, Ensures, Agree, refusal, both}
use Rattle.tree.proofs.GivesLaws.{done_with, then_step, then_do}
use Rattle.tree.proofs.AgreeLaws.{bind, each, check, guard}
use Rattle.tree.specs.Forest.{Place, leaf, size, map_place}
use Rattle.tree.proofs.ForestLaws.{size_map, empty_map}
use Rattle.tree.proofs.MapLaws.{map_here, map_below, unused_map}
use Rattle.tree.specs.Node.{is_directory, Node}
use Rattle.tree.specs.Walk.{by_modes, walk, room}
use Rattle.tree.specs.Files.{files_below}
use Rattle.tree.specs.WellFormed.{most_nodes, nodes}
use Rattle.shell.specs.Steps.{run_shell}
use Rattle.shell.specs.Replies.{reply, after}
use Rattle.shell.specs.WholePaths.{account_paths, command_paths, meant_path, whole_command}
use Rattle.store.specs.State.{Sessions, Registry, set_session, working_directory}
use Rattle.store.proofs.RegistryLaws.{session_is_set, directory_keeps_sessions}
use Rattle.store.specs.Callers.{caller}
use Rattle.machine.specs.Working.{Commits, then_commits, commit_each}
use Rattle.machine.specs.AbstractMachine.{Abstract, Filed, new_entry, with_registry, dominated, filed_readable, abstract_login, abstract_logout, abstract_cd, abstract_session, abstract_add, abstract_co, abstract_working, abstract_original, abstract_commit_found, abstract_commit_file, abstract_commit_directory, abstract_commit, abstract_up, abstract_del, abstract_account, abstract_entry, abstract_run, abstract_step, abstract_runs}
use Rattle.machine.specs.Runs.{Call}
use Rattle.secrecy.specs.Redacted.{is_senior, without_seniors, admits_senior, is_junior's, by_junior, by_juniors}
use Rattle.secrecy.proofs.RedactedLaws.{redacted_entry, redacted_filed, hidden, redacted_abstract, hidden_twice, redacted_twice, insert_alike, remove_alike, revise_alike, kind_kept, readable_kept, writable_kept, walk_kept, parent_walk_kept, open_filed, copy_kept}

module _ (u : Setup) (r : BoundedRole) where
  -- states that are one once redacted, the second without a session that dominates r
  record Alike (a b : Abstract) : Type 0 where
    same : redacted_abstract r a ≡ redacted_abstract r b
    junior : without_seniors u r b.registry.sessions ≡ true

  -- nor has the first one
  junior_first : {a b : Abstract} → Alike a b → without_seniors u r a.registry.sessions ≡ true
  unfolding redacted_abstract
  junior_first t = ap (λ s. without_seniors u r s.registry.sessions) t.same ∙ t.junior

  -- what is the same of a state and its redacted self is the same of such states
  same_of : {B : Type 0} (f : Abstract → B) → ((h : Abstract) → without_seniors u r h.registry.sessions ≡ true → f (redacted_abstract r h) ≡ f h)
      → {a b : Abstract} → Alike a b → f a ≡ f b
  same_of f k {a} {b} t = sym (k a (junior_first t)) ∙ ap f t.same ∙ k b t.junior

  -- outcomes with one text and such states
  record AlikeOutcomes (a b : Outcome Abstract) : Type 0 where
    text : a.text ≡ b.text
    state : Alike a.state b.state

  -- the role of a session then does not dominate r
  session_junior : (sessions : Sessions) (i : ℕ) (z : BoundedRole) → without_seniors u r sessions ≡ true
      → get_or sessions i none ≡ some z → dominated u z r ≡ false
  unfolding without_seniors is_senior
  session_junior sessions i z w e =
      not-true (dominated u z r) (ap (λ o. not (is_senior u r o)) (sym e) ∙ every_get_or (λ o. not (is_senior u r o)) sessions i none w refl)

  module _ (c : Caller) (h : Abstract) (w : without_seniors u r h.registry.sessions ≡ true) where
    abbrev h' : Abstract
    h' = redacted_abstract r h

    -- nor does the caller's role
    junior_of : (z : BoundedRole) → abstract_session u h c ≡ done z → dominated u z r ≡ false
    unfolding abstract_session
    junior_of z i =
        let mine = get_or h.registry.sessions c.account.uid.0 none in
        session_junior h.registry.sessions c.account.uid.0 z w (present_some mine NoSession i)

    -- done without a text
    changed : (a b : Abstract) → a.workspace ≡ b.workspace → hidden r a.entries ≡ hidden r b.entries → a.registry ≡ b.registry
        → without_seniors u r b.registry.sessions ≡ true → AlikeOutcomes (record { text = none; state = a }) (record { text = none; state = b })
    unfolding redacted_abstract
    changed a b p q s j = record { text = refl; state = record { same = λ i. record { workspace = p i; entries = q i; registry = s i }; junior = j } }

    -- as many more nodes fit
    fits_kept : (n : ℕ) → leb (nodes h.workspace + size (hidden r h.entries) + n) most_nodes ≡ leb (nodes h.workspace + size h.entries + n) most_nodes
    fits_kept n = rw (size_map (redacted_entry r) h.entries)

    -- a place is read alike
    reads : (z : BoundedRole) (b : Place Filed) → filed_readable u z (map_place (redacted_filed r) b).here ≡ filed_readable u z b.here
    reads z b = rw (map_here (redacted_filed r) b) (readable_kept r u z b.here)

    -- the entry of a tag, which the junior may read, is found as it is
    original_kept : (z : BoundedRole) → dominated u z r ≡ false → (e : EntryPath)
        → Agree (λ d b. d.here ≡ b.here) (abstract_original u h' c z e) (abstract_original u h c z e)
    unfolding abstract_original redacted_abstract
    original_kept z j e =
        bind (walk_kept r u z h.entries (below_rep e)) λ d b y.
        rw y (
        check WrongKind (rw (map_here (redacted_filed r) b) (ap (λ k. not (is_directory k)) (kind_kept r b.here))) λ _.
        check Access (reads z b) λ i.
        both (map_here (redacted_filed r) b ∙ open_filed r u z j b.here (sym (reads z b) ∙ i)))

    -- ---- the commands, line by line

    -- another registry without a senior's session
    registry_kept : (z : Registry) → without_seniors u r z.sessions ≡ true
        → AlikeOutcomes (record { text = none; state = with_registry z h' }) (record { text = none; state = with_registry z h })
    unfolding redacted_abstract
    registry_kept z j = changed (with_registry z h') (with_registry z h) refl (hidden_twice r h.entries) refl j

    session_kept : (o : Option BoundedRole) → is_senior u r o ≡ false → without_seniors u r (set_session c.account.uid o h.registry).sessions ≡ true
    unfolding without_seniors
    session_kept o j =
        rw (session_is_set h.registry c.account.uid o)
        (every_set (λ o. not (is_senior u r o)) h.registry.sessions c.account.uid.0 o w (rw j))

    login_kept : (z : BoundedRole) (password : Text) → dominated u z r ≡ false → Agree AlikeOutcomes (abstract_login u h' c z password) (abstract_login u h c z password)
    unfolding abstract_login redacted_abstract is_senior
    login_kept z password j = check NoGrant refl λ _. both (registry_kept _ (session_kept (some z) j))

    logout_kept : Agree AlikeOutcomes (abstract_logout u h' c) (abstract_logout u h c)
    unfolding abstract_logout redacted_abstract is_senior
    logout_kept = both (registry_kept _ (session_kept none refl))

    cd_kept : (p : Path) → Agree AlikeOutcomes (abstract_cd u h' c p) (abstract_cd u h c p)
    unfolding abstract_cd redacted_abstract
    cd_kept p =
        each (walk (by_modes c.account) h.workspace p) λ d _.
        check WrongKind refl λ _.
        check Access refl λ _.
        both (registry_kept _ (rw (directory_keeps_sessions h.registry c.account.uid p) w))

    add_kept : (p : Path) (e : EntryPath) (q : BoundedRole) → Agree AlikeOutcomes (abstract_add u h' c p e q) (abstract_add u h c p e q)
    unfolding abstract_add abstract_session redacted_abstract
    add_kept p e q =
        each (abstract_session u h c) λ z _.
        each (walk (by_modes c.account) h.workspace p) λ d _.
        check Reserved refl λ _.
        check Access refl λ _.
        check Reserved refl λ _.
        bind (parent_walk_kept r u z h.entries (below_rep e)) λ a b y.
        rw y (rw (map_here (redacted_filed r) b, map_below (redacted_filed r) b) (
        guard (unused_map (redacted_filed r) e.name b.below) λ _.
        check Access (writable_kept r u z b.here) λ _.
        check Full (fits_kept 1) λ _.
        both (changed _ _ refl (insert_alike r e.folder e.name (leaf (new_entry d.here.kind q d.here.content)) h.entries) refl w)))

    co_kept : (e : EntryPath) (p : Path) → Agree AlikeOutcomes (abstract_co u h' c e p) (abstract_co u h c e p)
    unfolding abstract_co abstract_session redacted_abstract
    co_kept e p =
        each (abstract_session u h c) λ z j.
        each (room (by_modes c.account) h.workspace p) λ f _.
        bind (walk_kept r u z h.entries (below_rep e)) λ a b y.
        rw y (
        check Access (reads z b) λ i.
        rw (copy_kept r u z (junior_of z j) c f.here e b (sym (reads z b) ∙ i)) (
        check TooDeep refl λ _.
        check Full (fits_kept _) λ _.
        both (changed _ _ refl (hidden_twice r h.entries) refl w)))

    -- a commit from the found place on
    found_kept : (z : BoundedRole) → dominated u z r ≡ false → (p : Path) (d : Place Node)
        → Agree AlikeOutcomes (abstract_commit_found u h' c z p d) (abstract_commit_found u h c z p d)
    unfolding abstract_commit_found abstract_working redacted_abstract
    found_kept z j p d =
        each (abstract_working u h c R d) λ k _.
        bind (original_kept z j k.tag.path) λ a b y.
        rw y (
        bind (walk_kept r u z h.entries k.tag.path.folder) λ m l v.
        rw v (rw (map_here (redacted_filed r) l) (
        check Access (writable_kept r u z l.here) λ _.
        check Stale refl λ _.
        check RevisionsSpent refl λ _.
        both (changed _ _ refl (revise_alike r k.tag.path.folder k.tag.path.name k.node.content h.entries) refl w))))

    file_kept : (p : Path) → Agree AlikeOutcomes (abstract_commit_file u h' c p) (abstract_commit_file u h c p)
    unfolding abstract_commit_file abstract_session redacted_abstract
    file_kept p =
        each (abstract_session u h c) λ z j.
        each (walk (by_modes c.account) h.workspace p) λ d _.
        found_kept z (junior_of z j) p d

    up_kept : (p : Path) → Agree AlikeOutcomes (abstract_up u h' c p) (abstract_up u h c p)
    unfolding abstract_up abstract_session abstract_working redacted_abstract
    up_kept p =
        each (abstract_session u h c) λ z j.
        each (walk (by_modes c.account) h.workspace p) λ d _.
        each (abstract_working u h c W d) λ k _.
        bind (original_kept z (junior_of z j) k.tag.path) λ a b y.
        rw y (
        both (changed _ _ refl (hidden_twice r h.entries) refl w))

    del_kept : (e : EntryPath) → Agree AlikeOutcomes (abstract_del u h' c e) (abstract_del u h c e)
    unfolding abstract_del abstract_session redacted_abstract
    del_kept e =
        each (abstract_session u h c) λ z _.
        bind (walk_kept r u z h.entries (below_rep e)) λ a b y.
        rw y (rw (map_here (redacted_filed r) b, map_below (redacted_filed r) b) (
        check Access (readable_kept r u z b.here) λ _.
        bind (walk_kept r u z h.entries e.folder) λ d l v.
        rw v (rw (map_here (redacted_filed r) l) (
        check Access (writable_kept r u z l.here) λ _.
        check NotEmpty (empty_map (redacted_filed r) b.below) λ _.
        both (changed _ _ refl (remove_alike r e.folder e.name h.entries) refl w)))))

    account_kept : (command : AccountAction) → admits_senior u r command ≡ false
        → Agree AlikeOutcomes (abstract_account u h' c command) (abstract_account u h c command)
    unfolding abstract_account admits_senior
    account_kept (login z password) j = login_kept z password j
    account_kept logout j = logout_kept
    account_kept (cd p) j = cd_kept p

  -- ---- commits one after another

  -- as many, and states that are one once redacted
  record AlikeCommits (a b : Commits Abstract) : Type 0 where
    count : a.count ≡ b.count
    state : Alike a.state b.state

  -- a commit, and others behind it, of a state and its redacted self
  then_kept : (f : Abstract → Commits Abstract)
      → ((h : Abstract) → without_seniors u r h.registry.sessions ≡ true → AlikeCommits (f (redacted_abstract r h)) (f h))
      → (h : Abstract) → without_seniors u r h.registry.sessions ≡ true → {a b : Result (Outcome Abstract)} → Agree AlikeOutcomes a b
      → AlikeCommits (then_commits (redacted_abstract r h) a f) (then_commits h b f)
  unfolding then_commits
  then_kept f k h w (refusal n) = k h w
  then_kept f k h w (both {y = y} q) = record {
    count = ap suc (same_of (λ s. (f s).count) (λ g v. (k g v).count) q.state);
    state = record { same = same_of (λ s. redacted_abstract r (f s).state) (λ g v. (k g v).state.same) q.state; junior = (k y.state q.state.junior).state.junior };
  }

  module _ (c : Caller) where
    -- the single commit of the abstract machine
    abbrev commits_file : Abstract → Path → Result (Outcome Abstract)
    commits_file h p = abstract_commit_file u h c p

    each_kept : (ps : List Path) (h : Abstract) → without_seniors u r h.registry.sessions ≡ true
        → AlikeCommits (commit_each commits_file ps (redacted_abstract r h)) (commit_each commits_file ps h)
    unfolding commit_each
    each_kept [] h w = record { count = refl; state = record { same = redacted_twice r h; junior = w } }
    each_kept (p ∷ ps) h w = then_kept (commit_each commits_file ps) (each_kept ps) h w (file_kept c h w p)

  module _ (c : Caller) (h : Abstract) (w : without_seniors u r h.registry.sessions ≡ true) where
    commit_kept : (p : Path) → Agree AlikeOutcomes (abstract_commit u (redacted_abstract r h) c p) (abstract_commit u h c p)
    unfolding abstract_commit abstract_commit_directory abstract_session redacted_abstract
    commit_kept p =
        each (abstract_session u h c) λ z j.
        each (walk (by_modes c.account) h.workspace p) λ d _.
        case (is_directory d.here.kind)
        (λ i. rw i (
        check Access refl λ _.
        let q = each_kept c (files_below (by_modes c.account) p d.below) h w in
        both (record { text = ap (λ n. some (decimal_text n)) q.count; state = q.state })))
        (λ i. rw i (found_kept c h w z (junior_of c h w z j) p d))

    entry_kept : (command : EntryAction) → Agree AlikeOutcomes (abstract_entry u (redacted_abstract r h) c command) (abstract_entry u h c command)
    unfolding abstract_entry
    entry_kept (add p e q) = add_kept c h w p e q
    entry_kept (co e p) = co_kept c h w e p
    entry_kept (commit p) = commit_kept p
    entry_kept (up p) = up_kept c h w p
    entry_kept (del e) = del_kept c h w e

    run_kept : (command : Command) → is_junior's u r command ≡ true → Agree AlikeOutcomes (abstract_run u (redacted_abstract r h) c command) (abstract_run u h c command)
    unfolding abstract_run is_junior's redacted_abstract
    run_kept (shell command) j = rw (size_map (redacted_entry r) h.entries) (
        each (run_shell c (size h.entries) h.workspace command) λ o _.
        both (record { text = refl; state = record { same = λ i. record { workspace = o.state; entries = hidden_twice r h.entries i; registry = h.registry }; junior = w } }))
    run_kept (account command) j = account_kept c h w command (not-true (admits_senior u r command) j)
    run_kept (entry command) j = entry_kept command

  -- ---- calls

  -- a line that a junior may give
  line_junior : (o : Option Line) (l : Line) → o ≡ some l → by_junior u r o ≡ true → is_junior's u r l.command ≡ true
  unfolding by_junior
  line_junior o l e j = (and_both (not (is_root l.caller)) (is_junior's u r l.command) (rw e at j)).1

  -- its command with whole paths is one too
  whole_junior : (q : Path) (command : TypedCommand) → Ensures (λ k. is_junior's u r k ≡ is_junior's u r command) (whole_command q command)
  unfolding whole_command command_paths account_paths is_junior's admits_senior
  whole_junior q (shell command) = then_do _ λ _ _. gives refl
  whole_junior q (account (login z password)) = rw done_bind (gives refl)
  whole_junior q (account logout) = rw done_bind (gives refl)
  whole_junior q (account (cd p)) = then_step (then_do {P = λ d. admits_senior u r d ≡ false} (meant_path q p) λ x _. gives refl) λ d j. gives (rw j)
  whole_junior q (entry command) = then_do _ λ _ _. gives refl

  step_kept : (call : Call) → by_junior u r (line call.line) ≡ true → (h : Abstract) → without_seniors u r h.registry.sessions ≡ true
      → Agree AlikeOutcomes (abstract_step u (redacted_abstract r h) call) (abstract_step u h call)
  unfolding abstract_step redacted_abstract
  step_kept call j h w =
      check ShortAnswer refl λ _.
      each (present (line call.line) NoForm) λ l i.
      each (caller u l.caller) λ c _.
      each (whole_command (working_directory l.caller h.registry) l.command) λ command e.
      run_kept c h w command (done_with (whole_junior _ l.command) e ∙ line_junior (line call.line) l (present_some (line call.line) NoForm i) j)

  reply_alike : {a b : Result (Outcome Abstract)} → Agree AlikeOutcomes a b → reply a ≡ reply b
  unfolding reply
  reply_alike (refusal n) = refl
  reply_alike (both t) = rw t.text

  after_alike : {a b : Result (Outcome Abstract)} {g h : Abstract} → Alike g h → Agree AlikeOutcomes a b → Alike (after g a) (after h b)
  unfolding after
  after_alike t (refusal n) = t
  after_alike t (both g) = g.state

  -- ---- lists of calls

  -- one call on a state and on its redacted self
  module _ (call : Call) (j : by_junior u r (line call.line) ≡ true) (h : Abstract) (w : without_seniors u r h.registry.sessions ≡ true) where
    abbrev outcome : Abstract → Result (Outcome Abstract)
    outcome s = abstract_step u s call

    reply_kept : reply (outcome (redacted_abstract r h)) ≡ reply (outcome h)
    reply_kept = reply_alike (step_kept call j h w)

    after_kept : Alike (after (redacted_abstract r h) (outcome (redacted_abstract r h))) (after h (outcome h))
    after_kept = after_alike (record { same = redacted_twice r h; junior = w }) (step_kept call j h w)

  -- on states that are one once redacted
  module _ (call : Call) (j : by_junior u r (line call.line) ≡ true) {g h : Abstract} (t : Alike g h) where
    reply_same : reply (abstract_step u g call) ≡ reply (abstract_step u h call)
    reply_same = same_of (λ s. reply (abstract_step u s call)) (reply_kept call j) t

    after_same : Alike (after g (abstract_step u g call)) (after h (abstract_step u h call))
    after_same = record {
      same = same_of (λ s. redacted_abstract r (after s (abstract_step u s call))) (λ h w. (after_kept call j h w).same) t;
      junior = (after_kept call j h t.junior).junior;
    }

  -- a list of calls is answered alike on states that are one once redacted, and leaves such states
  runs_same : (calls : List Call) → by_juniors u r calls ≡ true → (g h : Abstract) → Alike g h
      → ((abstract_runs u g calls).replies ≡ (abstract_runs u h calls).replies) × Alike (abstract_runs u g calls).state (abstract_runs u h calls).state
  unfolding abstract_runs by_juniors every
  runs_same [] j g h t = (refl, t)
  runs_same (call ∷ calls) j g h t =
      let k = and_both (by_junior u r (line call.line)) (by_juniors u r calls) j in
      let rest = runs_same calls k.1 (after g (abstract_step u g call)) (after h (abstract_step u h call)) (after_same call k.0 t) in
      (ap₂ ◌∷◌ (reply_same call k.0 t) rest.0, rest.1)

  pub runs_alike : (calls : List Call) → by_juniors u r calls ≡ true → (g h : Abstract) → redacted_abstract r g ≡ redacted_abstract r h
      → without_seniors u r h.registry.sessions ≡ true
      → ((abstract_runs u g calls).replies ≡ (abstract_runs u h calls).replies)
      × (redacted_abstract r (abstract_runs u g calls).state ≡ redacted_abstract r (abstract_runs u h calls).state)
  runs_alike calls j g h same w = let rest = runs_same calls j g h (record { same = same; junior = w }) in (rest.0, rest.1.same)
