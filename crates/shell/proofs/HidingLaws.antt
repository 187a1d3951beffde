-- What a caller who may do nothing at `/rep` meets of it through the shell: nothing. With one place at `/rep` or another that
-- has the same node, every shell command answers the same and leaves the same tree around it.
use Rattle.std.specs.Prelude.{◌≡◌, Bool, true, false, ◌&&◌, ◌||◌, ℕ, ◌+◌}
use Rattle.std.proofs.Math.Path.{refl, ap}
use Rattle.std.proofs.Common.{◌∙◌}
use Rattle.std.proofs.Math.Option.{Option, none, some}
use Rattle.std.proofs.Math.Bool.{not}
use Rattle.std.proofs.lemmas.Bool.{not-true}
use Rattle.buffers.specs.Cases.{case, contra, neither}
use Rattle.buffers.specs.Text.{Text}
use Rattle.accounts.specs.declared.Caller.{Caller}
use Rattle.accounts.specs.declared.Uid.{Uid}
use Rattle.accounts.specs.declared.Gid.{Gid}
use Rattle.accounts.specs.declared.Right.{Right}
use Rattle.accounts.specs.declared.Right.TheVariants.{R, W, X}
use Rattle.accounts.specs.Groups.{member}
use Rattle.accounts.specs.Access.{is_root, same_uid}
use Rattle.syntax.specs.Number.{set_gid}
use Rattle.syntax.specs.Path.{Path, parent, last, is_top, same_path, rep, reserved}
use Rattle.syntax.proofs.PathLaws.{not_reserved}
use Rattle.commands.specs.Command.{ShellAction, create, mkdir, read, write, rm, rmdir, mv, chmod, chgrp, chown}
use Rattle.tree.specs.declared.Kind.{Kind}
use Rattle.tree.specs.declared.Kind.TheVariants.{File, Directory}
use Rattle.tree.specs.declared.Cause.TheVariants.{Access, Exists, WrongKind, NotEmpty, Reserved, Full, IntoItself, TooDeep}
use Rattle.tree.specs.Result.{done, Outcome}
use Rattle.tree.specs.Outcomes.{Agree, both}
use Rattle.tree.proofs.AgreeLaws.{bind, check, guard}
use Rattle.tree.specs.Forest.{Place, get, is_empty, update}
use Rattle.tree.specs.Node.{is_directory, same_kind, Node, allows, owns}
use Rattle.tree.specs.Walk.{Judge, by_modes, walk, parent_walk, room}
use Rattle.tree.specs.WellFormed.{nodes}
use Rattle.tree.proofs.ResultLaws.{done_bind}
use Rattle.tree.proofs.StepLaws.{sought_is}
use Rattle.tree.proofs.JudgeLaws.{passes_by_modes, room_by_modes, owns_is}
use Rattle.tree.specs.Graft.{graft, Outside, Seen, Passed}
use Rattle.tree.proofs.GraftLaws.{update_outside, outside_here, outside_rep, seen_here, seen_alike, seen_names, seen_outside, unused_graft, walk_graft, parent_walk_graft, sought_graft, outside_child}
use Rattle.shell.specs.Steps.{text_of, fit, moved, run_create, run_read, run_write, run_rm, run_mv, run_chmod, run_chgrp, run_chown, run_shell}

-- a caller without rights at `/rep`, who neither writes in `/` nor owns one of the two
pub record KeptOut (c : Caller) (top rep_node : Node) : Type 0 where
  pub not_root : is_root c.account.uid ≡ false
  pub top_shut : allows c.account W top ≡ false
  pub top_foreign : owns c.account top ≡ false
  pub top_directory : is_directory top.kind ≡ true
  pub rep_shut : (t : Right) → allows c.account t rep_node ≡ false
  pub rep_foreign : owns c.account rep_node ≡ false
  pub rep_directory : is_directory rep_node.kind ≡ true

-- a tree t with the place f at `/rep`, and the same tree with e there
pub record Beside (e f : Place Node) (top : Node) (s t : Place Node) : Type 0 where
  pub same : s ≡ graft e t
  pub here : t.here ≡ top
  pub there : get rep t.below ≡ some f

pub record Alike (e f : Place Node) (top : Node) (a b : Outcome (Place Node)) : Type 0 where
  pub text : a.text ≡ b.text
  pub state : Beside e f top a.state b.state

-- ---- changes of both trees

-- the same change outside `/rep` on both leaves them so
pub update_beside : {e f : Place Node} {top : Node} {s t : Place Node} → Beside e f top s t
    → (p : Path) → Outside p → (g : Place Node → Place Node) → Beside e f top (update p g s) (update p g t)
update_beside {e} {t} b p o g = record {
  same = ap (update p g) b.same ∙ update_outside o g e t;
  here = outside_here o g t ∙ b.here;
  there = outside_rep o g t ∙ b.there;
}

-- done without text on both
changed_alike : {e f : Place Node} {top : Node} {s t : Place Node} → Beside e f top s t
    → Agree (Alike e f top) (done (record { text = none; state = s })) (done (record { text = none; state = t }))
changed_alike b = both (record { text = refl; state = b })

-- ---- tests

-- root, or the owner with a further test, is root or the owner
weaker : (a b d : Bool) → (a || (b && d)) ≡ true → (a || b) ≡ true
weaker true b d i = refl
weaker false true d i = refl
weaker false false d i = i

-- ---- what the caller meets in a tree with the place f at `/rep`, and in the same tree with e there

module _ (c : Caller) (e f : Place Node) (top : Node) (out : KeptOut c top f.here) (alike : e.here ≡ f.here)
    (t : Place Node) (here : t.here ≡ top) (there : get rep t.below ≡ some f) where
  start : Beside e f top (graft e t) t
  start = record { same = refl; here = here; there = there }

  shut : (r : Right) → allows c.account r e.here ≡ false
  shut r = ap (allows c.account r) alike ∙ out.rep_shut r

  not_passed : (by_modes c.account).passes e.here ≡ false
  not_passed = passes_by_modes c.account e.here ∙ shut X

  abbrev judge : Judge Node
  judge = by_modes c.account

  -- a walk sees both alike
  pub walk_alike : (p : Path) → Agree (Seen e f t p) (walk (by_modes c.account) (graft e t) p) (walk (by_modes c.account) t p)
  walk_alike = walk_graft e f t alike there (by_modes c.account) not_passed

  parent_walk_alike : (p : Path) → Agree (Passed judge e f t (parent p)) (parent_walk judge (graft e t) p) (parent_walk judge t p)
  parent_walk_alike = parent_walk_graft e f t alike there (by_modes c.account) not_passed

  -- a test that the nodes at `/` and `/rep` do not pass leads outside
  leads_outside : (T : Node → Bool) → T top ≡ false → T f.here ≡ false
      → {p : Path} {d d' : Place Node} → Seen e f t p d d' → T d.here ≡ true → Outside p
  leads_outside T a b = seen_outside T (ap T here ∙ a) (ap T alike ∙ b)

  -- where the caller may write is outside `/rep`
  writes_outside : {p : Path} {d d' : Place Node} → Seen e f t p d d' → allows c.account W d.here ≡ true → Outside p
  writes_outside = leads_outside (allows c.account W) out.top_shut (out.rep_shut W)

  -- what the caller owns is outside `/rep`
  pub owned_outside : {p : Path} {d d' : Place Node} → Seen e f t p d d' → owns c.account d.here ≡ true → Outside p
  owned_outside = leads_outside (owns c.account) out.top_foreign out.rep_foreign

  -- a file that the caller meets is outside `/rep`
  pub file_outside : {p : Path} {d d' : Place Node} → Seen e f t p d d' → not (is_directory d.here.kind) ≡ true → Outside p
  file_outside = leads_outside (λ n. not (is_directory n.kind)) (ap not out.top_directory) (ap not out.rep_directory)

  -- the same test on both
  test : (T : Node → Bool) → {p : Path} {d d' : Place Node} → Seen e f t p d d' → T d.here ≡ T d'.here
  test T s = ap T (seen_here alike s)

  text_alike : {p : Path} {d d' : Place Node} → Seen e f t p d d' → allows c.account R d.here ≡ true → text_of d ≡ text_of d'
  unfolding text_of
  text_alike s i = rw (seen_names (allows c.account R) (shut R) s i, seen_here alike s)

  module _ (m m' : ℕ) (count : nodes (graft e t) + m ≡ nodes t + m') where
    -- there is room for a new node in both or in neither, and it is outside `/rep`
    pub room_alike : (p : Path) → Agree (λ d d'. (d.here ≡ d'.here) × Outside (parent p)) (room (by_modes c.account) (graft e t) p) (room (by_modes c.account) t p)
    room_alike p = rw (room_by_modes c.account (graft e t) p, room_by_modes c.account t p) (
        check Exists refl λ _.
        bind (parent_walk_alike p) λ d d' s.
        guard (unused_graft there not_passed s (last p)) λ _.
        check Access (test (allows c.account W) s.seen) λ i.
        both (seen_here alike s.seen, writes_outside s.seen i))

    -- as many more nodes fit in both
    pub fit_alike : (k : ℕ) → fit c m (graft e t) k ≡ fit c m' t k
    unfolding fit
    fit_alike k = rw count

    create_alike : (kind : Kind) (p : Path) (mode : ℕ)
        → Agree (Alike e f top) (run_create c m (graft e t) kind p mode) (run_create c m' t kind p mode)
    unfolding run_create
    create_alike kind p mode =
        bind (room_alike p) λ d d' s.
        check Full (fit_alike 1) λ _.
        rw s.0 (changed_alike (update_beside start (parent p) s.1 _))

    read_alike : (p : Path) → Agree (Alike e f top) (run_read c m (graft e t) p) (run_read c m' t p)
    unfolding run_read
    read_alike p =
        bind (walk_alike p) λ d d' s.
        check Access (test (allows c.account R) s) λ i.
        both (record { text = ap some (text_alike s i); state = start })

    write_alike : (p : Path) (content : Text) → Agree (Alike e f top) (run_write c m (graft e t) p content) (run_write c m' t p content)
    unfolding run_write
    write_alike p content =
        bind (walk_alike p) λ d d' s.
        check WrongKind (test (λ n. not (is_directory n.kind)) s) λ i.
        check Access (test (allows c.account W) s) λ _.
        changed_alike (update_beside start p (file_outside s i) _)

    rm_alike : (kind : Kind) (p : Path) → Agree (Alike e f top) (run_rm c m (graft e t) kind p) (run_rm c m' t kind p)
    unfolding run_rm
    rm_alike kind p =
        check Reserved refl λ i.
        bind (walk_alike p) λ d d' s.
        check WrongKind (test (λ n. same_kind n.kind kind) s) λ _.
        bind (walk_alike (parent p)) λ a a' u.
        check Access (test (allows c.account W) u) λ w.
        check NotEmpty (ap (λ b. is_empty b.below) (seen_alike s (not-true (reserved p) i))) λ _.
        changed_alike (update_beside start (parent p) (writes_outside u w) _)

    -- and so does a move, whatever stands where it leads
    moved_alike : (a b : Path) (d : Place Node) (o : Option (Place Node)) → Outside (parent a) → Outside (parent b) → is_top b ≡ false
        → Beside e f top (moved (graft e t) a b d o) (moved t a b d o)
    unfolding moved
    moved_alike a b d none i k l = update_beside (update_beside start (parent a) i _) (parent b) k _
    moved_alike a b d (some g) i k l = case (same_path a b)
        (λ s. rw s start)
        (λ s. rw s (update_beside (update_beside start b (outside_child b l k) _) (parent a) i _))

    mv_alike : (a b : Path) → Agree (Alike e f top) (run_mv c m (graft e t) a b) (run_mv c m' t a b)
    unfolding run_mv
    mv_alike a b =
        check Reserved refl λ i.
        let r = neither (reserved a) (reserved b) i in
        bind (walk_alike a) λ d d' s.
        bind (parent_walk_alike b) λ k k' u.
        rw (seen_alike s r.0, sought_graft not_passed b r.1 u, sought_is (last b) k'.below, done_bind, done_bind) (
        guard refl λ _.
        bind (walk_alike (parent a)) λ l l' v.
        check Access (test (allows c.account W) v) λ w.
        check Access (test (allows c.account W) u.seen) λ x.
        check IntoItself refl λ _.
        check TooDeep refl λ _.
        changed_alike (moved_alike a b d' _ (writes_outside v w) (writes_outside u.seen x) (not_reserved b r.1)))

    chmod_alike : (p : Path) (mode : ℕ) → Agree (Alike e f top) (run_chmod c m (graft e t) p mode) (run_chmod c m' t p mode)
    unfolding run_chmod
    chmod_alike p mode =
        bind (walk_alike p) λ d d' s.
        check WrongKind (test (λ n. is_directory n.kind || not (set_gid mode)) s) λ _.
        check Reserved (test (owns c.account) s) λ i.
        changed_alike (update_beside start p (owned_outside s i) _)

    chgrp_alike : (p : Path) (group : Gid) → Agree (Alike e f top) (run_chgrp c m (graft e t) p group) (run_chgrp c m' t p group)
    unfolding run_chgrp
    chgrp_alike p group =
        bind (walk_alike p) λ d d' s.
        check Reserved (test (λ n. is_root c.account.uid || (same_uid c.account.uid n.owner && member group c.account.groups)) s) λ i.
        changed_alike (update_beside start p (owned_outside s (owns_is c.account d.here ∙ weaker (is_root c.account.uid) _ _ i)) _)

    chown_alike : (p : Path) (owner : Uid) → Agree (Alike e f top) (run_chown c m (graft e t) p owner) (run_chown c m' t p owner)
    unfolding run_chown
    chown_alike p owner =
        bind (walk_alike p) λ d d' s.
        check Reserved refl λ i. contra i out.not_root

    -- a shell command answers the same, and leaves the two trees so
    pub run_shell_alike : (command : ShellAction) → Agree (Alike e f top) (run_shell c m (graft e t) command) (run_shell c m' t command)
    unfolding run_shell
    run_shell_alike (create p mode) = create_alike File p mode
    run_shell_alike (mkdir p mode) = create_alike Directory p mode
    run_shell_alike (read p) = read_alike p
    run_shell_alike (write p content) = write_alike p content
    run_shell_alike (rm p) = rm_alike File p
    run_shell_alike (rmdir p) = rm_alike Directory p
    run_shell_alike (mv a b) = mv_alike a b
    run_shell_alike (chmod p mode) = chmod_alike p mode
    run_shell_alike (chgrp p group) = chgrp_alike p group
    run_shell_alike (chown p owner) = chown_alike p owner
