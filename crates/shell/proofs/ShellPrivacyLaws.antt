-- A directory of mode 0700 is its owner's and root's alone: every shell command of anybody else that walks below it is refused, and
-- every other one leaves it unaltered.
use Rattle.std.specs.Prelude.{◌≡◌, Bool, true, false, ◌&&◌, ◌||◌, not, ◌⊎◌, ℕ}
use Rattle.std.proofs.Math.Path.{refl, sym}
use Rattle.std.proofs.Common.{◌∙◌, ap}
use Rattle.std.proofs.Math.Option.{Option, none, some}
use Rattle.std.proofs.Math.Logic.{inl, inr, ⊎_elim}
use Rattle.buffers.specs.Cases.{case, contra}
use Rattle.buffers.specs.Text.{Text}
use Rattle.accounts.specs.declared.Caller.{Caller}
use Rattle.accounts.specs.declared.Uid.{Uid}
use Rattle.accounts.specs.declared.Gid.{Gid}
use Rattle.accounts.specs.declared.Right.{Right}
use Rattle.accounts.specs.declared.Right.TheVariants.{W, X}
use Rattle.accounts.specs.Groups.{member}
use Rattle.accounts.specs.declared.Account.{Account}
use Rattle.accounts.specs.Access.{is_root, same_uid}
use Rattle.accounts.proofs.AccessLaws.{may_group, may_other, grants_none}
use Rattle.syntax.specs.Number.{octal}
use Rattle.syntax.specs.Path.{Name, Path, root, ◌▹◌, parent, last, is_top, same_path, within, lies_below, reserved}
use Rattle.syntax.proofs.WithinLaws.{same_path_sound, outside_differs, apart_below, top_not_below}
use Rattle.syntax.proofs.FormLaws.{answered}
use Rattle.commands.specs.Command.{ShellAction, create, mkdir, read, write, rm, rmdir, mv, chmod, chgrp, chown, shell, some_path}
use Rattle.tree.specs.declared.Kind.{Kind}
use Rattle.tree.specs.declared.Kind.TheVariants.{File, Directory}
use Rattle.tree.specs.declared.Cause.TheVariants.{Access, Exists, WrongKind, NotEmpty, Reserved, Full}
use Rattle.tree.specs.Result.{Result, refused, done, ◌>>=◌}
use Rattle.tree.specs.Outcomes.{gives, Ensures}
use Rattle.tree.proofs.GivesLaws.{any_outcome, weaker, then_step, then_check, then_guard, then_do}
use Rattle.tree.specs.Forest.{Place, get, is_empty, update, place_at, alter, put, drop}
use Rattle.tree.specs.Node.{is_directory, same_kind, Node, allows, set_mode, set_group, set_content, owns}
use Rattle.tree.specs.Walk.{by_modes, unused, walk, parent_walk, room}
use Rattle.tree.specs.WellFormed.{is_tree}
use Rattle.tree.proofs.WellFormedLaws.{place_parts, walked_place}
use Rattle.tree.proofs.ResultLaws.{done_then, refused_bind, require_true}
use Rattle.tree.proofs.JudgeLaws.{directory_not_file, allows_is, kind_by_modes, passes_by_modes, room_by_modes, owns_is}
use Rattle.tree.proofs.StepLaws.{was_unused, walks_on, parent_walked}
use Rattle.tree.proofs.UpdateLaws.{place_at_child, walked_at}
use Rattle.tree.proofs.OtherPathLaws.{alter_keeps, put_keeps, drop_empty_keeps, drop_gone, move_keeps, move_carries, walk_outside, walk_shut, parent_walk_shut}
use Rattle.shell.proofs.ReplacingLaws.{both_files, no_same}
use Rattle.shell.proofs.PassedMoveLaws.{mv_passed}
use Rattle.shell.specs.Steps.{may_replace, moved, run_create, run_read, run_write, run_rm, run_mv, run_chmod, run_chgrp, run_chown, run_shell}
use Rattle.shell.specs.Privacy.{Private, Writes, Unaltered, in_place, moved_along, taken_out, walks_first}

-- the account has no right there
pub private_shut : {a : Account} {d : Place Node} → Private a d → (t : Right) → allows a t d.here ≡ false
private_shut {a} {d} v t = rw (allows_is a d.here t, v.mode) (case (member d.here.group a.groups)
    (λ i. may_group a t d.here.owner d.here.group (octal 0 7 0 0) v.not_root v.foreign i ∙ grants_none t)
    (λ i. may_other a t d.here.owner d.here.group (octal 0 7 0 0) v.not_root v.foreign i ∙ grants_none t))

-- nor is the directory the account's
pub private_foreign : {a : Account} {d : Place Node} → Private a d → owns a d.here ≡ false
private_foreign {a} {d} v = rw (owns_is a d.here, v.not_root, v.foreign)

not_passed : {a : Account} {d : Place Node} → Private a d → (by_modes a).passes d.here ≡ false
not_passed {a} {d} v = passes_by_modes a d.here ∙ private_shut v X

-- ---- changes where the account may write or owns

module _ {a : Account} (t : Place Node) (p : Path) (d : Place Node) (there : place_at t p ≡ some d) (v : Private a d) where
  -- a walk to a place that passes a test which the directory does not pass leads outside it
  pub private_outside : (T : Node → Bool) → T d.here ≡ false → (q : Path) (e : Place Node)
      → walk (by_modes a) t q ≡ done e → T e.here ≡ true → within p q ≡ false
  private_outside T o q e w = walk_outside (by_modes a) t p d there (not_passed v) q e w T o

  -- so does one to where the account may write
  written_outside : (q : Path) (e : Place Node) → walk (by_modes a) t q ≡ done e → allows a W e.here ≡ true → within p q ≡ false
  written_outside = private_outside (allows a W) (private_shut v W)

  -- a new node where the account may write leaves the directory
  pub put_private : (q : Path) (e : Place Node) → parent_walk (by_modes a) t q ≡ done e
      → unused (last q) e.below ≡ done tt → allows a W e.here ≡ true
      → (x : Place Node) → place_at (update (parent q) (put (last q) x) t) p ≡ some d
  put_private q e w n b x =
      let i = (parent_walked (by_modes a) t q w).0 in
      put_keeps t p d (parent q) (last q) x there (written_outside (parent q) e i b)
      (place_at_child t (parent q) (last q) e (walked_at t (by_modes a) (parent q) e i) ∙ was_unused (last q) e.below n)

  -- and so does the removal of another that has nothing below it
  pub drop_private : (q : Path) (n : Name) (x e : Place Node) → walk (by_modes a) t (q ▹ n) ≡ done x
      → walk (by_modes a) t q ≡ done e → allows a W e.here ≡ true
      → is_empty x.below ≡ true → same_path p (q ▹ n) ≡ false → place_at (update q (drop n) t) p ≡ some d
  drop_private q n x e w i b z = drop_empty_keeps t p d q n x there (written_outside q e i b) (walked_at t (by_modes a) (q ▹ n) x w) z

-- the directory d of the path p in the tree s was what an `rm` or `rmdir` of q was to take out, and is gone in the tree t
record Removed (a : Account) (s d : Place Node) (p : Path) (kind : Kind) (q : Path) (t : Place Node) : Type 0 where
  itself : q ≡ p
  writes : Writes a s (parent q)
  of_kind : same_kind d.here.kind kind ≡ true
  bare : is_empty d.below ≡ true
  gone : place_at t p ≡ none

module _ (c : Caller) (m : ℕ) (t : Place Node) (p : Path) (d : Place Node) (there : place_at t p ≡ some d) (v : Private c.account d) where
  -- a new node in the room found for it leaves the directory
  pub room_private : (q : Path) → Ensures (λ e. (x : Place Node) → place_at (update (parent q) (put (last q) x) t) p ≡ some d) (room (by_modes c.account) t q)
  room_private q = rw (room_by_modes c.account t q) (
      then_check Exists tt _ λ _.
      then_do (parent_walk (by_modes c.account) t q) λ e w.
      then_guard (any_outcome (unused (last q) e.below)) λ n.
      then_check Access tt _ λ b.
      gives (put_private t p d there v q e w n b))

  module _ (whole : is_tree t ≡ true) where
    -- ---- paths below it

    -- a step after a walk through it is refused
    walk_through : {A : Type 0} (k : Place Node → Result A) (q : Path) → lies_below p q ≡ true
        → (walk (by_modes c.account) t q >>= k) ≡ refused Access
    walk_through k q b = rw (walk_shut (by_modes c.account) (kind_by_modes c.account) t whole p d there v.directory (not_passed v) q b, refused_bind)

    create_through : (kind : Kind) (q : Path) (mode : ℕ) → lies_below p q ≡ true → run_create c m t kind q mode ≡ refused Access
    unfolding run_create is_top
    create_through kind root mode b = top_not_below p b
    create_through kind (q ▹ n) mode b = rw (
      room_by_modes c.account t (q ▹ n),
      require_true Exists,
      done_then,
      parent_walk_shut (by_modes c.account) (kind_by_modes c.account) t whole p d there v.directory (not_passed v) (q ▹ n) b,
      refused_bind,
      refused_bind,
    )

    -- a command that walks first is refused for want of x where its path lies below it
    pub run_shell_through : (command : ShellAction) → walks_first command ≡ true
        → some_path (lies_below p) command ≡ true → run_shell c m t command ≡ refused Access
    unfolding walks_first some_path run_shell run_read run_write run_chmod run_chgrp run_chown
    run_shell_through (create q mode) i b = create_through File q mode b
    run_shell_through (mkdir q mode) i b = create_through Directory q mode b
    run_shell_through (read q) i b = walk_through _ q b
    run_shell_through (write q content) i b = walk_through _ q b
    run_shell_through (rm q) i b = contra i refl
    run_shell_through (rmdir q) i b = contra i refl
    run_shell_through (mv q r) i b = contra i refl
    run_shell_through (chmod q mode) i b = walk_through _ q b
    run_shell_through (chgrp q group) i b = walk_through _ q b
    run_shell_through (chown q owner) i b = walk_through _ q b

    -- ---- what becomes of it

    create_private : (kind : Kind) (q : Path) (mode : ℕ) → Ensures (λ o. place_at o.state p ≡ some d) (run_create c m t kind q mode)
    unfolding run_create
    create_private kind q mode =
        then_step (room_private q) λ e k.
        then_check Full tt _ λ _.
        gives (k _)

    read_private : (q : Path) → Ensures (λ o. place_at o.state p ≡ some d) (run_read c m t q)
    unfolding run_read
    read_private q =
        then_do (walk (by_modes c.account) t q) λ e w.
        then_check Access tt _ λ _.
        gives there

    write_private : (q : Path) (content : Text) → Ensures (λ o. place_at o.state p ≡ some d) (run_write c m t q content)
    unfolding run_write
    write_private q content =
        then_do (walk (by_modes c.account) t q) λ e w.
        then_check WrongKind tt _ λ _.
        then_check Access tt _ λ b.
        gives (alter_keeps t p d q (set_content content) there (written_outside t p d there v q e w b))

    -- it stays, or was what was to be removed
    rm_private : (kind : Kind) (q : Path)
        → Ensures (λ o. (place_at o.state p ≡ some d) ⊎ Removed c.account t d p kind q o.state) (run_rm c m t kind q)
    unfolding run_rm reserved parent last
    rm_private kind root = then_check Reserved tt _ λ i. contra i refl
    rm_private kind (q ▹ n) =
        then_check Reserved tt _ λ _.
        then_do (walk (by_modes c.account) t (q ▹ n)) λ x w.
        then_check WrongKind tt _ λ k.
        then_do (walk (by_modes c.account) t q) λ e s.
        then_check Access tt _ λ b.
        then_check NotEmpty tt _ λ z.
        gives (case (same_path p (q ▹ n))
        (λ i.
        let o = same_path_sound p (q ▹ n) i in
        let y = answered (sym (rw o at there) ∙ walked_at t (by_modes c.account) (q ▹ n) x w) in
        inr (record {
          itself = sym o;
          writes = record { place = e; stands = walked_at t (by_modes c.account) q e s; allowed = b };
          of_kind = rw y at k;
          bare = rw y at z;
          gone = rw o (drop_gone t whole q n);
        }))
        (λ i. inl (drop_private t p d there v q n x e w s b z i)))

    -- the file x moved onto the file g leaves it: neither is a directory, and nothing is written in it
    replaced_private : (q : Path) (n : Name) (x e : Place Node) (r : Path) (k : Name) (g : Place Node)
        → walk (by_modes c.account) t (q ▹ n) ≡ done x → walk (by_modes c.account) t q ≡ done e → allows c.account W e.here ≡ true
        → walk (by_modes c.account) t (r ▹ k) ≡ done g → is_directory g.here.kind ≡ false → is_directory x.here.kind ≡ false
        → within (q ▹ n) (r ▹ k) ≡ false → place_at (update q (drop n) (update (r ▹ k) (alter (λ y. x.here)) t)) p ≡ some d
    replaced_private q n x e r k g w i b there_too plain file off =
        let j = by_modes c.account in
        let no_file : (o : Path) (y : Place Node) → walk j t o ≡ done y → is_directory y.here.kind ≡ false → within p o ≡ false =
        λ o y u l. private_outside t p d there v (λ z. not (is_directory z.kind)) (ap not v.directory) o y u (ap not l) in
        drop_empty_keeps _ p d q n x
        (alter_keeps t p d (r ▹ k) _ there (no_file (r ▹ k) g there_too plain))
        (written_outside t p d there v q e i b)
        (alter_keeps t (q ▹ n) x (r ▹ k) _ (walked_at t j (q ▹ n) x w) off)
        ((place_parts x (walked_place j t (q ▹ n) x whole w)).childless file)
        (outside_differs p (q ▹ n) (no_file (q ▹ n) x w file))

    -- a move leaves it or carries it along, whatever stands where it leads
    moved_private : (q : Path) (n : Name) (x e : Place Node) (r : Path) (k : Name) (f : Place Node)
        → walk (by_modes c.account) t (q ▹ n) ≡ done x → walk (by_modes c.account) t q ≡ done e → allows c.account W e.here ≡ true
        → parent_walk (by_modes c.account) t (r ▹ k) ≡ done f → allows c.account W f.here ≡ true → lies_below (q ▹ n) (r ▹ k) ≡ false
        → (o : Option (Place Node)) → get k f.below ≡ o → may_replace x.here.kind o ≡ done tt
        → Unaltered c.account t d p (shell (mv (q ▹ n) (r ▹ k))) (moved t (q ▹ n) (r ▹ k) x o)
    unfolding moved parent last
    moved_private q n x e r k f w i b s g o none free u =
        let j = by_modes c.account in
        let l = (parent_walked j t (r ▹ k) s).0 in
        let h = walked_at t j r f l in
        let missing = place_at_child t r k f h ∙ free in
        let off = sym (apart_below (q ▹ n) (r ▹ k) (no_same t (q ▹ n) (r ▹ k) (walked_at t j (q ▹ n) x w) missing)) ∙ o in
        case (within (q ▹ n) p)
        (λ y. moved_along (record { place = e; stands = walked_at t j q e i; allowed = b }) y (move_carries t p d q n x r f k there missing off (walked_at t j (q ▹ n) x w) h y))
        (λ y. in_place (move_keeps t p d q n x r f k there missing off (written_outside t p d there v q e i b) (written_outside t p d there v r f l g) y))
    moved_private q n x e r k f w i b s g o (some y) found u =
        let j = by_modes c.account in
        let l = parent_walked j t (r ▹ k) s in
        let files = both_files x.here.kind y u in
        case (same_path (q ▹ n) (r ▹ k))
        (λ z. rw z (in_place there))
        (λ z. rw z (in_place (replaced_private q n x e r k y w i b (walks_on j t r k l.0 l.1 found) files.0 files.1 (sym (apart_below (q ▹ n) (r ▹ k) z) ∙ o))))

    mv_private : (a b : Path) → Ensures (λ o. Unaltered c.account t d p (shell (mv a b)) o.state) (run_mv c m t a b)
    unfolding is_top parent last
    mv_private root b = weaker (λ o z. contra refl z.below_top) (mv_passed c m t root b)
    mv_private (q ▹ n) root = weaker (λ o z. contra refl z.target_below_top) (mv_passed c m t (q ▹ n) root)
    mv_private (q ▹ n) (r ▹ k) = weaker
        (λ o z. rw z.leaves (moved_private q n z.place z.over r k z.directory z.led z.over_led z.over_writable z.entered z.writable z.outside z.there z.found z.fitting))
        (mv_passed c m t (q ▹ n) (r ▹ k))

    chmod_private : (q : Path) (mode : ℕ) → Ensures (λ o. place_at o.state p ≡ some d) (run_chmod c m t q mode)
    unfolding run_chmod
    chmod_private q mode =
        then_do (walk (by_modes c.account) t q) λ e w.
        then_check WrongKind tt _ λ _.
        then_check Reserved tt _ λ b.
        gives (alter_keeps t p d q (set_mode mode) there (private_outside t p d there v (owns c.account) (private_foreign v) q e w b))

    chgrp_private : (q : Path) (group : Gid) → Ensures (λ o. place_at o.state p ≡ some d) (run_chgrp c m t q group)
    unfolding run_chgrp
    chgrp_private q group =
        then_do (walk (by_modes c.account) t q) λ e w.
        then_check Reserved tt _ λ b.
        gives (alter_keeps t p d q (set_group group) there (private_outside t p d there v
        (λ n. is_root c.account.uid || (same_uid c.account.uid n.owner && member group c.account.groups)) (rw (v.not_root, v.foreign)) q e w b))

    chown_private : (q : Path) (owner : Uid) → Ensures (λ o. place_at o.state p ≡ some d) (run_chown c m t q owner)
    unfolding run_chown
    chown_private q owner =
        then_do (walk (by_modes c.account) t q) λ e w.
        then_check Reserved tt _ λ b. contra b v.not_root

    -- every shell command leaves the directory unaltered
    pub run_shell_private : (command : ShellAction)
        → Ensures (λ o. Unaltered c.account t d p (shell command) o.state) (run_shell c m t command)
    unfolding run_shell
    run_shell_private (create q mode) = weaker (λ o. in_place) (create_private File q mode)
    run_shell_private (mkdir q mode) = weaker (λ o. in_place) (create_private Directory q mode)
    run_shell_private (read q) = weaker (λ o. in_place) (read_private q)
    run_shell_private (write q content) = weaker (λ o. in_place) (write_private q content)
    run_shell_private (rm q) = weaker (λ o. ⊎_elim in_place (λ k. contra k.of_kind (directory_not_file d.here.kind v.directory))) (rm_private File q)
    run_shell_private (rmdir q) = weaker (λ o. ⊎_elim in_place (λ k. rw k.itself (taken_out (rw k.itself at k.writes) k.bare k.gone))) (rm_private Directory q)
    run_shell_private (mv a b) = mv_private a b
    run_shell_private (chmod q mode) = weaker (λ o. in_place) (chmod_private q mode)
    run_shell_private (chgrp q group) = weaker (λ o. in_place) (chgrp_private q group)
    run_shell_private (chown q owner) = weaker (λ o. in_place) (chown_private q owner)
