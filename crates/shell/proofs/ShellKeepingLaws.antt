-- No shell command makes a well-formed tree ill-formed, whoever calls, root too.
use Rattle.std.specs.Prelude.{◌≡◌, true, false, ◌||◌, not, ℕ, suc, ◌+◌, ◌/◌, ◌≤◌, ltb}
use Rattle.std.proofs.Math.Path.{refl}
use Rattle.std.proofs.Common.{◌∙◌, arith}
use Rattle.std.proofs.Math.Option.{Option, none, some}
use borrow.Author.Tests.{not-true, leb-true, ltb-true, ne_eqb}
use Rattle.buffers.specs.Cases.{case, and_both, contra}
use Rattle.buffers.specs.Text.{Text}
use Rattle.accounts.specs.declared.Caller.{Caller}
use Rattle.accounts.specs.declared.Uid.{Uid}
use Rattle.accounts.specs.declared.Gid.{Gid}
use Rattle.accounts.specs.Caller.{is_caller}
use Rattle.syntax.specs.Number.{set_gid, is_mode}
use Rattle.syntax.specs.Path.{Name, Path, root, ◌▹◌, parent, last, depth, is_top, same_path, is_path, most_names}
use Rattle.syntax.proofs.PathLaws.{path_depth, last_is_name, parent_depth}
use Rattle.syntax.specs.Field.{is_content}
use Rattle.commands.specs.Command.{ShellAction, create, mkdir, read, write, rm, rmdir, mv, chmod, chgrp, chown, is_shell_command}
use Rattle.tree.specs.declared.Kind.{Kind}
use Rattle.tree.specs.declared.Kind.TheVariants.{File, Directory}
use Rattle.tree.specs.declared.Cause.TheVariants.{Access, WrongKind, NotEmpty, Reserved, Full}
use Rattle.tree.specs.Result.{Result, done, Outcome}
use Rattle.tree.specs.Outcomes.{gives, Ensures}
use Rattle.tree.proofs.GivesLaws.{weaker, then_check, then_do}
use Rattle.tree.specs.Forest.{Place, get, update, put, leaf, size, height}
use Rattle.tree.specs.Node.{is_directory, Node, set_owner, set_group, set_mode, set_content, new_node}
use Rattle.tree.specs.Walk.{by_modes, walk, room}
use Rattle.tree.specs.WellFormed.{nodes, is_node, is_place, is_tree}
use Rattle.tree.proofs.JudgeLaws.{file_is_none, directory_is_one}
use Rattle.tree.proofs.StepLaws.{parent_walked}
use Rattle.tree.proofs.RoomLaws.{room_found}
use Rattle.tree.proofs.PlaceLaws.{leaf_size}
use Rattle.tree.proofs.UpdateLaws.{place_at_last, walked_at, leaf_height}
use Rattle.tree.proofs.NodeLaws.{new_node_fits, node_of_owner, node_of_group, node_of_mode, node_of_content, kind_of_set_owner, kind_of_set_group, kind_of_set_mode, kind_of_set_content}
use Rattle.tree.proofs.WellFormedLaws.{most_nodes_is, place_node, leaf_place, entered_directory, walked_place}
use Rattle.tree.proofs.ChangeLaws.{alter_at, keep_alter, keep_put, keep_drop, keep_move}
use Rattle.shell.proofs.ReplacingLaws.{both_files, same_files}
use Rattle.shell.proofs.PassedMoveLaws.{mv_passed}
use Rattle.shell.specs.Steps.{fit, may_replace, moved, run_create, run_read, run_write, run_rm, run_mv, run_chmod, run_chgrp, run_chown, run_shell}

-- a mode below 01000 is one, without set-gid
plain_mode_fits : (m : ℕ) → ltb m 512 ≡ true → (is_mode m ≡ true) × (set_gid m ≡ false)
unfolding is_mode set_gid
plain_mode_fits m h = (rw h, ne_eqb (m / 512) 2 (omega (arith, ltb-true m 512 h)))

module _ (c : Caller) (m : ℕ) (t : Place Node) where
  -- what fits is at most 256 nodes
  pub fit_most : (k : ℕ) → fit c m t k ≡ true → nodes t + k ≤ 256
  unfolding fit
  fit_most k h = omega (arith, leb-true (nodes t + m + k) 256 (rw most_nodes_is at h))

  -- a place put into the room for it keeps the tree well-formed
  pub room_keeps : (p : Path) (d e : Place Node) → is_tree t ≡ true → is_path p ≡ true → room (by_modes c.account) t p ≡ done d → is_place e ≡ true
      → depth p + height e.below ≤ 6 → nodes t + suc (size e.below) ≤ 256 → is_tree (update (parent p) (put (last p) e) t) ≡ true
  room_keeps p d e h a i w l n =
      let f = room_found c.account t p i in
      keep_put (by_modes c.account) t (parent p) d (last p) e h f.led f.enterable f.free (last_is_name p a f.below_top) w
      (omega (arith, parent_depth p f.below_top)) n

  module _ (o : is_caller c ≡ true) (h : is_tree t ≡ true) where
    abbrev Keeps : Result (Outcome (Place Node)) → Type 0
    Keeps r = Ensures (λ o. is_tree o.state ≡ true) r

    -- the node where a walk leads is in range
    node_at : (p : Path) (d : Place Node) → walk (by_modes c.account) t p ≡ done d → is_node d.here ≡ true
    node_at p d e = place_node d (walked_place (by_modes c.account) t p d h e)

    create_keeps : (kind : Kind) (p : Path) (mode : ℕ) → is_path p ≡ true → is_mode mode ≡ true
        → (is_directory kind || not (set_gid mode)) ≡ true → Keeps (run_create c m t kind p mode)
    unfolding run_create
    create_keeps kind p mode a b g =
        then_do _ λ d e.
        then_check Full tt _ λ f.
        let x = new_node c d.here kind mode in
        gives (room_keeps p d (leaf x) h a e (leaf_place x (new_node_fits c d.here kind mode o (node_at (parent p) d (room_found c.account t p e).led) b g))
        (omega (arith, leaf_height x, path_depth p a)) (omega (arith, leaf_size x, fit_most 1 f)))

    read_keeps : (p : Path) → Keeps (run_read c m t p)
    unfolding run_read
    read_keeps p =
        then_do _ λ d _.
        then_check Access tt _ λ _.
        gives h

    write_keeps : (p : Path) (content : Text) → is_content content ≡ true → Keeps (run_write c m t p content)
    unfolding run_write
    write_keeps p content a =
        then_do _ λ d e.
        then_check WrongKind tt _ λ b.
        then_check Access tt _ λ _.
        gives (keep_alter (by_modes c.account) t p d (set_content content) h e
        (node_of_content content d.here (node_at p d e) (not-true (is_directory d.here.kind) b) a) (kind_of_set_content content d.here))

    rm_keeps : (kind : Kind) (p : Path) → Keeps (run_rm c m t kind p)
    unfolding run_rm
    rm_keeps kind p =
        then_check Reserved tt _ λ _.
        then_do _ λ d _.
        then_check WrongKind tt _ λ _.
        then_do _ λ e _.
        then_check Access tt _ λ _.
        then_check NotEmpty tt _ λ _.
        gives (keep_drop t (parent p) (last p) h)

    -- a move keeps the tree well-formed, whatever stands where it leads
    moved_keeps : (a : Path) (n : Name) (b : Path) (d f : Place Node) → is_path b ≡ true → is_top b ≡ false → walk (by_modes c.account) t (a ▹ n) ≡ done d
        → walk (by_modes c.account) t (parent b) ≡ done f → is_directory f.here.kind ≡ true → depth b + height d.below ≤ 6
        → (o : Option (Place Node)) → get (last b) f.below ≡ o → may_replace d.here.kind o ≡ done tt → is_tree (moved t (a ▹ n) b d o) ≡ true
    unfolding moved parent last
    moved_keeps a n b d f g top e w dir l none free r =
        keep_move (by_modes c.account) t a n (parent b) (last b) d f h e w dir free (last_is_name b g top) (omega (arith, parent_depth b top))
    moved_keeps a n b d f g top e w dir l (some x) there r =
        let k = both_files d.here.kind x r in
        let at = place_at_last t b f top (walked_at t (by_modes c.account) (parent b) f w) ∙ there in
        case (same_path (a ▹ n) b)
        (λ i. rw i h)
        (λ i. rw i (keep_drop _ a n (alter_at t b x (λ y. d.here) h at (node_at (a ▹ n) d e) (same_files d.here.kind x.here.kind k.1 k.0))))

    mv_keeps : (a b : Path) → is_path b ≡ true → Keeps (run_mv c m t a b)
    unfolding is_top most_names
    mv_keeps root b g = weaker (λ o v. contra refl v.below_top) (mv_passed c m t root b)
    mv_keeps (a ▹ n) b g = weaker
        (λ o v.
        let to = parent_walked (by_modes c.account) t b v.entered in
        rw v.leaves (moved_keeps a n b v.place v.directory g v.target_below_top v.led to.0 (entered_directory c.account v.directory.here to.1) v.low v.there v.found v.fitting))
        (mv_passed c m t (a ▹ n) b)

    chmod_keeps : (p : Path) (mode : ℕ) → is_mode mode ≡ true → Keeps (run_chmod c m t p mode)
    unfolding run_chmod
    chmod_keeps p mode a =
        then_do _ λ d e.
        then_check WrongKind tt _ λ b.
        then_check Reserved tt _ λ _.
        gives (keep_alter (by_modes c.account) t p d (set_mode mode) h e
        (node_of_mode mode d.here (node_at p d e) a b) (kind_of_set_mode mode d.here))

    chgrp_keeps : (p : Path) (group : Gid) → ltb group.0 25 ≡ true → Keeps (run_chgrp c m t p group)
    unfolding run_chgrp
    chgrp_keeps p group a =
        then_do _ λ d e.
        then_check Reserved tt _ λ _.
        gives (keep_alter (by_modes c.account) t p d (set_group group) h e
        (node_of_group group d.here (node_at p d e) a) (kind_of_set_group group d.here))

    chown_keeps : (p : Path) (owner : Uid) → ltb owner.0 24 ≡ true → Keeps (run_chown c m t p owner)
    unfolding run_chown
    chown_keeps p owner a =
        then_do _ λ d e.
        then_check Reserved tt _ λ _.
        gives (keep_alter (by_modes c.account) t p d (set_owner owner) h e
        (node_of_owner owner d.here (node_at p d e) a) (kind_of_set_owner owner d.here))

    -- a shell command of a caller in range keeps the tree well-formed
    pub run_shell_keeps : (command : ShellAction) → is_shell_command command ≡ true
        → Ensures (λ o. is_tree o.state ≡ true) (run_shell c m t command)
    unfolding run_shell is_shell_command
    run_shell_keeps (create p mode) k =
        let i = and_both (is_path p) (ltb mode 512) k in
        let j = plain_mode_fits mode i.1 in
        create_keeps File p mode i.0 j.0 (rw (file_is_none, j.1))
    run_shell_keeps (mkdir p mode) k = let i = and_both (is_path p) (is_mode mode) k in create_keeps Directory p mode i.0 i.1 (rw directory_is_one)
    run_shell_keeps (read p) k = read_keeps p
    run_shell_keeps (write p content) k = write_keeps p content (and_both (is_path p) (is_content content) k).1
    run_shell_keeps (rm p) k = rm_keeps File p
    run_shell_keeps (rmdir p) k = rm_keeps Directory p
    run_shell_keeps (mv a b) k = mv_keeps a b (and_both (is_path a) (is_path b) k).1
    run_shell_keeps (chmod p mode) k = chmod_keeps p mode (and_both (is_path p) (is_mode mode) k).1
    run_shell_keeps (chgrp p group) k = chgrp_keeps p group (and_both (is_path p) (ltb group.0 25) k).1
    run_shell_keeps (chown p owner) k = chown_keeps p owner (and_both (is_path p) (ltb owner.0 24) k).1
