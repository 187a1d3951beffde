-- The shell commands of document 01, `mv` as request 3 of document 02 has it, each a list of checks in their order and for their
-- causes, then the tree after it.
--
-- The tree is that in which persons walk. Nodes that exist elsewhere count towards the 256 too: none in the store, which is one
-- tree, and the entries in the abstract machine.
use Rattle.std.proofs.Math.Option.{Option, none, some}
use Rattle.std.specs.Prelude.{Bool, ◌&&◌, ◌||◌, not, cond, ℕ, ◌+◌, leb}
use Rattle.buffers.specs.Text.{Text}
use Rattle.accounts.specs.declared.Caller.{Caller}
use Rattle.accounts.specs.declared.Uid.{Uid}
use Rattle.accounts.specs.declared.Gid.{Gid}
use Rattle.accounts.specs.declared.Right.{Right}
use Rattle.accounts.specs.declared.Right.TheVariants.{R, W}
use Rattle.accounts.specs.Groups.{member}
use Rattle.accounts.specs.Access.{is_root, same_uid}
use Rattle.syntax.specs.Pieces.{comma, joined}
use Rattle.syntax.specs.Number.{set_gid}
use Rattle.syntax.specs.Path.{Path, parent, last, depth, same_path, lies_below, reserved, most_names}
use Rattle.commands.specs.Command.{ShellAction, create, mkdir, read, write, rm, rmdir, mv, chmod, chgrp, chown}
use Rattle.tree.specs.declared.Kind.{Kind}
use Rattle.tree.specs.declared.Kind.TheVariants.{File, Directory}
use Rattle.tree.specs.declared.Cause.TheVariants.{Access, Exists, WrongKind, NotEmpty, Reserved, Full, IntoItself, TooDeep}
use Rattle.tree.specs.Result.{Result, done, ◌>>=◌, ◌>>◌, require, Outcome}
use Rattle.tree.specs.Forest.{Place, is_empty, update, alter, put, drop, leaf, height, names}
use Rattle.tree.specs.Node.{is_directory, same_kind, Node, allows, set_owner, set_group, set_mode, set_content, owns, new_node}
use Rattle.tree.specs.Walk.{by_modes, sought, walk, parent_walk, room}
use Rattle.tree.specs.WellFormed.{most_nodes, nodes}

-- a file's content, or a directory's names in byte order parted by commas
unfoldable pub text_of : Place Node → Text
text_of d = cond (is_directory d.here.kind) (joined comma (names d.below)) d.here.content

-- 255 names of 8 bytes and the 254 commas between them; content is shorter
unfoldable pub longest_text : ℕ
longest_text = 2294

-- whether a node of that kind may be moved to where this stands: onto a directory 6, a directory onto a file 7; a file onto a file
-- may, and all where nothing stands
unfoldable pub may_replace : Kind → Option (Place Node) → Result (Unit {0})
may_replace kind none = done tt
may_replace kind (some g) = do
  require (not (is_directory g.here.kind)) Exists
  require (not (is_directory kind)) WrongKind

-- the tree with the place d moved from a to b: put in where nothing stood; else the file there becomes the file d, its tag with the
-- rest, and the one at a goes; onto itself nothing changes
unfoldable pub moved : Place Node → Path → Path → Place Node → Option (Place Node) → Place Node
moved t a b d none = update (parent b) (put (last b) d) (update (parent a) (drop (last a)) t)
moved t a b d (some g) = cond (same_path a b) t (update (parent a) (drop (last a)) (update b (alter (λ n. d.here)) t))

-- One command of the caller c on the tree t.
module _ (c : Caller) (elsewhere : ℕ) (t : Place Node) where
  abbrev walks : Path → Result (Place Node)
  walks p = walk (by_modes c.account) t p

  abbrev parent_walks : Path → Result (Place Node)
  parent_walks p = parent_walk (by_modes c.account) t p

  abbrev can : Right → Place Node → Bool
  can right d = allows c.account right d.here

  -- done without text, the tree changed at a path
  abbrev changed : Path → (Place Node → Place Node) → Result (Outcome (Place Node))
  changed p f = done (record { text = none; state = update p f t })

  -- whether so many more nodes are at most 256
  unfoldable pub fit : ℕ → Bool
  fit more = leb (nodes t + elsewhere + more) most_nodes

  -- `create` makes a file, `mkdir` a directory
  unfoldable pub run_create : Kind → Path → ℕ → Result (Outcome (Place Node))
  run_create kind p mode = do
    d ← room (by_modes c.account) t p
    require (fit 1) Full
    changed (parent p) (put (last p) (leaf (new_node c d.here kind mode)))

  unfoldable pub run_read : Path → Result (Outcome (Place Node))
  run_read p = do
    d ← walks p
    require (can R d) Access
    done (record { text = some (text_of d); state = t })

  unfoldable pub run_write : Path → Text → Result (Outcome (Place Node))
  run_write p content = do
    d ← walks p
    require (not (is_directory d.here.kind)) WrongKind
    require (can W d) Access
    changed p (alter (set_content content))

  -- `rm` takes a file out, `rmdir` a directory
  unfoldable pub run_rm : Kind → Path → Result (Outcome (Place Node))
  run_rm kind p = do
    require (not (reserved p)) Reserved
    d ← walks p
    require (same_kind d.here.kind kind) WrongKind
    above ← walks (parent p)
    require (can W above) Access
    require (is_empty d.below) NotEmpty
    changed (parent p) (drop (last p))

  unfoldable pub run_mv : Path → Path → Result (Outcome (Place Node))
  run_mv a b = do
    require (not (reserved a || reserved b)) Reserved
    d ← walks a
    f ← parent_walks b
    there ← sought (last b) f.below
    may_replace d.here.kind there
    e ← walks (parent a)
    require (can W e) Access
    require (can W f) Access
    require (not (lies_below a b)) IntoItself
    require (leb (depth b + height d.below) most_names) TooDeep
    done (record { text = none; state = moved t a b d there })

  unfoldable pub run_chmod : Path → ℕ → Result (Outcome (Place Node))
  run_chmod p mode = do
    d ← walks p
    require (is_directory d.here.kind || not (set_gid mode)) WrongKind
    require (owns c.account d.here) Reserved
    changed p (alter (set_mode mode))

  -- root may give any group, an owner any of the own groups
  unfoldable pub run_chgrp : Path → Gid → Result (Outcome (Place Node))
  run_chgrp p group = do
    d ← walks p
    require (is_root c.account.uid || (same_uid c.account.uid d.here.owner && member group c.account.groups)) Reserved
    changed p (alter (set_group group))

  unfoldable pub run_chown : Path → Uid → Result (Outcome (Place Node))
  run_chown p owner = do
    d ← walks p
    require (is_root c.account.uid) Reserved
    changed p (alter (set_owner owner))

  unfoldable pub run_shell : ShellAction → Result (Outcome (Place Node))
  run_shell (create p mode) = run_create File p mode
  run_shell (mkdir p mode) = run_create Directory p mode
  run_shell (read p) = run_read p
  run_shell (write p content) = run_write p content
  run_shell (rm p) = run_rm File p
  run_shell (rmdir p) = run_rm Directory p
  run_shell (mv a b) = run_mv a b
  run_shell (chmod p mode) = run_chmod p mode
  run_shell (chgrp p group) = run_chgrp p group
  run_shell (chown p owner) = run_chown p owner
