-- How a done command changes and makes an entry of the store, and by whose right.
use Rattle.std.specs.Prelude.{◌≡◌, true, ℕ, suc, ◌<◌, get_or}
use Rattle.std.proofs.Math.Option.{Option, none, some, map}
use Rattle.buffers.specs.Text.{Text}
use Rattle.accounts.specs.declared.Caller.{Caller}
use Rattle.accounts.specs.Dominance.{BoundedRole}
use Rattle.syntax.specs.Path.{Path, EntryPath, within, in_rep, entry_location, below_rep}
use Rattle.commands.specs.Command.{add, commit, del, Command, entry}
use Rattle.setup.specs.Setup.{Setup}
use Rattle.tree.specs.declared.Kind.{Kind}
use Rattle.tree.specs.declared.Kind.TheVariants.{File, Directory}
use Rattle.tree.specs.Forest.{Place, place_at, alter}
use Rattle.tree.specs.Node.{Node, set_tag}
use Rattle.store.specs.State.{Store}
use Rattle.store.specs.Initial.{rep_node}
use Rattle.machine.specs.StoreMachine.{entry_node}
use Rattle.machine.specs.AbstractMachine.{Abstract, Filed, dominated}
use Rattle.machine.specs.AbstractInstance.{abstract}

-- the node of the store at an entry path
unfoldable pub node_of : Store → EntryPath → Option Node
node_of s e = map (λ d. d.here) (place_at s.tree (entry_location e))

-- an entry stands there, of that kind, role, revision and content
abbrev pub FiledAs : Store → EntryPath → Kind → BoundedRole → ℕ → Text → Type 0
FiledAs s e kind r revision content = node_of s e ≡ some (entry_node kind r revision content)

-- the entry of the abstract machine at a path
unfoldable pub entry_of : Abstract → EntryPath → Option Filed
entry_of h e = map (λ d. d.here) (place_at (abstract.entries h) (below_rep e))

-- a role writes in `/rep` if it is role 0, and in an entry that is a directory of a role that it dominates
pub data WritesIn (u : Setup) (z : BoundedRole) : Node → Type 0 where
  in_top : z.role.0 ≡ 0 → WritesIn u z rep_node
  in_directory : (r : BoundedRole) (revision : ℕ) (content : Text) → dominated u z r ≡ true → WritesIn u z (entry_node Directory r revision content)

-- the caller's session has a role that dominates r and writes in the directory of the entry path e
pub record Rightful (u : Setup) (s : Store) (c : Caller) (e : EntryPath) (r : BoundedRole) : Type 0 where
  pub role : BoundedRole
  pub session : get_or s.registry.sessions c.account.uid.0 none ≡ some role
  pub dominates : dominated u role r ≡ true
  pub folder : Place Node
  pub stands : place_at s.tree (in_rep e.folder) ≡ some folder
  pub writes : WritesIn u role folder.here

-- the entry at e, of that kind, role and revision, before and after a `commit w`
pub record Committed (before after : Store) (e : EntryPath) (kind : Kind) (r : BoundedRole) (revision : ℕ) (w : Path) : Type 0 where
  -- at w stood a file tagged with just this path and revision
  pub working : Place Node
  pub stood : place_at before.tree w ≡ some working
  pub working_is_file : working.here.kind ≡ File
  pub was_tagged : working.here.tag ≡ some (record { path = e; revision = revision })
  -- the entry, a file too, now has its content and the next revision,
  pub entry_is_file : kind ≡ File
  pub revised : FiledAs after e kind r (suc revision) working.here.content
  -- and it the tag of that revision
  pub is_tagged : place_at after.tree w ≡ some (alter (set_tag (record { path = e; revision = suc revision })) working)

-- single commits of files within w, one after another, from the store s to s': each leaves the entry at e, of revision v, as it is,
-- or is a commit of it; v' is its revision after them
pub data Revised (e : EntryPath) (kind : Kind) (r : BoundedRole) (w : Path) : (s : Store) (v : ℕ) (s' : Store) (v' : ℕ) → Type 0 where
  no_more : {s : Store} {v : ℕ} → Revised e kind r w s v s v
  another's : {s t s' : Store} {v v' : ℕ} (content : Text) → FiledAs s e kind r v content → FiledAs t e kind r v content
      → Revised e kind r w t v s' v' → Revised e kind r w s v s' v'
  its_own : {p : Path} {s t s' : Store} {v v' : ℕ} → within w p ≡ true → Committed s t e kind r v p
      → Revised e kind r w t (suc v) s' v' → Revised e kind r w s v s' v'

-- the commands that change the entry at e, of that kind, role and revision: a `commit` of a working file of it, a `commit` of a
-- directory with such files below it, and a `del` of it, after which nothing stands there
pub data Change (before after : Store) (e : EntryPath) (kind : Kind) (r : BoundedRole) (revision : ℕ) : Command → Type 0 where
  by_commit : {w : Path} → Committed before after e kind r revision w → Change before after e kind r revision (entry (commit w))
  by_directory : {w : Path} {v : ℕ} → Revised e kind r w before revision after v → revision < v → Change before after e kind r revision (entry (commit w))
  by_del : node_of after e ≡ none → Change before after e kind r revision (entry (del e))

-- the entry of role r at e after an `add w e r`
pub record Added (before after : Store) (e : EntryPath) (r : BoundedRole) (w : Path) : Type 0 where
  -- what stood at w
  pub working : Place Node
  pub stood : place_at before.tree w ≡ some working
  -- gave the entry its kind and its content, with revision 1,
  pub made : FiledAs after e working.here.kind r 1 working.here.content
  -- and has the tag of that revision
  pub is_tagged : place_at after.tree w ≡ some (alter (set_tag (record { path = e; revision = 1 })) working)

-- the command that makes an entry at e, in a session whose role dominates the new entry's and writes in its directory
pub data Making (u : Setup) (before after : Store) (c : Caller) (e : EntryPath) : Command → Type 0 where
  by_add : {w : Path} {r : BoundedRole} → Added before after e r w → Rightful u before c e r
      → Making u before after c e (entry (add w e r))
