-- The abstract machine (document 01's shelf machine), whole: the people's tree, the registry, and the entries apart, each with a role
-- and with no owner, group or mode; its commands, and its calls.
--
-- A person's part is done in the people's tree by the access test, the account's part among the entries by dominance. As in
-- `Machine`, w is the path of a working file or directory, e an entry path, d the path of a copy to be made, z the session's role
-- and r an entry's.
use Rattle.std.specs.Prelude.{List, [], ◌∷◌, Bool, true, not, ◌&&◌, cond, ℕ, suc, ◌+◌, eqb, leb, get_or}
use Rattle.std.proofs.Math.Option.{Option, none, some}
use Rattle.buffers.specs.Text.{Text}
use Rattle.accounts.specs.declared.Caller.{Caller}
use Rattle.accounts.specs.declared.Right.{Right}
use Rattle.accounts.specs.declared.Right.TheVariants.{R, W, X}
use Rattle.accounts.specs.Dominance.{same_role, BoundedRole, dominates}
use Rattle.syntax.specs.Number.{decimal_text}
use Rattle.syntax.specs.Path.{Path, EntryPath, parent, last, depth, most_names, below_rep}
use Rattle.commands.specs.Command.{AccountAction, login, logout, cd, EntryAction, add, co, commit, up, del, Command, shell, account, entry, line}
use Rattle.setup.specs.Setup.{Setup}
use Rattle.tree.specs.declared.Kind.{Kind}
use Rattle.tree.specs.declared.Kind.TheVariants.{Directory}
use Rattle.tree.specs.declared.Cause.TheVariants.{NoForm, Access, WrongKind, NotEmpty, Reserved, Full, NoSession, NoGrant, Stale, Untagged, RevisionsSpent, TooDeep, ShortAnswer}
use Rattle.tree.specs.Result.{Result, done, ◌>>=◌, ◌>>◌, require, present, Outcome}
use Rattle.tree.specs.Forest.{Forest, no_nodes, Place, is_empty, insert, remove, at, update, update_forest, alter, put, leaf, size, height, rooted}
use Rattle.tree.specs.Node.{is_directory, Tag, Node, allows, set_tag, set_content, owns}
use Rattle.tree.specs.Walk.{Judge, by_modes, unused, walk, parent_walk, room}
use Rattle.tree.specs.Files.{files_below}
use Rattle.tree.specs.WellFormed.{most_nodes, last_revision, nodes}
use Rattle.copying.specs.Copying.{Source, copy}
use Rattle.shell.specs.Steps.{run_shell}
use Rattle.shell.specs.WholePaths.{whole_command}
use Rattle.shell.specs.Replies.{reply, after}
use Rattle.store.specs.State.{Registry, set_session, working_directory, set_directory}
use Rattle.store.specs.Initial.{initial_tree, initial_registry}
use Rattle.store.specs.Callers.{caller, granted}
use Rattle.machine.specs.Working.{Working, tagged, commit_each}
use Rattle.machine.specs.Runs.{Call, least_room, Ran}

pub record Entry : Type 0 where
  pub kind : Kind
  pub role : BoundedRole
  pub revision : ℕ
  pub content : Text

-- the entries by path are the forest below `/rep`
pub record Abstract : Type 0 where
  pub workspace : Place Node
  pub entries : Forest Entry
  pub registry : Registry

-- what a walk from `/rep` meets: `/rep` itself, which is of no role, or an entry
pub data Filed : Type 0 where
  top : Filed
  an_entry : Entry → Filed

-- the session's role dominates the entry's
unfoldable pub dominated : Setup → BoundedRole → BoundedRole → Bool
dominated setup z r = dominates setup.pairs z.role r.role

unfoldable pub filed_kind : Filed → Kind
filed_kind top = Directory
filed_kind (an_entry x) = x.kind

-- a walk from `/rep` passes a directory of a dominated role
unfoldable pub filed_passes : Setup → BoundedRole → Filed → Bool
filed_passes setup z top = true
filed_passes setup z (an_entry x) = is_directory x.kind && dominated setup z x.role

-- readable means role dominated
unfoldable pub filed_readable : Setup → BoundedRole → Filed → Bool
filed_readable setup z top = true
filed_readable setup z (an_entry x) = dominated setup z x.role

-- writing is allowed in a dominated directory, and in `/rep` to role 0 only
unfoldable pub filed_writable : Setup → BoundedRole → Filed → Bool
filed_writable setup z top = same_role z.role (record { 0 = 0 })
filed_writable setup z (an_entry x) = is_directory x.kind && dominated setup z x.role

unfoldable pub by_dominance : Setup → BoundedRole → Judge Filed
by_dominance setup z = record {
  kind = filed_kind;
  passes = filed_passes setup z;
  readable = filed_readable setup z;
  writable = filed_writable setup z;
}

-- `/rep` has its fresh revision and content
unfoldable pub filed_revision : Filed → ℕ
filed_revision top = 0
filed_revision (an_entry x) = x.revision

unfoldable pub filed_content : Filed → Text
filed_content top = []
filed_content (an_entry x) = x.content

-- a new entry, and an entry with new content and the next revision
unfoldable pub new_entry : Kind → BoundedRole → Text → Entry
new_entry kind r content = record { kind = kind; role = r; revision = 1; content = content }

unfoldable pub next_entry : Text → Entry → Entry
next_entry content x = record { kind = x.kind; role = x.role; revision = suc x.revision; content = content }

abbrev pub on_people : (Place Node → Place Node) → Abstract → Abstract
on_people f h = record { workspace = f h.workspace; entries = h.entries; registry = h.registry }

abbrev pub on_entries : (Forest Entry → Forest Entry) → Abstract → Abstract
on_entries g h = record { workspace = h.workspace; entries = g h.entries; registry = h.registry }

abbrev pub with_registry : Registry → Abstract → Abstract
with_registry registry h = record { workspace = h.workspace; entries = h.entries; registry = registry }

-- One command of the caller c on the state h.
module _ (setup : Setup) (h : Abstract) (c : Caller) where
  -- the person walks in the people's tree, the session's role from `/rep`
  abbrev person_walks : Path → Result (Place Node)
  person_walks p = walk (by_modes c.account) h.workspace p

  abbrev role_walks : BoundedRole → Path → Result (Place Filed)
  role_walks z p = walk (by_dominance setup z) (rooted an_entry top h.entries) p

  abbrev role_parent_walks : BoundedRole → Path → Result (Place Filed)
  role_parent_walks z p = parent_walk (by_dominance setup z) (rooted an_entry top h.entries) p

  -- nodes count as people's nodes plus entries
  abbrev fits : ℕ → Bool
  fits more = leb (nodes h.workspace + size h.entries + more) most_nodes

  abbrev ok : Abstract → Result (Outcome Abstract)
  ok t = done (record { text = none; state = t })

  abbrev session_becomes : Option BoundedRole → Abstract
  session_becomes z = with_registry (set_session c.account.uid z h.registry) h

  unfoldable pub abstract_login : BoundedRole → Text → Result (Outcome Abstract)
  abstract_login z password = do
    require (granted setup.grants c.account.uid z password) NoGrant
    ok (session_becomes (some z))

  unfoldable pub abstract_logout : Result (Outcome Abstract)
  abstract_logout = ok (session_becomes none)

  -- document 02: walk in the people's tree; not a directory 7; x 5; the path is kept
  unfoldable pub abstract_cd : Path → Result (Outcome Abstract)
  abstract_cd p = do
    found ← person_walks p
    require (is_directory found.here.kind) WrongKind
    require (allows c.account X found.here) Access
    ok (with_registry (set_directory c.account.uid p h.registry) h)

  -- the others first need a session
  unfoldable pub abstract_session : Result BoundedRole
  abstract_session = present (get_or h.registry.sessions c.account.uid.0 none) NoSession

  unfoldable pub abstract_add : Path → EntryPath → BoundedRole → Result (Outcome Abstract)
  abstract_add w e r = do
    z ← abstract_session
    found ← person_walks w
    require (owns c.account found.here) Reserved
    require ((by_modes c.account).readable found.here) Access
    require (dominated setup z r) Reserved
    folder ← role_parent_walks z (below_rep e)
    unused e.name folder.below
    require (filed_writable setup z folder.here) Access
    require (fits 1) Full
    let x = new_entry found.here.kind r found.here.content
    ok (on_people (tagged w e 1) (on_entries (update_forest e.folder (insert e.name (leaf x))) h))

  unfoldable pub abstract_co : EntryPath → Path → Result (Outcome Abstract)
  abstract_co e d = do
    z ← abstract_session
    directory ← room (by_modes c.account) h.workspace d
    filed ← role_walks z (below_rep e)
    require (filed_readable setup z filed.here) Access
    let source : Source Filed = record { kind = filed_kind; readable = filed_readable setup z; revision = filed_revision; content = filed_content }
    let copies = copy c source directory.here e filed
    require (leb (depth d + height copies.below) most_names) TooDeep
    require (fits (suc (size copies.below))) Full
    ok (on_people (update (parent d) (put (last d) copies)) h)

  -- the person's part of commit and up at the node found: directory 7; the right 5; no tag 15
  unfoldable pub abstract_working : Right → Place Node → Result Working
  abstract_working right found = do
    require (not (is_directory found.here.kind)) WrongKind
    require (allows c.account right found.here) Access
    tag ← present found.here.tag Untagged
    done (record { node = found.here; tag = tag })

  -- the walk to the tag's entry: directory 7; not readable 5
  unfoldable pub abstract_original : BoundedRole → EntryPath → Result (Place Filed)
  abstract_original z e = do
    filed ← role_walks z (below_rep e)
    require (not (is_directory (filed_kind filed.here))) WrongKind
    require (filed_readable setup z filed.here) Access
    done filed

  -- `commit` of the file found at w
  unfoldable pub abstract_commit_found : BoundedRole → Path → Place Node → Result (Outcome Abstract)
  abstract_commit_found z w found = do
    file ← abstract_working R found
    let e = file.tag.path
    filed ← abstract_original z e
    above ← role_walks z e.folder
    require (filed_writable setup z above.here) Access
    let revision = filed_revision filed.here
    require (eqb file.tag.revision revision) Stale
    require (not (eqb revision last_revision)) RevisionsSpent
    let revised = at e.name (alter (next_entry file.node.content))
    ok (on_people (tagged w e (suc revision)) (on_entries (update_forest e.folder revised) h))

  -- a single commit, of a file
  unfoldable pub abstract_commit_file : Path → Result (Outcome Abstract)
  abstract_commit_file w = do
    z ← abstract_session
    found ← person_walks w
    abstract_commit_found z w found

  unfoldable pub abstract_up : Path → Result (Outcome Abstract)
  abstract_up w = do
    z ← abstract_session
    found ← person_walks w
    file ← abstract_working W found
    let e = file.tag.path
    filed ← abstract_original z e
    let tag : Tag = record { path = e; revision = filed_revision filed.here }
    ok (on_people (update w (alter (λ n. set_content (filed_content filed.here) (set_tag tag n)))) h)

  unfoldable pub abstract_del : EntryPath → Result (Outcome Abstract)
  abstract_del e = do
    z ← abstract_session
    filed ← role_walks z (below_rep e)
    require (filed_readable setup z filed.here) Access
    folder ← role_walks z e.folder
    require (filed_writable setup z folder.here) Access
    require (is_empty filed.below) NotEmpty
    ok (on_entries (update_forest e.folder (remove e.name)) h)

  unfoldable pub abstract_account : AccountAction → Result (Outcome Abstract)
  abstract_account (login z password) = abstract_login z password
  abstract_account logout = abstract_logout
  abstract_account (cd p) = abstract_cd p

module _ (setup : Setup) (h : Abstract) (c : Caller) where
  -- document 02: `commit` of the directory found at w: not readable 5; then the files below it, as they were before the command,
  -- each by a single commit at its turn; the text is how many were committed
  unfoldable pub abstract_commit_directory : Path → Place Node → Result (Outcome Abstract)
  abstract_commit_directory w directory = do
    require ((by_modes c.account).readable directory.here) Access
    let r = commit_each (λ t p. abstract_commit_file setup t c p) (files_below (by_modes c.account) w directory.below) h
    done (record { text = some (decimal_text r.count); state = r.state })

  -- the path is walked once, for a directory and for a file
  unfoldable pub abstract_commit : Path → Result (Outcome Abstract)
  abstract_commit w = do
    z ← abstract_session setup h c
    found ← person_walks setup h c w
    cond (is_directory found.here.kind) (abstract_commit_directory w found) (abstract_commit_found setup h c z w found)

  unfoldable pub abstract_entry : EntryAction → Result (Outcome Abstract)
  abstract_entry (add w e r) = abstract_add setup h c w e r
  abstract_entry (co e d) = abstract_co setup h c e d
  abstract_entry (commit w) = abstract_commit w
  abstract_entry (up w) = abstract_up setup h c w
  abstract_entry (del e) = abstract_del setup h c e

  -- shell commands run on the people's tree
  unfoldable pub abstract_run : Command → Result (Outcome Abstract)
  abstract_run (shell command) = do
    o ← run_shell c (size h.entries) h.workspace command
    done (record { text = o.text; state = on_people (λ t. o.state) h })
  abstract_run (account command) = abstract_account setup h c command
  abstract_run (entry command) = abstract_entry command

-- a library call: 20, 1 and 2 come first, then 19 where a path behind the caller's working directory is too deep
unfoldable pub abstract_step : Setup → Abstract → Call → Result (Outcome Abstract)
abstract_step setup h call = do
  require (leb least_room call.room) ShortAnswer
  l ← present (line call.line) NoForm
  c ← caller setup l.caller
  command ← whole_command (working_directory l.caller h.registry) l.command
  abstract_run setup h c command

-- a list of them, each on what the one before left
unfoldable pub abstract_runs : Setup → Abstract → List Call → Ran Abstract
abstract_runs setup h [] = record { replies = []; state = h }
abstract_runs setup h (call ∷ calls) =
    let o = abstract_step setup h call in
    let rest = abstract_runs setup (after h o) calls in
    record { replies = reply o ∷ rest.replies; state = rest.state }

-- it starts as the fresh store with an empty map
unfoldable pub initial_abstract : Setup → Abstract
initial_abstract setup = record { workspace = initial_tree setup; entries = no_nodes; registry = initial_registry setup }
