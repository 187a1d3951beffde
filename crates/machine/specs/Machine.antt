-- Document 01's commands over any machine that holds a workspace, a registry and a repository.
--
-- A person's part is done in the workspace by the access test; the account's part in the repository, by the machine's own
-- judge. The store is an instance of this text. The abstract machine stands apart (`AbstractMachine`), and is the text at another
-- instance (`AbstractInstanceLaws`). Throughout, w is the path of a working file or directory, e an entry path, d the path of a
-- copy to be made, z the session's role and r an entry's.
use Rattle.std.proofs.Math.Option.{Option, none, some}
use Rattle.std.specs.Prelude.{Bool, not, cond, ℕ, suc, ◌+◌, eqb, leb, get_or}
use Rattle.buffers.specs.Text.{Text}
use Rattle.accounts.specs.declared.Caller.{Caller}
use Rattle.accounts.specs.declared.Right.{Right}
use Rattle.accounts.specs.declared.Right.TheVariants.{R, W, X}
use Rattle.accounts.specs.Dominance.{BoundedRole, dominates}
use Rattle.syntax.specs.Number.{decimal_text}
use Rattle.syntax.specs.Path.{Path, EntryPath, parent, last, depth, most_names, below_rep}
use Rattle.commands.specs.Command.{AccountAction, login, logout, cd, EntryAction, add, co, commit, up, del, Command, shell, account, entry}
use Rattle.setup.specs.Setup.{Setup}
use Rattle.tree.specs.declared.Kind.{Kind}
use Rattle.tree.specs.declared.Cause.TheVariants.{Access, WrongKind, NotEmpty, Reserved, Full, NoSession, NoGrant, Stale, Untagged, RevisionsSpent, TooDeep}
use Rattle.tree.specs.Result.{Result, done, ◌>>=◌, ◌>>◌, require, present, Outcome}
use Rattle.tree.specs.Forest.{Place, is_empty, update, alter, put, size, height}
use Rattle.tree.specs.Node.{is_directory, Tag, Node, allows, set_tag, set_content, owns}
use Rattle.tree.specs.Walk.{Judge, by_modes, unused, walk, parent_walk, room}
use Rattle.tree.specs.Files.{files_below}
use Rattle.tree.specs.WellFormed.{last_revision}
use Rattle.copying.specs.Copying.{Source, copy}
use Rattle.shell.specs.Steps.{fit, run_shell}
use Rattle.store.specs.State.{Registry, set_session, set_directory}
use Rattle.store.specs.Callers.{granted}
use Rattle.machine.specs.Working.{Working, tagged, commit_each}

-- A machine with states S and A for what an account meets in its repository.
pub record Machine (S A : Type 0) : Type 0 where
  -- the tree in which persons walk, and how many nodes exist elsewhere
  pub workspace : S → Place Node
  pub elsewhere : S → ℕ
  -- the tree in which the account of a session's role walks, how it judges there, and where a path below `/rep` lies there
  pub entries : S → Place A
  pub judge : Setup → BoundedRole → Judge A
  pub locate : Path → Path
  -- revision and content of what the account meets
  pub revision : A → ℕ
  pub content : A → Text
  -- what is kept for each account
  pub registry : S → Registry
  -- changes: a new entry of revision 1; an entry with new content and the next revision; an entry taken out
  pub file : EntryPath → Kind → BoundedRole → Text → S → S
  pub revise : EntryPath → Text → S → S
  pub remove : EntryPath → S → S
  pub on_workspace : (Place Node → Place Node) → S → S
  pub with_registry : Registry → S → S

-- what copies are made of, as a judge sees it
abbrev pub source : {S A : Type 0} → Machine S A → Judge A → Source A
source M j = record { kind = j.kind; readable = j.readable; revision = M.revision; content = M.content }

-- One command of the caller c on the state s. The account is that of the session's role.
module _ {S A : Type 0} (M : Machine S A) (setup : Setup) (s : S) (c : Caller) where
  abbrev walks : Path → Result (Place Node)
  walks p = walk (by_modes c.account) (M.workspace s) p

  abbrev account_walks : BoundedRole → Path → Result (Place A)
  account_walks z p = walk (M.judge setup z) (M.entries s) (M.locate p)

  abbrev account_parent_walks : BoundedRole → Path → Result (Place A)
  account_parent_walks z p = parent_walk (M.judge setup z) (M.entries s) (M.locate p)

  abbrev fits : ℕ → Bool
  fits more = fit c (M.elsewhere s) (M.workspace s) more

  abbrev ok : S → Result (Outcome S)
  ok t = done (record { text = none; state = t })

  -- the caller's session replaced
  abbrev session_becomes : Option BoundedRole → S
  session_becomes z = M.with_registry (set_session c.account.uid z (M.registry s)) s

  unfoldable pub run_login : BoundedRole → Text → Result (Outcome S)
  run_login z password = do
    require (granted setup.grants c.account.uid z password) NoGrant
    ok (session_becomes (some z))

  unfoldable pub run_logout : Result (Outcome S)
  run_logout = ok (session_becomes none)

  -- document 02: walk; not a directory 7; x 5; the path is kept
  unfoldable pub run_cd : Path → Result (Outcome S)
  run_cd p = do
    found ← walks p
    require (is_directory found.here.kind) WrongKind
    require (allows c.account X found.here) Access
    ok (M.with_registry (set_directory c.account.uid p (M.registry s)) s)

  -- the session's role
  unfoldable pub session : Result BoundedRole
  session = present (get_or (M.registry s).sessions c.account.uid.0 none) NoSession

  unfoldable pub run_add : Path → EntryPath → BoundedRole → Result (Outcome S)
  run_add w e r = do
    z ← session
    found ← walks w
    require (owns c.account found.here) Reserved
    require ((by_modes c.account).readable found.here) Access
    require (dominates setup.pairs z.role r.role) Reserved
    folder ← account_parent_walks z (below_rep e)
    unused e.name folder.below
    require ((M.judge setup z).writable folder.here) Access
    require (fits 1) Full
    ok (M.on_workspace (tagged w e 1) (M.file e found.here.kind r found.here.content s))

  unfoldable pub run_co : EntryPath → Path → Result (Outcome S)
  run_co e d = do
    z ← session
    directory ← room (by_modes c.account) (M.workspace s) d
    filed ← account_walks z (below_rep e)
    require ((M.judge setup z).readable filed.here) Access
    let copies = copy c (source M (M.judge setup z)) directory.here e filed
    require (leb (depth d + height copies.below) most_names) TooDeep
    require (fits (suc (size copies.below))) Full
    ok (M.on_workspace (update (parent d) (put (last d) copies)) s)

  -- the person's part of commit and up at the node found: directory 7; the right 5; no tag 15
  unfoldable pub working_file : Right → Place Node → Result Working
  working_file right found = do
    require (not (is_directory found.here.kind)) WrongKind
    require (allows c.account right found.here) Access
    tag ← present found.here.tag Untagged
    done (record { node = found.here; tag = tag })

  -- the account's walk to the tag's entry: directory 7; r 5
  unfoldable pub original : BoundedRole → EntryPath → Result (Place A)
  original z e = do
    found ← account_walks z (below_rep e)
    require (not (is_directory ((M.judge setup z).kind found.here))) WrongKind
    require ((M.judge setup z).readable found.here) Access
    done found

  -- `commit` of the file found at w
  unfoldable pub commit_found : BoundedRole → Path → Place Node → Result (Outcome S)
  commit_found z w found = do
    file ← working_file R found
    let e = file.tag.path
    filed ← original z e
    above ← account_walks z e.folder
    require ((M.judge setup z).writable above.here) Access
    let revision = M.revision filed.here
    require (eqb file.tag.revision revision) Stale
    require (not (eqb revision last_revision)) RevisionsSpent
    ok (M.on_workspace (tagged w e (suc revision)) (M.revise e file.node.content s))

  -- a single commit, of a file
  unfoldable pub commit_file : Path → Result (Outcome S)
  commit_file w = do
    z ← session
    found ← walks w
    commit_found z w found

  unfoldable pub run_up : Path → Result (Outcome S)
  run_up w = do
    z ← session
    found ← walks w
    file ← working_file W found
    let e = file.tag.path
    filed ← original z e
    let tag : Tag = record { path = e; revision = M.revision filed.here }
    ok (M.on_workspace (update w (alter (λ n. set_content (M.content filed.here) (set_tag tag n)))) s)

  unfoldable pub run_del : EntryPath → Result (Outcome S)
  run_del e = do
    z ← session
    filed ← account_walks z (below_rep e)
    require ((M.judge setup z).readable filed.here) Access
    folder ← account_walks z e.folder
    require ((M.judge setup z).writable folder.here) Access
    require (is_empty filed.below) NotEmpty
    ok (M.remove e s)

  unfoldable pub run_account : AccountAction → Result (Outcome S)
  run_account (login z password) = run_login z password
  run_account logout = run_logout
  run_account (cd p) = run_cd p

module _ {S A : Type 0} (M : Machine S A) (setup : Setup) (s : S) (c : Caller) where
  -- document 02: `commit` of the directory found at w: not readable 5; then the files below it, as they were before the command,
  -- each by a single commit at its turn; the text is how many were committed
  unfoldable pub commit_directory : Path → Place Node → Result (Outcome S)
  commit_directory w directory = do
    require ((by_modes c.account).readable directory.here) Access
    let r = commit_each (λ t p. commit_file M setup t c p) (files_below (by_modes c.account) w directory.below) s
    done (record { text = some (decimal_text r.count); state = r.state })

  -- the path is walked once, for a directory and for a file
  unfoldable pub run_commit : Path → Result (Outcome S)
  run_commit w = do
    z ← session M setup s c
    found ← walks M setup s c w
    cond (is_directory found.here.kind) (commit_directory w found) (commit_found M setup s c z w found)

  unfoldable pub run_entry : EntryAction → Result (Outcome S)
  run_entry (add w e r) = run_add M setup s c w e r
  run_entry (co e d) = run_co M setup s c e d
  run_entry (commit w) = run_commit w
  run_entry (up w) = run_up M setup s c w
  run_entry (del e) = run_del M setup s c e

  unfoldable pub run : Command → Result (Outcome S)
  run (shell command) = do
    o ← run_shell c (M.elsewhere s) (M.workspace s) command
    done (record { text = o.text; state = M.on_workspace (λ t. o.state) s })
  run (account command) = run_account M setup s c command
  run (entry command) = run_entry command
