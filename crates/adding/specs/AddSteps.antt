-- What `add` comes to on the store's tree, for the person's account, the session's account and the session's dominance; what is known when its
-- entry is made, and what its code promises.
use Rattle.std.specs.Prelude.{◌≡◌, List, Bool, ℕ, ◌+◌, ◌≤◌, leb}
use Rattle.std.proofs.Math.Option.{none, some}
use Rattle.buffers.specs.Text.{Text}
use Rattle.accounts.specs.declared.Account.{Account}
use Rattle.accounts.specs.declared.Caller.{Caller}
use Rattle.accounts.specs.declared.Role.{Role}
use Rattle.accounts.specs.Dominance.{BoundedRole}
use Rattle.accounts.specs.Service.{service_uid, service_gid}
use Rattle.syntax.specs.Path.{Path, EntryPath, in_rep, entry_location, entry_path}
use Rattle.tree.specs.declared.Kind.{Kind}
use Rattle.tree.specs.declared.Cause.TheVariants.{Access, Reserved, Full}
use Rattle.tree.specs.Layout.{most_rows}
use Rattle.tree.specs.Result.{Result, done, ◌>>=◌, ◌>>◌, require, Outcome}
use Rattle.tree.specs.Forest.{Place, update, put, leaf}
use Rattle.tree.specs.Node.{Node, owns}
use Rattle.tree.specs.Walk.{by_modes, room}
use Rattle.tree.specs.WellFormed.{most_nodes, nodes}
use Rattle.tree.specs.TreeBytes.{Encodes, At}
use Rattle.edits.specs.declared.Fresh.{Fresh}
use Rattle.gaps.specs.GapsLaws.{Standing}
use Rattle.shell.specs.Replies.{Answer}
use Rattle.shell.specs.CommandBytes.{FollowsSilently}
use Rattle.machine.specs.Working.{tagged}
use Rattle.machine.specs.StoreMachine.{entry_mode, entry_node}
use Rattle.entries.specs.EntrySteps.{judged_walk, changing}

-- ---- the steps

-- not the owner nor root 9; not readable 5; not dominated 9
unfoldable pub add_tests : Account → Bool → Node → Result (Unit {0})
add_tests a dominated n = do
  require (owns a n) Reserved
  require ((by_modes a).readable n) Access
  require dominated Reserved

-- the person's walk to what is added
abbrev pub add_walk : Account → Bool → Place Node → Path → Result (Place Node)
add_walk a dominated = judged_walk a (add_tests a dominated)

-- the account's room for the entry; too many nodes 10
unfoldable pub add_room : Account → Place Node → EntryPath → Result (Place Node)
add_room a t e = do
  folder ← room (by_modes a) t (entry_location e)
  require (leb (nodes t + 1) most_nodes) Full
  done folder

-- ---- the tree afterwards

-- the entry is put in, of the kind and the content of what was found, which is tagged
unfoldable pub after_add : Place Node → Path → EntryPath → BoundedRole → Place Node → Place Node
after_add t w e z found =
    tagged w e 1 (update (in_rep e.folder) (put e.name (leaf (entry_node found.here.kind z 1 found.here.content))) t)

-- ---- the command

abbrev pub add_steps : Account → Account → Bool → BoundedRole → Place Node → Path → EntryPath → Result (Outcome (Place Node))
add_steps person account dominated z t w e = add_walk person dominated t w >>= λ d. changing (add_room account t e) (λ f. after_add t w e z d)

-- ---- the entry's row

-- a new entry of a role, without its content
unfoldable pub fresh_entry : Kind → Role → Fresh
fresh_entry kind r = record { kind = kind; owner = service_uid r; group = service_gid r; mode = entry_mode kind; revision = 1 }

-- a new node with content
abbrev pub filled_node : Fresh → Text → Node
filled_node f content = record {
  kind = f.kind;
  owner = f.owner;
  group = f.group;
  mode = f.mode;
  revision = f.revision;
  tag = none;
  content = content;
}

-- ---- what is known when it is made

-- in the bytes b what is added has the row `working`, and there is room for its entry, the row of which comes in at the index and lies k deep
pub record Addition (b : List ℕ) (entry : Text) (working at k : ℕ) : Type 0 where
  pub top : Place Node
  pub path : Path
  pub found : Place Node
  pub file : At b top path working found
  pub filed : EntryPath
  pub reads : entry_path entry ≡ some filed
  pub account : Account
  pub row : ℕ
  pub stands : Standing b top (entry_location filed) account row at k
  pub few : nodes top + 1 ≤ most_rows

-- ---- promises

-- what is answered and left is what the steps come to
abbrev pub Adds : List ℕ → Caller → Account → Bool → Role → Path → EntryPath → Answer → List ℕ → Type 0
Adds b c a dominated role w e r b' = (t : Place Node) (z : BoundedRole) → Encodes b t → z.role ≡ role
    → FollowsSilently (add_steps c.account a dominated z t w e) b r b'
