-- What may differ between two stores unseen, and by whom: contents and revisions of the file entries of a role r, and everyone
-- without a session of a role that dominates r.
--
-- Two stores differ only there if they are one store once these are redacted: `redacted r s ≡ redacted r s'`. Everything else is then
-- equal, which entries there are with their kinds and roles, the workspace with its tags, the sessions and the working directories.
use Rattle.std.specs.Prelude.{◌≡◌, List, [], Bool, true, false, ◌&&◌, not, cond, ℕ}
use Rattle.std.proofs.Math.Option.{Option, none, some}
use Rattle.buffers.specs.Text.{every}
use Rattle.accounts.specs.Access.{is_root, same_uid}
use Rattle.accounts.specs.Dominance.{BoundedRole}
use Rattle.accounts.specs.Service.{service_uid}
use Rattle.syntax.specs.Path.{root, ◌▹◌, rep}
use Rattle.commands.specs.Command.{AccountForm, login, logout, cd, CommandForm, shell, account, entry, Line, line}
use Rattle.setup.specs.Setup.{Setup}
use Rattle.tree.specs.Forest.{map_place, update}
use Rattle.tree.specs.Node.{is_directory, Node}
use Rattle.store.specs.State.{Sessions, Store, state_of}
use Rattle.store.specs.StoreBytes.{decode}
use Rattle.machine.specs.AbstractMachine.{dominated}
use Rattle.machine.specs.Runs.{Call}

-- ---- what may differ

-- a file of role r's account
unfoldable pub is_secret : BoundedRole → Node → Bool
is_secret r n = not (is_directory n.kind) && same_uid n.owner (service_uid r.role)

-- a node, without revision and content where it is such a file
unfoldable pub redacted_node : BoundedRole → Node → Node
redacted_node r n = record {
  kind = n.kind;
  owner = n.owner;
  group = n.group;
  mode = n.mode;
  revision = cond (is_secret r n) 0 n.revision;
  tag = n.tag;
  content = cond (is_secret r n) [] n.content;
}

-- a store in which the files of role r below `/rep` are redacted
unfoldable pub redacted : BoundedRole → Store → Store
redacted r s = record { tree = update (root ▹ rep) (map_place (redacted_node r)) s.tree; registry = s.registry }

-- bytes that are read as two stores of the setup that differ only in contents and revisions of role r's file entries
pub record DifferOnlyIn (u : Setup) (r : BoundedRole) (b b' : List ℕ) : Type 0 where
  pub first : Store
  pub second : Store
  pub read_first : decode b ≡ some (state_of u first)
  pub read_second : decode b' ≡ some (state_of u second)
  pub same : redacted r first ≡ redacted r second

-- ---- who may not learn it

-- a session whose role dominates r
unfoldable pub is_senior : Setup → BoundedRole → Option BoundedRole → Bool
is_senior u r none = false
is_senior u r (some z) = dominated u z r

-- no session's role dominates r
unfoldable pub without_seniors : Setup → BoundedRole → Sessions → Bool
without_seniors u r sessions = every (λ z. not (is_senior u r z)) sessions

-- a login to a role that dominates r, whether it would be granted or not; whatever its paths are, as they are typed or whole
unfoldable pub admits_senior : {P : Type 0} → Setup → BoundedRole → AccountForm P → Bool
admits_senior u r (login z password) = dominated u z r
admits_senior u r logout = false
admits_senior u r (cd p) = false

unfoldable pub is_junior's : {P : Type 0} → Setup → BoundedRole → CommandForm P → Bool
is_junior's u r (shell command) = true
is_junior's u r (account command) = not (admits_senior u r command)
is_junior's u r (entry command) = true

-- a line without a listed form, or one that is not root's and not such a login
unfoldable pub by_junior : Setup → BoundedRole → Option Line → Bool
by_junior u r none = true
by_junior u r (some l) = not (is_root l.caller) && is_junior's u r l.command

unfoldable pub by_juniors : Setup → BoundedRole → List Call → Bool
by_juniors u r calls = every (λ call. by_junior u r (line call.line)) calls
