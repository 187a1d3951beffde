-- The store as a machine: one tree, in which persons and accounts alike are judged by owners, groups and modes.
use Rattle.std.proofs.Math.Option.{none}
use Rattle.std.specs.Prelude.{ℕ, suc}
use Rattle.buffers.specs.Text.{Text}
use Rattle.accounts.specs.Dominance.{BoundedRole}
use Rattle.accounts.specs.Service.{service_uid, service_gid, service}
use Rattle.syntax.specs.Number.{octal}
use Rattle.syntax.specs.Path.{in_rep, entry_location}
use Rattle.tree.specs.declared.Kind.{Kind}
use Rattle.tree.specs.declared.Kind.TheVariants.{File, Directory}
use Rattle.tree.specs.Forest.{Place, update, alter, put, drop, leaf}
use Rattle.tree.specs.Node.{Node, set_revision, set_content}
use Rattle.tree.specs.Walk.{by_modes}
use Rattle.store.specs.State.{Store}
use Rattle.machine.specs.Machine.{Machine}

-- an entry is a file of mode 0440 or a directory of mode 0770
unfoldable pub entry_mode : Kind → ℕ
entry_mode File = octal 0 4 4 0
entry_mode Directory = octal 0 7 7 0

-- an entry of a role: owner and group are the role's, no tag
unfoldable pub entry_node : Kind → BoundedRole → ℕ → Text → Node
entry_node kind r revision content = record {
  kind = kind;
  owner = service_uid r.role;
  group = service_gid r.role;
  mode = entry_mode kind;
  revision = revision;
  tag = none;
  content = content;
}

-- a node with new content and the next revision
unfoldable pub next_node : Text → Node → Node
next_node content n = set_revision (suc n.revision) (set_content content n)

abbrev pub on_tree : (Place Node → Place Node) → Store → Store
on_tree f s = record { tree = f s.tree; registry = s.registry }

abbrev pub store : Machine Store Node
store = record {
  workspace = λ s. s.tree;
  elsewhere = λ s. 0;
  entries = λ s. s.tree;
  judge = λ setup z. by_modes (service setup.pairs z);
  locate = in_rep;
  revision = λ n. n.revision;
  content = λ n. n.content;
  registry = λ s. s.registry;
  file = λ e kind r content. on_tree (update (in_rep e.folder) (put e.name (leaf (entry_node kind r 1 content))));
  revise = λ e content. on_tree (update (entry_location e) (alter (next_node content)));
  remove = λ e. on_tree (update (in_rep e.folder) (drop e.name));
  on_workspace = on_tree;
  with_registry = λ registry s. record { tree = s.tree; registry = registry };
}
