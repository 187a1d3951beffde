-- The copies that `co` makes: of a node and of all below it that may be read, as nodes of the person's.
use Rattle.std.specs.Prelude.{Bool, cond, ℕ}
use Rattle.buffers.specs.Text.{Text}
use Rattle.accounts.specs.declared.Caller.{Caller}
use Rattle.syntax.specs.Number.{octal}
use Rattle.syntax.specs.Path.{Path, ◌▹◌, EntryPath, below_rep}
use Rattle.tree.specs.declared.Kind.{Kind}
use Rattle.tree.specs.declared.Kind.TheVariants.{File, Directory}
use Rattle.tree.specs.Forest.{Forest, nil, node, Place}
use Rattle.tree.specs.Node.{Tag, Node, set_tag, set_content, new_node}
use Rattle.tree.specs.Walk.{Judge}

-- what is copied of a payload, and whether it may be read
pub record Source (A : Type 0) : Type 0 where
  pub kind : A → Kind
  pub readable : A → Bool
  pub revision : A → ℕ
  pub content : A → Text

-- nodes as a judge sees them
abbrev pub nodes_by : Judge Node → Source Node
nodes_by j = record { kind = j.kind; readable = j.readable; revision = λ n. n.revision; content = λ n. n.content }

-- copies belong to the person, 0600 or 0700
unfoldable pub copy_mode : Kind → ℕ
copy_mode File = octal 0 6 0 0
copy_mode Directory = octal 0 7 0 0

-- a copy, in a directory of the person's, of what stands at an entry path
unfoldable pub copy_node : Caller → Node → Kind → Text → Tag → Node
copy_node c parent kind content tag = set_content content (set_tag tag (new_node c parent kind (copy_mode kind)))

-- Copies of all that may be read; a node that may not is skipped with all below.
module _ {A : Type 0} (c : Caller) (s : Source A) where
  unfoldable pub copied : Node → EntryPath → A → Node
  copied parent e a = copy_node c parent (s.kind a) (s.content a) (record { path = e; revision = s.revision a })

  unfoldable pub copy_children : Node → Path → Forest A → Forest Node
  copy_children parent folder nil = nil
  copy_children parent folder (node n a cs rest) =
      let x = copied parent (record { folder = folder; name = n }) a in
      let others = copy_children parent folder rest in
      cond (s.readable a) (node n x (copy_children x (folder ▹ n) cs) others) others

  unfoldable pub copy : Node → EntryPath → Place A → Place Node
  copy parent e d =
      let x = copied parent e d.here in
      record { here = x; below = copy_children x (below_rep e) d.below }
